-- Other types keep a repository well formed, if its objects are of the same bases by them, and keep values of their own without a fault.
use Rattle.std.specs.Prelude.{◌≡◌, ℕ, ◌≤◌, true, false, not, ◌&&◌, List, ◌++◌, codes, All, IfSome, Option, Some, None, count_by, option_map, unwrap_or}
use Rattle.std.proofs.Common.{sym, ap, ◌∙◌, inl, inr}
use Rattle.std.proofs.lemmas.List.Elements.{All-weaker}
use Rattle.cm_base.specs.declared.number.Oid.{Oid}
use Rattle.cm_base.specs.declared.object.Object.{Object}
use Rattle.cm_base.specs.declared.access.AccessList.{AccessList}
use Rattle.cm_types.specs.declared.definition.BaseType.{BaseType}
use Rattle.cm_types.specs.declared.definition.BaseType.TheVariants as bases
use Rattle.cm_types.specs.declared.definition.TypeDef.{TypeDef}
use Rattle.cm_types.specs.Types.{type_in, is_of_base, props_of}
use Rattle.cm_types.specs.Properties.{value_in, texts_of}
use Rattle.cmis_spec.specs.Repository.{Repository, same, root, is_a, object_at, series_at, type_of}
use Rattle.cmis_spec.specs.Access.{oid_named}
use Rattle.cmis_spec.specs.Changes.{with_types}
use Rattle.cmis_spec.specs.Well.{IsThere, IsBaseAt, IsEntryAt, HasWay, IsPair, Belongs, is_plain, IsAlone, IsEnd, HasEnds, IsAccess, IsTyped, HasTypes, HasDefs, IsKept, OwnsValues, IsWellFormed}
use Rattle.cmis_laws.proofs.Lists.{found_holds, all_zip}
use Rattle.cmis_laws.proofs.Passed.{and_then_some}

-- an object stays what it was
pub record IsRetyped (r : Repository) (types : List TypeDef) (x : Object) : Type 0 where
  pub base : (b : BaseType) → is_of_base types b x.kind ≡ is_a r b x
  pub versionable : unwrap_or (option_map (λ t. t.versionable) (type_in types x.kind)) false ≡ unwrap_or (option_map (λ t. t.versionable) (type_of r x)) false
  pub typed : IsTyped types x
  pub kept : IsKept r (props_of types x.kind x.secondary) x
  pub owned : OwnsValues types x

module _ (r : Repository) (types : List TypeDef) (w : IsWellFormed r) (all : All (IsRetyped r types) r.objects) where
  abbrev after : Repository
  after = with_types r types

  base_at : (b : BaseType) (n : Oid) (x : Object) → object_at r n ≡ Some x → is_a after b x ≡ is_a r b x
  base_at b n x h = (found_holds (IsRetyped r types) (λ x. same x.id n) r.objects x all h).base b

  base_stays : (b : BaseType) (n : Oid) → IsBaseAt r b n → IsBaseAt after b n
  base_stays b n h = (h.0, h.1, base_at b n h.0 h.1 ∙ h.2)

  entry_stays : (n : Oid) → IsEntryAt r n → IsEntryAt after n
  entry_stays n (inl h) = inl (base_stays bases.Folder n h)
  entry_stays n (inr (inl h)) = inr (inl (base_stays bases.Item n h))
  entry_stays n (inr (inr h)) = inr (inr h)

  access_stays : (l : AccessList) → IsAccess r l → IsAccess after l
  access_stays l (inl h, a) = (inl (h.0, h.1, base_at bases.Document l.at h.0 h.1 ∙ h.2), a)
  access_stays l (inr h, a) = (inr h, a)

  end_stays : (id : List ℕ) → IsEnd r id → IsEnd after id
  end_stays id e = let at = and_then_some (object_at r) (oid_named id) e.0 e.1 in (e.0, e.1, base_at bases.Relationship at.0 e.0 at.2 ∙ e.2)

  ends_stay : (x : Object) → HasEnds r x → HasEnds after x
  ends_stay x h = All-weaker (IsEnd r) (IsEnd after) end_stays (texts_of (value_in x.values (codes "cmis:sourceId")) ++ texts_of (value_in x.values (codes "cmis:targetId"))) h

  belongs_stays : (x : Object) → IsRetyped r types x → (o : Option Oid) → Belongs r x o → Belongs after x o
  belongs_stays x t None b = t.base bases.Document ∙ b
  belongs_stays x t (Some n) b = (t.base bases.Document ∙ b.0, b.1)

  plain_same : (x : Object) → IsRetyped r types x → is_plain after x ≡ is_plain r x
  plain_same x t = ap (λ b. b && not (unwrap_or (option_map (λ t. t.versionable) (type_in types x.kind)) false)) (t.base bases.Document)
      ∙ ap (λ b. is_a r bases.Document x && not b) t.versionable

  -- what holds of each object of a base
  of_base : (b : BaseType) (P : Object → Type 0) → All (λ x. is_a r b x ≡ true → P x) r.objects → All (λ x. is_a after b x ≡ true → P x) r.objects
  of_base b P h = all_zip (IsRetyped r types) (λ x. is_a r b x ≡ true → P x) (λ x. is_a after b x ≡ true → P x) r.objects (λ x t k e. k (sym (t.base b) ∙ e)) all h

  pub retyped_keeps : HasTypes types → HasDefs types → IsWellFormed after
  retyped_keeps has_types has_defs = record {
    numbers = w.numbers;
    series_numbers = w.series_numbers;
    firsts = w.firsts;
    renditions = w.renditions;
    root = (base_stays bases.Folder root w.root.0, w.root.1);
    ways = of_base bases.Folder (λ x. HasWay r.filed x.id) w.ways;
    one_parent = of_base bases.Folder (λ x. count_by (λ p. same p.child x.id) r.filed ≤ 1) w.one_parent;
    pairs = All-weaker (IsPair r) (IsPair after) (λ p h. (base_stays bases.Folder p.folder h.0, entry_stays p.child h.1)) r.filed w.pairs;
    names = w.names;
    documents = all_zip (IsRetyped r types) (λ x. Belongs r x x.series) (λ x. Belongs after x x.series) r.objects (λ x t b. belongs_stays x t x.series b) all w.documents;
    series = w.series;
    plain = all_zip (IsRetyped r types) (λ x. is_plain r x ≡ true → IfSome x.series (λ n. IfSome (series_at r n) (λ s. IsAlone s x.id)))
        (λ x. is_plain after x ≡ true → IfSome x.series (λ n. IfSome (series_at r n) (λ s. IsAlone s x.id))) r.objects (λ x t h e. h (sym (plain_same x t) ∙ e)) all w.plain;
    own_names = w.own_names;
    relationships = of_base bases.Relationship (HasEnds after) (All-weaker (λ x. is_a r bases.Relationship x ≡ true → HasEnds r x) (λ x. is_a r bases.Relationship x ≡ true → HasEnds after x)
        (λ x h e. ends_stay x (h e)) r.objects w.relationships);
    policies = All-weaker (λ p. IsBaseAt r bases.Policy p.policy × IsThere r p.object) (λ p. IsBaseAt after bases.Policy p.policy × IsThere r p.object)
        (λ p h. (base_stays bases.Policy p.policy h.0, h.1)) r.applied w.policies;
    access = (w.access.0, All-weaker (IsAccess r) (IsAccess after) access_stays r.access w.access.1);
    listed = w.listed;
    contents = (
      w.contents.0,
      All-weaker (λ c. IsBaseAt r bases.Document c.of × (c.step ≤ r.step)) (λ c. IsBaseAt after bases.Document c.of × (c.step ≤ r.step))
          (λ c h. (base_stays bases.Document c.of h.0, h.1)) r.contents w.contents.1,
    );
    sizes = w.sizes;
    typed = All-weaker (IsRetyped r types) (IsTyped types) (λ x t. t.typed) r.objects all;
    types = has_types;
    defs = has_defs;
    kept = All-weaker (IsRetyped r types) (λ x. IsKept r (props_of types x.kind x.secondary) x) (λ x t. t.kept) r.objects all;
    own_values = All-weaker (IsRetyped r types) (OwnsValues types) (λ x t. t.owned) r.objects all;
    groups = w.groups;
    bounds = w.bounds;
    tokens = w.tokens;
    labels = w.labels;
  }
