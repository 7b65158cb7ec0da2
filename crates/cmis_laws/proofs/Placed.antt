-- A folder or an item that is made in a folder: it stands there from the same step on.
use Rattle.std.specs.Prelude.{◌≡◌, ℕ, ◌≤◌, ◌<◌, Bool, true, false, not, ◌&&◌, ◌⊎◌, List, ◌++◌, ◌∷◌, [], All, count_by, Some, nat_le, bytes_eq}
use Rattle.std.proofs.Common.{refl, ap, inl, inr, arith}
use Rattle.std.proofs.lemmas.Bool.{both_ways}
use Rattle.std.proofs.lemmas.List.Elements.{All-push}
use Rattle.cm_base.specs.declared.number.Oid.{Oid}
use Rattle.cm_base.specs.declared.object.Object.{Object}
use Rattle.cm_base.specs.declared.access.Ace.{Ace}
use Rattle.cm_base.specs.declared.filing.Filed.{Filed}
use Rattle.cm_types.specs.declared.definition.BaseType.TheVariants as bases
use Rattle.cmis_spec.specs.Repository.{Repository, same, root, most_levels, is_a, entry_name, depth_of, is_taken}
use Rattle.cmis_spec.specs.Changes.{with_object, with_pair}
use Rattle.cmis_spec.specs.Well.{HasWay, IsBaseAt, IsEntryAt, IsPair, IsWellFormed, Differ}
use Rattle.cmis_laws.proofs.Lists.{all_zip, same_refl, apart_push, all_from_any, count_passed_over, count_last}
use Rattle.cmis_laws.proofs.Entries.{is_other', object_below, entry_is_named}
use Rattle.cmis_laws.proofs.Added
use Rattle.cmis_laws.proofs.Added.{IsNewObject}
use Rattle.cmis_laws.proofs.Paired.{unfiled, root_paired, ways_paired, way_below, way_of}

-- the place of what is new: a folder in which no child has the name
pub record IsNewPlace (r : Repository) (folder : Oid) (x : Object) : Type 0 where
  pub below : IsBaseAt r bases.Folder folder
  pub name : List ℕ
  pub named : x.name ≡ Some name
  pub free : is_taken r folder x.id name ≡ false

module _ (r : Repository) (x : Object) (aces : List Ace) (policies : List Oid) (folder : Oid) (w : IsWellFormed r) (f : IsNewObject r x aces policies) (p : IsNewPlace r folder x) where
  abbrev after : Repository
  after = with_object r x aces policies

  new_below : (n : Oid) → n.0 < r.next → same x.id n ≡ false
  new_below n l = let e : x.id.0 ≡ r.next = ap (λ n. n.0) f.number in is_other' n x.id (omega (arith, l, e))

  new_unfiled : All (λ q. same q.child x.id ≡ false) r.filed
  new_unfiled = unfiled r x.id w.numbers w.series_numbers w.pairs (ap (λ n. n.0) f.number)

  name_new : entry_name after x.id ≡ p.name
  name_new = rw (Added.no_series_new r x aces policies w f, Added.object_new r x aces policies w f, p.named) refl

  -- the names in the folder differ from the new one
  names_free : All (λ q. q.folder ≡ folder → bytes_eq (entry_name after q.child) (entry_name after x.id) ≡ false) r.filed
  names_free = all_zip (IsPair r) (λ q. (same q.child x.id ≡ false) × (same q.folder folder && not (same q.child x.id) && bytes_eq (entry_name r q.child) p.name ≡ false))
      (λ q. q.folder ≡ folder → bytes_eq (entry_name after q.child) (entry_name after x.id) ≡ false) r.filed
      (λ q a b e. rw (Added.name_stays r x aces policies w f q.child (entry_is_named r q.child a.1), name_new)
      (last (same q.folder folder) (same q.child x.id) (bytes_eq (entry_name r q.child) p.name) (rw e (same_refl folder)) b.0 b.1)) w.pairs
      (all_zip (λ q. same q.child x.id ≡ false) (λ q. same q.folder folder && not (same q.child x.id) && bytes_eq (entry_name r q.child) p.name ≡ false)
      (λ q. (same q.child x.id ≡ false) × (same q.folder folder && not (same q.child x.id) && bytes_eq (entry_name r q.child) p.name ≡ false)) r.filed (λ q a b. (a, b)) new_unfiled
      (all_from_any (λ q. same q.folder folder && not (same q.child x.id) && bytes_eq (entry_name r q.child) p.name) r.filed p.free))
    where
      last : (a b c : Bool) → a ≡ true → b ≡ false → a && not b && c ≡ false → c ≡ false
      last true false c e d h = h
      last true true c e d h = absurd (both_ways true d refl)
      last false b c e d h = absurd (both_ways false refl e)

  entry_new : (is_a r bases.Folder x ≡ true) ⊎ (is_a r bases.Item x ≡ true) → IsEntryAt after x.id
  entry_new (inl e) = inl (x, Added.object_new r x aces policies w f, e)
  entry_new (inr e) = inr (inl (x, Added.object_new r x aces policies w f, e))

  -- where it is a folder, the one above stands less than 48 levels down
  pub placed_keeps : (is_a r bases.Folder x ≡ true) ⊎ (is_a r bases.Item x ≡ true) → (is_a r bases.Folder x ≡ true → nat_le most_levels (depth_of r folder) ≡ false) → IsWellFormed (with_pair after folder x.id)
  placed_keeps base depth =
      let q : Filed = record { folder = folder; child = x.id } in
      record {
        numbers = Added.numbers_with r x aces policies w f;
        series_numbers = Added.series_numbers_with r x aces policies w f;
        firsts = Added.firsts_with r x aces policies w f;
        renditions = Added.renditions_with r x aces policies w f;
        root = (Added.base_stays r x aces policies w f bases.Folder root w.root.0, root_paired r.filed q w.root.1 (new_below root (object_below r root w.root.0.0 w.numbers w.root.0.1)));
        ways = All-push (λ y. is_a r bases.Folder y ≡ true → HasWay (r.filed ++ q ∷ []) y.id) r.objects x (ways_paired r q w.ways)
            (λ e. way_below r q w.root.1 (way_of r folder w.ways p.below) new_unfiled (depth e));
        one_parent = All-push (λ y. is_a r bases.Folder y ≡ true → count_by (λ p. same p.child y.id) (r.filed ++ q ∷ []) ≤ 1) r.objects x
            (all_zip (λ y. y.id.0 < r.next) (λ y. is_a r bases.Folder y ≡ true → count_by (λ p. same p.child y.id) r.filed ≤ 1) (λ y. is_a r bases.Folder y ≡ true → count_by (λ p. same p.child y.id) (r.filed ++ q ∷ []) ≤ 1) r.objects
            (λ y l g e. rw (count_passed_over (λ p. same p.child y.id) r.filed q (new_below y.id l)) (g e)) w.numbers.1 w.one_parent)
            (λ e. count_last (λ p. same p.child x.id) r.filed q new_unfiled);
        pairs = All-push (IsPair after) r.filed q (Added.pairs_with r x aces policies w f)
            (Added.base_stays r x aces policies w f bases.Folder folder p.below, entry_new base);
        names = apart_push (Differ after) r.filed q (Added.names_with r x aces policies w f) names_free;
        documents = Added.documents_with r x aces policies w f;
        series = Added.series_with r x aces policies w f;
        plain = Added.plain_with r x aces policies w f;
        own_names = Added.own_names_with r x aces policies w f;
        relationships = Added.relationships_with r x aces policies w f;
        policies = Added.policies_with r x aces policies w f;
        access = Added.access_with r x aces policies w f;
        listed = Added.lists_with r x aces policies w f;
        contents = Added.contents_with r x aces policies w f;
        sizes = w.sizes;
        typed = Added.typed_with r x aces policies w f;
        types = w.types;
        defs = w.defs;
        kept = Added.kept_with r x aces policies w f;
        own_values = Added.own_values_with r x aces policies w f;
        groups = w.groups;
        bounds = Added.bounds_with r x aces policies w f;
        tokens = Added.tokens_with r x aces policies w f;
        labels = w.labels;
      }
