-- A write that makes a document keeps what is well formed: the document with its series, its access list, policies and content, its place, the step and the event.
use Rattle.std.specs.Prelude.{◌≡◌, ℕ, ◌+◌, ◌≤◌, Bool, true, false, not, ◌&&◌, List, [], ◌∷◌, length, All, Option, Some, None, IfSome, is_some, bytes_eq}
use Rattle.std.specs.List.{list_any}
use Rattle.std.proofs.Common.{refl, sym, ap, subst, ◌∙◌, inr, arith}
use Rattle.std.proofs.lemmas.List.Elements.{All-weaker, All-head, All-tail}
use Rattle.cm_base.specs.declared.number.Oid.{Oid}
use Rattle.cm_base.specs.declared.number.Moment.{Moment}
use Rattle.cm_base.specs.declared.object.Object.{Object}
use Rattle.cm_base.specs.declared.series.Series.{Series}
use Rattle.cm_base.specs.declared.content.Content.{Content}
use Rattle.cm_base.specs.declared.access.Ace.{Ace}
use Rattle.cm_base.specs.declared.filing.Filed.{Filed}
use Rattle.cm_base.specs.declared.log.ChangeKind.TheVariants as changes
use Rattle.cm_types.specs.declared.definition.BaseType.TheVariants as bases
use Rattle.cm_types.specs.Types.{props_of}
use Rattle.cmis_spec.specs.Repository.{Repository, same, series_at, is_a, is_filed, is_taken, entry_name, new_number, longest_stream}
use Rattle.cmis_spec.specs.Changes.{stepped, noted, with_pair}
use Rattle.cmis_spec.specs.Documents.{with_document, with_policies, with_content, with_contents}
use Rattle.cmis_spec.specs.Well.{IsBaseAt, IsPair, IsAceList, IsAlone, is_plain, members, IsTyped, IsKept, OwnsValues, IsWellFormed}
use Rattle.cmis_laws.proofs.Entries.{entry_is_named}
use Rattle.cmis_laws.proofs.Begun.{IsNewDocument, HasLabelsOf, document_keeps, document_stays, document_there, document_series, document_names}
use Rattle.cmis_laws.proofs.Listed.{policies_keep, content_keeps}
use Rattle.cmis_laws.proofs.Paired.{pair_keeps, unfiled}
use Rattle.cmis_laws.proofs.Steps.{HasRoom, step_keeps, note_keeps}

-- the pair of a new document, where it is filed
abbrev pub filed_at : Repository → Option Oid → Oid → Repository
filed_at r None n = r
filed_at r (Some folder) n = with_pair r folder n

-- what a document that a write makes must be, by the repository before it
pub record IsMadeDocument (r : Repository) (cost : ℕ) (x : Object) (s : Series) (aces : List Ace) (policies : List Oid) (o : Option Content) (folder : Option Oid) : Type 0 where
  pub number : x.id ≡ new_number r
  pub base : is_a r bases.Document x ≡ true
  pub typed : IsTyped r.types x
  pub kept : IsKept r (props_of r.types x.kind x.secondary) x
  pub owned : OwnsValues r.types x
  pub token : x.token ≤ r.step + 1
  pub series : x.series ≡ Some s.id
  pub first : s.id ≡ x.id
  pub alone : members s ≡ x.id ∷ []
  pub plain : is_plain r x ≡ true → IsAlone s x.id
  pub own : is_some x.name ≡ not (list_any (λ v. same v.object x.id) s.versions)
  pub labels : HasLabelsOf (r.step + 1) s
  pub listed : IsAceList aces
  pub applied : All (IsBaseAt r bases.Policy) policies
  pub content : IfSome o (λ c. (c.of ≡ x.id) × (c.step ≤ r.step + 1) × (length c.stream.pieces ≤ longest_stream))
  pub below : IfSome folder (IsBaseAt r bases.Folder)
  pub free : IfSome folder (λ f. is_taken r f x.id s.name ≡ false)
  pub room : HasRoom r cost

module _ (r : Repository) (cost : ℕ) (m : Moment) (x : Object) (s : Series) (aces : List Ace) (policies : List Oid) (o : Option Content) (folder : Option Oid)
    (w : IsWellFormed r) (f : IsMadeDocument r cost x s aces policies o folder) where
  w1 : IsWellFormed (stepped r cost)
  w1 = step_keeps r cost w f.room

  is_new : IsNewDocument (stepped r cost) x s aces
  is_new = record {
    number = f.number;
    room = omega (arith, w.bounds.2);
    base = f.base;
    typed = f.typed;
    kept = f.kept;
    owned = f.owned;
    token = f.token;
    series = f.series;
    first = f.first;
    alone = f.alone;
    plain = f.plain;
    own = f.own;
    labels = f.labels;
    listed = f.listed;
  }

  abbrev q1 : Repository
  q1 = with_document (stepped r cost) x s aces

  base_stays : (n : Oid) (b : _) → IsBaseAt r b n → IsBaseAt q1 b n
  base_stays n b h = (h.0, document_stays (stepped r cost) x s aces w1 is_new n h.0 h.1, h.2)

  abbrev q2 : Repository
  q2 = with_policies q1 x.id policies

  w2 : IsWellFormed q2
  w2 = policies_keep q1 x.id policies (document_keeps (stepped r cost) x s aces w1 is_new) (x, document_there (stepped r cost) x s aces w1 is_new)
      (All-weaker (IsBaseAt r bases.Policy) (IsBaseAt q1 bases.Policy) (λ n h. base_stays n bases.Policy h) policies f.applied)

  -- the contents and nothing else may be others
  abbrev q3 : List Content → Repository
  q3 cs = record q2 { contents = cs }

  not_filed : (g : Oid) → is_filed r g x.id ≡ false
  not_filed g = none r.filed (unfiled r x.id w.numbers w.series_numbers w.pairs (ap (λ n. n.0) f.number))
    where
      and_none : (a b : Bool) → b ≡ false → a && b ≡ false
      and_none true b h = h
      and_none false b h = refl

      none : (ps : List Filed) → All (λ p. same p.child x.id ≡ false) ps → list_any (λ p. same p.folder g && same p.child x.id) ps ≡ false
      none [] all = refl
      none (p ∷ ps) all = rw (and_none (same p.folder g) (same p.child x.id) (All-head (λ p. same p.child x.id ≡ false) p ps all)) (none ps (All-tail (λ p. same p.child x.id ≡ false) p ps all))

  -- no child of the folder has the name
  still_free : (g : Oid) → is_taken r g x.id s.name ≡ false → is_taken q1 g x.id s.name ≡ false
  still_free g h = sym (each r.filed w.pairs) ∙ h
    where
      each : (ps : List Filed) → All (IsPair r) ps → list_any (λ p. same p.folder g && not (same p.child x.id) && bytes_eq (entry_name r p.child) s.name) ps ≡ list_any (λ p. same p.folder g && not (same p.child x.id) && bytes_eq (entry_name q1 p.child) s.name) ps
      each [] all = refl
      each (p ∷ ps) all = rw (sym (document_names (stepped r cost) x s aces w1 is_new p.child (entry_is_named r p.child (All-head (IsPair r) p ps all).1)), each ps (All-tail (IsPair r) p ps all)) refl

  name_new : entry_name q1 x.id ≡ s.name
  name_new = subst (λ n. entry_name q1 n ≡ s.name) f.first (rw (document_series (stepped r cost) x s aces w1 is_new) refl)

  placed : (cs : List Content) → IsWellFormed (q3 cs) → (g : Option Oid) → IfSome g (IsBaseAt r bases.Folder) → IfSome g (λ f. is_taken r f x.id s.name ≡ false) → IsWellFormed (noted (filed_at (q3 cs) g x.id) changes.Created x.id m [])
  placed cs k None below free = note_keeps (q3 cs) changes.Created x.id m [] k
  placed cs k (Some g) below free = note_keeps (with_pair (q3 cs) g x.id) changes.Created x.id m [] (pair_keeps (q3 cs) g x.id k (record {
    below = base_stays g bases.Folder below;
    leaf = inr (s, subst (λ n. series_at q1 n ≡ Some s) f.first (document_series (stepped r cost) x s aces w1 is_new));
    unfiled = not_filed g;
    free = subst (λ name. is_taken q1 g x.id name ≡ false) (sym name_new) (still_free g free);
  }))

  with_its : (c : Option Content) → IfSome c (λ c. (c.of ≡ x.id) × (c.step ≤ r.step + 1) × (length c.stream.pieces ≤ longest_stream)) → (g : Option Oid) → IfSome g (IsBaseAt r bases.Folder) → IfSome g (λ f. is_taken r f x.id s.name ≡ false)
      → IsWellFormed (noted (filed_at (with_contents q2 c) g x.id) changes.Created x.id m [])
  with_its None h g below free = placed q2.contents w2 g below free
  with_its (Some c) h g below free = placed (with_content q2 c).contents (content_keeps q2 c w2 (subst (IsBaseAt q2 bases.Document) (sym h.0) (x, document_there (stepped r cost) x s aces w1 is_new, f.base)) h.1 h.2) g below free

  pub made_document_keeps : IsWellFormed (noted (filed_at (with_contents (with_policies (with_document (stepped r cost) x s aces) x.id policies) o) folder x.id) changes.Created x.id m [])
  made_document_keeps = with_its o f.content folder f.below f.free
