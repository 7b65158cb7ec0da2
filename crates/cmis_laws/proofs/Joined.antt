-- A document more, in a series that is new or was there: what each fact says of it, and that what was there stays there.
use Rattle.std.specs.Prelude.{◌≡◌, ℕ, ◌+◌, ◌<◌, ◌≤◌, Bool, true, false, not, List, [], ◌∷◌, ◌++◌, count_by, All, Option, Some, None, IfSome, is_some, unwrap_or, option_map, option_and_then, codes}
use Rattle.std.specs.List.{list_any}
use Rattle.std.proofs.Common.{refl, sym, ap, subst, ◌∙◌, inl, inr, arith}
use Rattle.std.proofs.lemmas.Bool.{both_ways}
use Rattle.std.proofs.lemmas.List.Elements.{All-push, All-weaker}
use Rattle.cm_base.specs.declared.number.Oid.{Oid}
use Rattle.cm_base.specs.declared.object.Object.{Object}
use Rattle.cm_base.specs.declared.series.Series.{Series}
use Rattle.cm_base.specs.declared.access.AccessList.{AccessList}
use Rattle.cm_types.specs.declared.definition.BaseType.{BaseType}
use Rattle.cm_types.specs.declared.definition.BaseType.TheVariants as bases
use Rattle.cm_types.specs.Types.{props_of}
use Rattle.cm_types.specs.Properties.{value_in, texts_of}
use Rattle.cmis_spec.specs.Repository.{Repository, same, root, object_at, series_at, is_a, entry_name, new_number}
use Rattle.cmis_spec.specs.Access.{oid_named}
use Rattle.cmis_spec.specs.Well.{Apart, IsThere, IsBaseAt, IsEntryAt, HasWay, HasFirsts, IsRendition, IsPair, Differ, Belongs, HasSeries, members, HasPlain, is_version, IsEnd, HasEnds, HasAccess, IsAccess, HasLists, IsTyped, IsKept, OwnsValues, HasLabels, IsWellFormed}
use Rattle.cmis_laws.proofs.Lists.{find_more, find_last, find_passed_over, apart_push, apart_weaker, all_zip, same_refl}
use Rattle.cmis_laws.proofs.Entries.{is_other, is_other', object_below, series_below, not_both, IsNamed, entry_is_named}
use Rattle.cmis_laws.proofs.Kept.{kept_anywhere}

-- the document at the end of the objects, these series and these access lists
abbrev pub joined : Repository → Object → List Series → List AccessList → Repository
joined r x ss ls = record r { objects = r.objects ++ x ∷ []; series = ss; access = ls; next = r.next + 1 }

-- a series with all its documents, and perhaps one more that is no version
pub record IsGrown (s t : Series) : Type 0 where
  pub name : t.name ≡ s.name
  pub versions : t.versions ≡ s.versions
  pub more : (n : Oid) → list_any (same n) (members s) ≡ true → list_any (same n) (members t) ≡ true

pub record IsJoined (r : Repository) (x : Object) (ss : List Series) (ls : List AccessList) : Type 0 where
  pub number : x.id ≡ new_number r
  pub room : r.next ≤ r.step + 1
  pub base : is_a r bases.Document x ≡ true
  pub typed : IsTyped r.types x
  pub kept : IsKept r (props_of r.types x.kind x.secondary) x
  pub owned : OwnsValues r.types x
  pub token : x.token ≤ r.step
  -- the series that were there are there, and no other below the next number
  pub rising : Apart (λ s t. s.id.0 < t.id.0) ss
  pub below : All (λ s. s.id.0 < r.next + 1) ss
  pub stays : (n : Oid) (s : Series) → series_at r n ≡ Some s → (t : Series) × (series_at (joined r x ss ls) n ≡ Some t) × IsGrown s t
  pub nothing : (n : Oid) → n.0 < r.next → series_at r n ≡ None → series_at (joined r x ss ls) n ≡ None
  -- what is said of the series, and of the document in its series
  pub firsts : HasFirsts (joined r x ss ls)
  pub belongs : Belongs (joined r x ss ls) x x.series
  pub series : HasSeries (joined r x ss ls)
  pub plain : HasPlain (joined r x ss ls)
  pub own : is_some x.name ≡ not (is_version (joined r x ss ls) x)
  pub labels : HasLabels (joined r x ss ls)
  pub lists : HasAccess (joined r x ss ls)
  pub listed : HasLists (joined r x ss ls)

-- ---- the objects alone

module _ (r : Repository) (x : Object) (ss : List Series) (ls : List AccessList) (w : IsWellFormed r) (number : x.id ≡ new_number r) where
  at_next : x.id.0 ≡ r.next
  at_next = ap (λ n. n.0) number

  pub object_stays : (n : Oid) (y : Object) → object_at r n ≡ Some y → object_at (joined r x ss ls) n ≡ Some y
  object_stays n y h = find_more (λ z. same z.id n) r.objects x y h

  pub object_new : object_at (joined r x ss ls) x.id ≡ Some x
  object_new = find_last (λ y. same y.id x.id) r.objects x
      (All-weaker (λ y. y.id.0 < r.next) (λ y. same y.id x.id ≡ false) (λ y l. is_other y.id x.id (omega (arith, l, at_next))) r.objects w.numbers.1) (same_refl x.id)

  pub object_same : (n : Oid) → n.0 < r.next → object_at (joined r x ss ls) n ≡ object_at r n
  object_same n l = find_passed_over (λ y. same y.id n) r.objects x (is_other' n x.id (omega (arith, l, at_next)))

  pub there_stays : (n : Oid) → IsThere r n → IsThere (joined r x ss ls) n
  there_stays n h = (h.0, object_stays n h.0 h.1)

  pub base_stays : (k : BaseType) (n : Oid) → IsBaseAt r k n → IsBaseAt (joined r x ss ls) k n
  base_stays k n h = (h.0, object_stays n h.0 h.1, h.2)

  -- the lists that were there, where the series are
  pub access_stays : ((n : Oid) (s : Series) → series_at r n ≡ Some s → (t : Series) × (series_at (joined r x ss ls) n ≡ Some t)) → (l : AccessList) → IsAccess r l → IsAccess (joined r x ss ls) l
  access_stays series l (inl h, a) = (inl (h.0, object_stays l.at h.0 h.1, h.2), a)
  access_stays series l (inr h, a) = (inr (series l.at h.0 h.1), a)

  -- the first documents of the series that were there
  pub first_stays : (s : Series) → s.id.0 < r.next → IfSome (object_at r s.id) (λ y. y.series ≡ Some s.id) → IfSome (object_at (joined r x ss ls) s.id) (λ y. y.series ≡ Some s.id)
  first_stays s l h = subst (λ o. IfSome o (λ y. y.series ≡ Some s.id)) (sym (object_same s.id l)) h

-- ---- all

module _ (r : Repository) (x : Object) (ss : List Series) (ls : List AccessList) (w : IsWellFormed r) (f : IsJoined r x ss ls) where
  abbrev after : Repository
  after = joined r x ss ls

  number : x.id.0 ≡ r.next
  number = ap (λ n. n.0) f.number

  stays : (n : Oid) (y : Object) → object_at r n ≡ Some y → object_at after n ≡ Some y
  stays n y h = object_stays r x ss ls w f.number n y h

  base : (k : BaseType) (n : Oid) → IsBaseAt r k n → IsBaseAt after k n
  base k n h = base_stays r x ss ls w f.number k n h

  entry_stays : (n : Oid) → IsEntryAt r n → IsEntryAt after n
  entry_stays n (inl h) = inl (base bases.Folder n h)
  entry_stays n (inr (inl h)) = inr (inl (base bases.Item n h))
  entry_stays n (inr (inr h)) = let t = f.stays n h.0 h.1 in inr (inr (t.0, t.1))

  named_below : (n : Oid) → IsNamed r n → n.0 < r.next
  named_below n (inl h) = object_below r n h.0 w.numbers h.1
  named_below n (inr h) = series_below r n h.0 w.series_numbers h.1

  abbrev named_by : Oid → Option Series → Option Object → List ℕ
  named_by n s y = unwrap_or (option_map (λ s. s.name) s) (unwrap_or (option_and_then (λ y. y.name) y) [])

  pub name_stays : (n : Oid) → IsNamed r n → entry_name after n ≡ entry_name r n
  name_stays n h = by (series_at r n) refl
    where
      below : n.0 < r.next
      below = named_below n h

      by : (o : Option Series) → series_at r n ≡ o → entry_name after n ≡ entry_name r n
      by None e = ap (λ o. named_by n o (object_at after n)) (f.nothing n below e) ∙ (ap (named_by n None) (object_same r x ss ls w f.number n below) ∙ sym (ap (λ o. named_by n o (object_at r n)) e))
      by (Some s) e = let t = f.stays n s e in ap (λ o. named_by n o (object_at after n)) t.1 ∙ (t.2.name ∙ sym (ap (λ o. named_by n o (object_at r n)) e))

  belongs_stays : (y : Object) (o : Option Oid) → Belongs r y o → Belongs after y o
  belongs_stays y None b = b
  belongs_stays y (Some n) b = let t = f.stays n b.1.0 b.1.1 in (b.0, (t.0, t.1, t.2.more y.id b.1.2))

  abbrev version_by : Oid → Option Series → Bool
  version_by n o = unwrap_or (option_map (λ s. list_any (λ v. same v.object n) s.versions) o) false

  abbrev version_in : Repository → Option Oid → Oid → Bool
  version_in q o n = unwrap_or (option_map (λ m. version_by n (series_at q m)) o) false

  version_stays : (y : Object) (o : Option Oid) → Belongs r y o → version_in after o y.id ≡ version_in r o y.id
  version_stays y None b = refl
  version_stays y (Some n) b =
      let t = f.stays n b.1.0 b.1.1 in
      ap (version_by y.id) t.1 ∙ (ap (list_any (λ v. same v.object y.id)) t.2.versions ∙ sym (ap (version_by y.id) b.1.1))

  named_stays : (n : Option Oid) (y : Object) → option_and_then (object_at r) n ≡ Some y → option_and_then (object_at after) n ≡ Some y
  named_stays None y h = h
  named_stays (Some n) y h = stays n y h

  ends_stay : (y : Object) → HasEnds r y → HasEnds after y
  ends_stay y h = All-weaker (IsEnd r) (IsEnd after) (λ t e. (e.0, named_stays (oid_named t) e.0 e.1, e.2))
      (texts_of (value_in y.values (codes "cmis:sourceId")) ++ texts_of (value_in y.values (codes "cmis:targetId"))) h

  no_folder : is_a r bases.Folder x ≡ false
  no_folder = not_both r x bases.Document bases.Folder refl f.base

  pub joined_keeps : IsWellFormed after
  joined_keeps = record {
    numbers = (
      apart_push (λ y z. y.id.0 < z.id.0) r.objects x w.numbers.0 (All-weaker (λ y. y.id.0 < r.next) (λ y. y.id.0 < x.id.0) (λ y l. omega (arith, l, number)) r.objects w.numbers.1),
      All-push (λ y. y.id.0 < r.next + 1) r.objects x (All-weaker (λ y. y.id.0 < r.next) (λ y. y.id.0 < r.next + 1) (λ y l. omega (arith, l)) r.objects w.numbers.1) (omega (arith, number)),
    );
    series_numbers = (f.rising, f.below);
    firsts = f.firsts;
    renditions = (
      w.renditions.0,
      All-weaker (IsRendition r) (IsRendition after)
          (λ d h. (omega (arith, h.0), object_same r x ss ls w f.number d.id h.0 ∙ h.1, there_stays r x ss ls w f.number d.of h.2)) r.renditions w.renditions.1,
    );
    root = (base bases.Folder root w.root.0, w.root.1);
    ways = All-push (λ y. is_a r bases.Folder y ≡ true → HasWay r.filed y.id) r.objects x w.ways (λ e. absurd (both_ways (is_a r bases.Folder x) no_folder e));
    one_parent = All-push (λ y. is_a r bases.Folder y ≡ true → count_by (λ p. same p.child y.id) r.filed ≤ 1) r.objects x w.one_parent (λ e. absurd (both_ways (is_a r bases.Folder x) no_folder e));
    pairs = All-weaker (IsPair r) (IsPair after) (λ p l. (base bases.Folder p.folder l.0, entry_stays p.child l.1)) r.filed w.pairs;
    names = apart_weaker (IsPair r) (Differ r) (Differ after) r.filed
        (λ p q a b d e. rw (name_stays p.child (entry_is_named r p.child a.1), name_stays q.child (entry_is_named r q.child b.1)) (d e)) w.pairs w.names;
    documents = All-push (λ y. Belongs after y y.series) r.objects x (All-weaker (λ y. Belongs r y y.series) (λ y. Belongs after y y.series) (λ y b. belongs_stays y y.series b) r.objects w.documents) f.belongs;
    series = f.series;
    plain = f.plain;
    own_names = All-push (λ y. is_some y.name ≡ not (is_version after y)) r.objects x
        (all_zip (λ y. Belongs r y y.series) (λ y. is_some y.name ≡ not (is_version r y)) (λ y. is_some y.name ≡ not (is_version after y)) r.objects
        (λ y b h. h ∙ ap not (sym (version_stays y y.series b))) w.documents w.own_names) f.own;
    relationships = All-push (λ y. is_a r bases.Relationship y ≡ true → HasEnds after y) r.objects x
        (All-weaker (λ y. is_a r bases.Relationship y ≡ true → HasEnds r y) (λ y. is_a r bases.Relationship y ≡ true → HasEnds after y) (λ y g e. ends_stay y (g e)) r.objects w.relationships)
        (λ e. absurd (both_ways (is_a r bases.Relationship x) (not_both r x bases.Document bases.Relationship refl f.base) e));
    policies = All-weaker (λ p. IsBaseAt r bases.Policy p.policy × IsThere r p.object) (λ p. IsBaseAt after bases.Policy p.policy × IsThere after p.object)
        (λ p l. (base bases.Policy p.policy l.0, there_stays r x ss ls w f.number p.object l.1)) r.applied w.policies;
    access = f.lists;
    listed = f.listed;
    sizes = w.sizes;
    own_values = All-push (OwnsValues r.types) r.objects x w.own_values f.owned;
    groups = w.groups;
    contents = (w.contents.0, All-weaker (λ c. IsBaseAt r bases.Document c.of × (c.step ≤ r.step)) (λ c. IsBaseAt after bases.Document c.of × (c.step ≤ r.step)) (λ c h. (base bases.Document c.of h.0, h.1)) r.contents w.contents.1);
    typed = All-push (IsTyped r.types) r.objects x w.typed f.typed;
    types = w.types;
    defs = w.defs;
    kept = All-push (λ y. IsKept after (props_of r.types y.kind y.secondary) y) r.objects x
        (All-weaker (λ y. IsKept r (props_of r.types y.kind y.secondary) y) (λ y. IsKept after (props_of r.types y.kind y.secondary) y) (λ y k. kept_anywhere r after y y w.defs refl k) r.objects w.kept)
        (kept_anywhere r after x x w.defs refl f.kept);
    bounds = (w.bounds.0, w.bounds.1, omega (arith, f.room), w.bounds.3);
    tokens = All-push (λ y. y.token ≤ r.step) r.objects x w.tokens f.token;
    labels = f.labels;
  }
