-- An object more: what each fact says of it, and that what was there stays there.
use Rattle.std.specs.Prelude.{◌≡◌, ℕ, ◌+◌, ◌<◌, ◌≤◌, true, false, not, List, ◌++◌, map, All, Option, Some, None, IfSome, is_some, unwrap_or, option_and_then, codes}
use Rattle.std.proofs.Common.{refl, sym, ap, subst, ◌∙◌, inl, inr, arith}
use Rattle.std.proofs.lemmas.Bool.{both_ways}
use Rattle.std.proofs.lemmas.List.Elements.{All-push, All-append, All-weaker, All-map}
use Rattle.cm_base.specs.declared.number.Oid.{Oid}
use Rattle.cm_base.specs.declared.object.Object.{Object}
use Rattle.cm_base.specs.declared.access.Ace.{Ace}
use Rattle.cm_base.specs.declared.access.AccessList.{AccessList}
use Rattle.cm_types.specs.declared.definition.BaseType.{BaseType}
use Rattle.cm_types.specs.declared.definition.BaseType.TheVariants as bases
use Rattle.cm_types.specs.Types.{props_of}
use Rattle.cm_types.specs.Properties.{value_in, texts_of}
use Rattle.cmis_spec.specs.Repository.{Repository, same, object_at, series_at, is_a, entry_of, entry_name, new_number}
use Rattle.cmis_spec.specs.Access.{oid_named}
use Rattle.cmis_spec.specs.Changes.{with_object}
use Rattle.cmis_spec.specs.Well.{Apart, IsThere, IsBaseAt, IsEntryAt, HasNumbers, HasSeriesNumbers, HasFirsts, HasRenditions, IsRendition, IsPair, HasNames, Differ, HasDocuments, Belongs, HasSeries, IsMember, members, HasSome, HasPlain, IsAlone, is_plain, HasOwnNames, is_version, HasRelationships, IsEnd, HasEnds, HasPolicies, HasAccess, IsAccess, IsAceList, HasLists, is_listed, HasContents, HasTyped, IsTyped, HasKept, IsKept, HasOwnValues, OwnsValues, HasTokens, HasBounds, IsWellFormed}
use Rattle.cmis_laws.proofs.Lists.{any_pushed, any_new, find_more, find_last, find_none, find_passed_over, apart_push, apart_weaker, all_zip, same_refl}
use Rattle.cmis_laws.proofs.Entries.{is_other, is_other', object_below, series_below, all_there, IsNamed, entry_is_named, belongs_is_named, kept_by_name, name_by_entry}

-- what a new object must be; documents come with their series and are none of these
pub record IsNewObject (r : Repository) (x : Object) (aces : List Ace) (policies : List Oid) : Type 0 where
  pub number : x.id ≡ new_number r
  pub alone : x.series ≡ None
  pub named : is_some x.name ≡ true
  pub no_document : is_a r bases.Document x ≡ false
  pub typed : IsTyped r.types x
  pub kept : IsKept r (props_of r.types x.kind x.secondary) x
  pub owned : OwnsValues r.types x
  pub ends : is_a r bases.Relationship x ≡ true → HasEnds r x
  pub token : x.token ≤ r.step
  pub room : r.next ≤ r.step + 1
  pub listed : IsAceList aces
  pub applied : All (IsBaseAt r bases.Policy) policies

module _ (r : Repository) (x : Object) (aces : List Ace) (policies : List Oid) (w : IsWellFormed r) (f : IsNewObject r x aces policies) where
  abbrev after : Repository
  after = with_object r x aces policies

  -- ---- what was there

  number : x.id.0 ≡ r.next
  number = ap (λ n. n.0) f.number

  pub object_stays : (n : Oid) (y : Object) → object_at r n ≡ Some y → object_at after n ≡ Some y
  object_stays n y h = find_more (λ z. same z.id n) r.objects x y h

  -- the new object is found
  pub object_new : object_at after x.id ≡ Some x
  object_new = find_last (λ y. same y.id x.id) r.objects x
      (All-weaker (λ y. y.id.0 < r.next) (λ y. same y.id x.id ≡ false) (λ y l. is_other y.id x.id (omega (arith, l, number))) r.objects w.numbers.1) (same_refl x.id)

  -- and under no other number anything more
  pub object_same : (n : Oid) → n.0 < r.next → object_at after n ≡ object_at r n
  object_same n l = find_passed_over (λ y. same y.id n) r.objects x (is_other' n x.id (omega (arith, l, number)))

  pub no_series_new : series_at r x.id ≡ None
  no_series_new = find_none (λ s. same s.id x.id) r.series
      (All-weaker (λ s. s.id.0 < r.next) (λ s. same s.id x.id ≡ false) (λ s l. is_other s.id x.id (omega (arith, l, number))) r.series w.series_numbers.1)

  pub there_stays : (n : Oid) → IsThere r n → IsThere after n
  there_stays n h = (h.0, object_stays n h.0 h.1)

  pub base_stays : (k : BaseType) (n : Oid) → IsBaseAt r k n → IsBaseAt after k n
  base_stays k n h = (h.0, object_stays n h.0 h.1, h.2)

  pub entry_stays : (n : Oid) → IsEntryAt r n → IsEntryAt after n
  entry_stays n (inl h) = inl (base_stays bases.Folder n h)
  entry_stays n (inr (inl h)) = inr (inl (base_stays bases.Item n h))
  entry_stays n (inr (inr h)) = inr (inr h)

  -- the names of what is there stay
  pub name_stays : (n : Oid) → IsNamed r n → entry_name after n ≡ entry_name r n
  name_stays n (inl h) = rw (object_stays n h.0 h.1, h.1) refl
  name_stays n (inr h) = rw h.1 refl

  kept_stays : (y : Object) → object_at r y.id ≡ Some y → Belongs r y y.series → IsKept r (props_of r.types y.kind y.secondary) y → IsKept after (props_of r.types y.kind y.secondary) y
  kept_stays y there b k = kept_by_name r after (props_of r.types y.kind y.secondary) y (name_by_entry r after y (name_stays (entry_of y) (belongs_is_named r y y.series there b))) k

  kept_new : IsKept after (props_of r.types x.kind x.secondary) x
  kept_new = kept_by_name r after (props_of r.types x.kind x.secondary) x (own x.name f.named) f.kept
    where
      own : (o : Option (List ℕ)) → is_some o ≡ true → unwrap_or o (entry_name after (entry_of x)) ≡ unwrap_or o (entry_name r (entry_of x))
      own None h = absurd (both_ways false refl h)
      own (Some name) h = refl

  -- ---- the facts

  pub numbers_with : HasNumbers after
  numbers_with = (
    apart_push (λ y z. y.id.0 < z.id.0) r.objects x w.numbers.0 (All-weaker (λ y. y.id.0 < r.next) (λ y. y.id.0 < x.id.0) (λ y l. omega (arith, l, number)) r.objects w.numbers.1),
    All-push (λ y. y.id.0 < r.next + 1) r.objects x (All-weaker (λ y. y.id.0 < r.next) (λ y. y.id.0 < r.next + 1) (λ y l. omega (arith, l)) r.objects w.numbers.1) (omega (arith, number)),
  )

  pub series_numbers_with : HasSeriesNumbers after
  series_numbers_with = (w.series_numbers.0, All-weaker (λ s. s.id.0 < r.next) (λ s. s.id.0 < r.next + 1) (λ s l. omega (arith, l)) r.series w.series_numbers.1)

  pub firsts_with : HasFirsts after
  firsts_with = all_zip (λ s. s.id.0 < r.next) (λ s. IfSome (object_at r s.id) (λ y. y.series ≡ Some s.id)) (λ s. IfSome (object_at after s.id) (λ y. y.series ≡ Some s.id)) r.series
      (λ s l h. subst (λ o. IfSome o (λ y. y.series ≡ Some s.id)) (sym (object_same s.id l)) h) w.series_numbers.1 w.firsts

  pub renditions_with : HasRenditions after
  renditions_with = (
    w.renditions.0,
    All-weaker (IsRendition r) (IsRendition after)
        (λ d h. (omega (arith, h.0), object_same d.id h.0 ∙ h.1, there_stays d.of h.2)) r.renditions w.renditions.1,
  )

  pub pairs_with : All (IsPair after) r.filed
  pairs_with = All-weaker (IsPair r) (IsPair after) (λ p l. (base_stays bases.Folder p.folder l.0, entry_stays p.child l.1)) r.filed w.pairs

  pub names_with : HasNames after
  names_with = apart_weaker (IsPair r) (Differ r) (Differ after) r.filed
      (λ p q a b d e. rw (name_stays p.child (entry_is_named r p.child a.1), name_stays q.child (entry_is_named r q.child b.1)) (d e)) w.pairs w.names

  pub documents_with : HasDocuments after
  documents_with = All-push (λ y. Belongs r y y.series) r.objects x w.documents (rw f.alone f.no_document)

  pub series_with : HasSeries after
  series_with = All-weaker (λ s. All (IsMember r s) (members s) × Apart (λ m n. same m n ≡ false) (members s) × HasSome s) (λ s. All (IsMember after s) (members s) × Apart (λ m n. same m n ≡ false) (members s) × HasSome s)
      (λ s l. (All-weaker (IsMember r s) (IsMember after s) (λ n m. (m.0, object_stays n m.0 m.1, m.2)) (members s) l.0, l.1, l.2)) r.series w.series

  pub plain_with : HasPlain after
  plain_with = All-push (λ y. is_plain r y ≡ true → IfSome y.series (λ n. IfSome (series_at r n) (λ s. IsAlone s y.id))) r.objects x w.plain
      (λ e. rw f.alone tt)

  pub own_names_with : HasOwnNames after
  own_names_with = All-push (λ y. is_some y.name ≡ not (is_version r y)) r.objects x w.own_names (rw f.alone f.named)

  named_stays : (n : Option Oid) (y : Object) → option_and_then (object_at r) n ≡ Some y → option_and_then (object_at after) n ≡ Some y
  named_stays None y h = h
  named_stays (Some n) y h = object_stays n y h

  ends_with : (y : Object) → HasEnds r y → HasEnds after y
  ends_with y h = All-weaker (IsEnd r) (IsEnd after) (λ t e. (e.0, named_stays (oid_named t) e.0 e.1, e.2))
      (texts_of (value_in y.values (codes "cmis:sourceId")) ++ texts_of (value_in y.values (codes "cmis:targetId"))) h

  pub relationships_with : HasRelationships after
  relationships_with = All-push (λ y. is_a r bases.Relationship y ≡ true → HasEnds after y) r.objects x
      (All-weaker (λ y. is_a r bases.Relationship y ≡ true → HasEnds r y) (λ y. is_a r bases.Relationship y ≡ true → HasEnds after y) (λ y g e. ends_with y (g e)) r.objects w.relationships)
      (λ e. ends_with x (f.ends e))

  pub policies_with : HasPolicies after
  policies_with = All-append (λ p. IsBaseAt after bases.Policy p.policy × IsThere after p.object) r.applied (map (λ p. record { policy = p; object = x.id }) policies)
      (All-weaker (λ p. IsBaseAt r bases.Policy p.policy × IsThere r p.object) (λ p. IsBaseAt after bases.Policy p.policy × IsThere after p.object)
      (λ p l. (base_stays bases.Policy p.policy l.0, there_stays p.object l.1)) r.applied w.policies)
      (All-map (λ p. IsBaseAt after bases.Policy p.policy × IsThere after p.object) (λ p. record { policy = p; object = x.id }) policies
      (All-weaker (IsBaseAt r bases.Policy) (λ p. IsBaseAt after bases.Policy p × IsThere after x.id) (λ p h. (base_stays bases.Policy p h, (x, object_new))) policies f.applied))

  access_stays : (l : AccessList) → IsAccess r l → IsAccess after l
  access_stays l (inl h, a) = (inl (h.0, object_stays l.at h.0 h.1, h.2), a)
  access_stays l (inr h, a) = (inr h, a)

  access_below : (l : AccessList) → IsAccess r l → l.at.0 < x.id.0
  access_below l (inl h, a) = let b : l.at.0 < r.next = object_below r l.at h.0 w.numbers h.1 in omega (arith, b, number)
  access_below l (inr h, a) = let b : l.at.0 < r.next = series_below r l.at h.0 w.series_numbers h.1 in omega (arith, b, number)

  pub access_with : HasAccess after
  access_with = (
    apart_push (λ k l. k.at.0 < l.at.0) r.access (record { at = x.id; aces = aces }) w.access.0 (All-weaker (IsAccess r) (λ l. l.at.0 < x.id.0) access_below r.access w.access.1),
    All-push (IsAccess after) r.access (record { at = x.id; aces = aces }) (All-weaker (IsAccess r) (IsAccess after) access_stays r.access w.access.1) (inl (x, object_new, f.no_document), f.listed),
  )

  pub lists_with : HasLists after
  lists_with = All-push (λ y. is_listed after.access (entry_of y) ≡ true) r.objects x
      (All-weaker (λ y. is_listed r.access (entry_of y) ≡ true) (λ y. is_listed after.access (entry_of y) ≡ true)
      (λ y h. any_pushed (λ l. same l.at (entry_of y)) r.access (record { at = x.id; aces = aces }) h) r.objects w.listed)
      (any_new (λ l. same l.at (entry_of x)) r.access (record { at = x.id; aces = aces }) (ap (λ o. same x.id (unwrap_or o x.id)) f.alone ∙ same_refl x.id))

  pub own_values_with : HasOwnValues after
  own_values_with = All-push (OwnsValues r.types) r.objects x w.own_values f.owned

  pub contents_with : HasContents after
  contents_with = (w.contents.0, All-weaker (λ c. IsBaseAt r bases.Document c.of × (c.step ≤ r.step)) (λ c. IsBaseAt after bases.Document c.of × (c.step ≤ r.step)) (λ c h. (base_stays bases.Document c.of h.0, h.1)) r.contents w.contents.1)

  pub typed_with : HasTyped after
  typed_with = All-push (IsTyped r.types) r.objects x w.typed f.typed

  pub kept_with : HasKept after
  kept_with = All-push (λ y. IsKept after (props_of r.types y.kind y.secondary) y) r.objects x
      (all_zip (λ y. object_at r y.id ≡ Some y) (λ y. Belongs r y y.series × IsKept r (props_of r.types y.kind y.secondary) y) (λ y. IsKept after (props_of r.types y.kind y.secondary) y) r.objects
      (λ y there h. kept_stays y there h.0 h.1) (all_there r.objects w.numbers.0)
      (all_zip (λ y. Belongs r y y.series) (λ y. IsKept r (props_of r.types y.kind y.secondary) y) (λ y. Belongs r y y.series × IsKept r (props_of r.types y.kind y.secondary) y) r.objects (λ y b k. (b, k)) w.documents w.kept))
      kept_new

  pub tokens_with : HasTokens after
  tokens_with = All-push (λ y. y.token ≤ r.step) r.objects x w.tokens f.token

  pub bounds_with : HasBounds after
  bounds_with = (w.bounds.0, w.bounds.1, omega (arith, f.room), w.bounds.3)
