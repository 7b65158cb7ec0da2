-- An object changed in its place: its name, its values, its secondary types, its change token and its last change are others.
use Rattle.std.specs.Prelude.{◌≡◌, ℕ, ◌≤◌, ◌<◌, Bool, true, false, not, ◌&&◌, if◌then◌else◌, ◌⊎◌, List, [], ◌++◌, map, count_by, All, Contains, Option, Some, None, IfSome, is_some, unwrap_or, option_map, option_and_then, bytes_eq, codes}
use Rattle.std.specs.List.{list_any}
use Rattle.std.proofs.Common.{refl, sym, ap, subst, ◌∙◌, inl, inr, ⊎_elim}
use Rattle.std.proofs.lemmas.Bool.{both_ways}
use Rattle.std.proofs.lemmas.Slice.Eq.{bytes_eq-Decides}
use Rattle.std.proofs.lemmas.List.Elements.{All-map, All-weaker, All-contains, All-contains_itself}
use Rattle.cm_base.specs.declared.number.Oid.{Oid}
use Rattle.cm_base.specs.declared.object.Object.{Object}
use Rattle.cm_base.specs.declared.series.Series.{Series}
use Rattle.cm_base.specs.declared.filing.Filed.{Filed}
use Rattle.cm_base.specs.declared.number.Moment.{Moment}
use Rattle.cm_base.specs.declared.log.ChangeKind.{ChangeKind}
use Rattle.cm_base.specs.declared.access.AccessList.{AccessList}
use Rattle.cm_types.specs.declared.definition.BaseType.{BaseType}
use Rattle.cm_types.specs.declared.definition.BaseType.TheVariants as bases
use Rattle.cm_types.specs.Types.{is_of_base, type_in, props_of}
use Rattle.cm_types.specs.Properties.{value_in, texts_of}
use Rattle.cmis_spec.specs.Repository.{Repository, same, root, object_at, series_at, is_a, entry_of, entry_name, is_taken}
use Rattle.cmis_spec.specs.Access.{oid_named}
use Rattle.cmis_spec.specs.Changes.{edited, stepped, noted}
use Rattle.cmis_spec.specs.Well.{Apart, IsThere, IsBaseAt, IsEntryAt, HasWay, IsPair, Differ, Belongs, members, IsMember, HasSome, IsAlone, is_plain, is_version, IsEnd, HasEnds, IsRendition, IsAccess, is_listed, IsTyped, IsKept, OwnsValues, IsWellFormed}
use Rattle.cmis_laws.proofs.Lists.{by_test, find_alike, bytes_turned, none_some, some_eq, found_holds, same_eq, same_refl, all_zip, all_from_any, apart_weaker, apart_map}
use Rattle.cmis_laws.proofs.Entries.{not_both, number_found, all_there, one_there, kept_by_name}
use Rattle.cmis_laws.proofs.Kept.{find_mapped}
use Rattle.cmis_laws.proofs.Steps.{HasRoom, step_keeps, note_keeps}

-- what a changed object must be, by the repository before it: what it is stays
pub record IsEdit (r : Repository) (x y : Object) : Type 0 where
  pub there : object_at r x.id ≡ Some x
  pub id : y.id ≡ x.id
  pub kind : y.kind ≡ x.kind
  pub series : y.series ≡ x.series
  pub named : is_some y.name ≡ is_some x.name
  -- in none of its folders another child has its name; a document is filed under that of its series
  pub free : All (λ p. x.series ≡ None → same p.child x.id ≡ true → is_taken r p.folder x.id (unwrap_or y.name []) ≡ false) r.filed
  pub typed : IsTyped r.types y
  pub kept : IsKept r (props_of r.types y.kind y.secondary) y
  pub owned : OwnsValues r.types y
  pub ends : is_a r bases.Relationship x ≡ true → HasEnds r y
  pub token : y.token ≤ r.step

-- both are one object in all by which others look it up
record Alike (z v : Object) : Type 0 where
  id : v.id ≡ z.id
  kind : v.kind ≡ z.kind
  series : v.series ≡ z.series
  named : is_some v.name ≡ is_some z.name

third : (a b c : Bool) → a ≡ true → b ≡ true → a && b && c ≡ false → c ≡ false
third true true c x y h = h
third true false c x y h = absurd (both_ways false refl y)
third false b c x y h = absurd (both_ways false refl x)

bytes_self : (xs : List ℕ) → bytes_eq xs xs ≡ true
bytes_self xs = (bytes_eq-Decides xs xs).1 refl

module _ (r : Repository) (x : Object) (change : Object → Object) (w : IsWellFormed r) (f : IsEdit r x (change x)) where
  abbrev after : Repository
  after = edited r x.id change

  abbrev put : Object → Object
  put z = if same z.id x.id then change z else z

  -- ---- one object is changed, and each other stays

  put_x : put x ≡ change x
  put_x = rw (same_refl x.id) refl

  put_other : (z : Object) → same z.id x.id ≡ false → put z ≡ z
  put_other z e = rw e refl

  which : (z : Object) → object_at r z.id ≡ Some z → (z ≡ x) ⊎ (same z.id x.id ≡ false)
  which z there = by_test (same z.id x.id)
      (λ e. inl (some_eq z x (sym there ∙ (ap (object_at r) (same_eq z.id x.id e) ∙ f.there))))
      (λ e. inr e)

  alike : (z : Object) → object_at r z.id ≡ Some z → Alike z (put z)
  alike z there = ⊎_elim
      (λ e. subst (λ v. Alike v (put v)) (sym e) (subst (λ v. Alike x v) (sym put_x) (record { id = f.id; kind = f.kind; series = f.series; named = f.named })))
      (λ e. subst (λ v. Alike z v) (sym (put_other z e)) (record { id = refl; kind = refl; series = refl; named = refl }))
      (which z there)

  all_found : All (λ z. object_at r z.id ≡ Some z) r.objects
  all_found = all_there r.objects w.numbers.0

  alike_found : (n : Oid) (z : Object) → object_at r n ≡ Some z → Alike z (put z)
  alike_found n z h = alike z (ap (object_at r) (number_found r n z h) ∙ h)

  -- a fact of each object that the change keeps
  all_put : (P Q : Object → Type 0) → ((z : Object) → object_at r z.id ≡ Some z → P z → Q (put z)) → All P r.objects → All Q (map put r.objects)
  all_put P Q keep all = All-map Q put r.objects (all_zip (λ z. object_at r z.id ≡ Some z) P (λ z. Q (put z)) r.objects keep all_found all)

  by_object : (P Q : Object → Type 0) → Q (change x) → ((z : Object) → P z → Q z) → All P r.objects → All Q (map put r.objects)
  by_object P Q own other all = all_put P Q (λ z there h. ⊎_elim (λ e. subst Q (sym (ap put e ∙ put_x)) own) (λ e. subst Q (sym (put_other z e)) (other z h)) (which z there)) all

  -- ---- what is there

  object_put : (n : Oid) → object_at after n ≡ option_map put (object_at r n)
  object_put n = find_mapped put (λ z. same z.id n) r.objects
      ∙ ap (option_map put) (find_alike (λ z. same (put z).id n) (λ z. same z.id n) r.objects
      (All-weaker (λ z. object_at r z.id ≡ Some z) (λ z. same (put z).id n ≡ same z.id n) (λ z h. ap (λ i. same i n) (alike z h).id) r.objects all_found))

  object_found : (n : Oid) (z : Object) → object_at r n ≡ Some z → object_at after n ≡ Some (put z)
  object_found n z h = object_put n ∙ ap (option_map put) h

  there_stays : (n : Oid) → IsThere r n → IsThere after n
  there_stays n h = (put h.0, object_found n h.0 h.1)

  base_same : (k : BaseType) (z v : Object) → Alike z v → is_a r k v ≡ is_a r k z
  base_same k z v a = ap (λ kind. is_of_base r.types k kind) a.kind

  base_stays : (k : BaseType) (n : Oid) → IsBaseAt r k n → IsBaseAt after k n
  base_stays k n h = (put h.0, object_found n h.0 h.1, base_same k h.0 (put h.0) (alike_found n h.0 h.1) ∙ h.2)

  entry_stays : (n : Oid) → IsEntryAt r n → IsEntryAt after n
  entry_stays n (inl h) = inl (base_stays bases.Folder n h)
  entry_stays n (inr (inl h)) = inr (inl (base_stays bases.Item n h))
  entry_stays n (inr (inr h)) = inr (inr h)

  numbers : Apart (λ y z. y.id.0 < z.id.0) (map put r.objects) × All (λ z. z.id.0 < r.next) (map put r.objects)
  numbers = (
    apart_map (λ y z. y.id.0 < z.id.0) put r.objects (apart_weaker (λ z. object_at r z.id ≡ Some z) (λ y z. y.id.0 < z.id.0) (λ y z. (put y).id.0 < (put z).id.0) r.objects
        (λ y z a b l. subst (λ n. n.0 < (put z).id.0) (sym (alike y a).id) (subst (λ n. y.id.0 < n.0) (sym (alike z b).id) l)) all_found w.numbers.0),
    all_put (λ z. z.id.0 < r.next) (λ z. z.id.0 < r.next) (λ z t l. subst (λ n. n.0 < r.next) (sym (alike z t).id) l) w.numbers.1,
  )

  first_stays : (n m : Oid) (o : Option Object) → object_at r n ≡ o → IfSome o (λ z. z.series ≡ Some m) → IfSome (option_map put o) (λ z. z.series ≡ Some m)
  first_stays n m None e h = h
  first_stays n m (Some z) e h = (alike_found n z e).series ∙ h

  -- ---- names

  abbrev named_by : Oid → Option Object → List ℕ
  named_by n o = unwrap_or (option_map (λ s. s.name) (series_at r n)) (unwrap_or (option_and_then (λ z. z.name) o) [])

  name_by_series : (n : Oid) (s : Series) → series_at r n ≡ Some s → entry_name after n ≡ entry_name r n
  name_by_series n s h = rw h refl

  name_other : (n : Oid) → same n x.id ≡ false → entry_name after n ≡ entry_name r n
  name_other n e = by (object_at r n) refl
    where
      by : (o : Option Object) → object_at r n ≡ o → entry_name after n ≡ entry_name r n
      by None h = ap (named_by n) (object_put n ∙ (ap (option_map put) h ∙ sym h))
      by (Some z) h = ap (named_by n) (object_put n ∙ (ap (option_map put) h ∙ (ap Some (put_other z (subst (λ m. same m x.id ≡ false) (sym (number_found r n z h)) e)) ∙ sym h)))

  name_new : series_at r x.id ≡ None → entry_name after x.id ≡ unwrap_or (change x).name []
  name_new h = ap (named_by x.id) (object_found x.id x f.there ∙ ap Some put_x) ∙ rw h refl

  belongs_x : Belongs r x x.series
  belongs_x = found_holds (λ z. Belongs r z z.series) (λ z. same z.id x.id) r.objects x w.documents f.there

  alone : (o : Option Oid) → Belongs r x o → is_a r bases.Document x ≡ false → o ≡ None
  alone None b h = refl
  alone (Some n) b h = absurd (both_ways (is_a r bases.Document x) h b.0)

  -- a folder or an item is in no series
  alone_entry : IsEntryAt r x.id → series_at r x.id ≡ None → x.series ≡ None
  alone_entry (inl e) none = alone x.series belongs_x (not_both r x bases.Folder bases.Document refl (subst (λ z. is_a r bases.Folder z ≡ true) (one_there r x.id e.0 x e.1 f.there) e.2))
  alone_entry (inr (inl e)) none = alone x.series belongs_x (not_both r x bases.Item bases.Document refl (subst (λ z. is_a r bases.Item z ≡ true) (one_there r x.id e.0 x e.1 f.there) e.2))
  alone_entry (inr (inr e)) none = absurd (none_some e.0 (sym none ∙ e.1))

  -- what a pair's child is named: as before, or it is x under its new name
  record IsRenamed (p : Filed) : Type 0 where
    at : p.child ≡ x.id
    own : x.series ≡ None
    name : entry_name after p.child ≡ unwrap_or (change x).name []

  name_of_pair : (p : Filed) → IsPair r p → (entry_name after p.child ≡ entry_name r p.child) ⊎ IsRenamed p
  name_of_pair p l = by_test (same p.child x.id)
      (λ e. by (series_at r p.child) refl (same_eq p.child x.id e))
      (λ e. inl (name_other p.child e))
    where
      by : (o : Option Series) → series_at r p.child ≡ o → p.child ≡ x.id → (entry_name after p.child ≡ entry_name r p.child) ⊎ IsRenamed p
      by (Some s) h at = inl (name_by_series p.child s h)
      by None h at =
          let none : series_at r x.id ≡ None = subst (λ n. series_at r n ≡ None) at h in
          inr (record { at = at; own = alone_entry (subst (IsEntryAt r) at l.1) none; name = ap (entry_name after) at ∙ name_new none })

  -- the name is free in a folder of x: no other child has it
  unlike : (p q : Filed) → p.child ≡ x.id → Contains r.filed q → is_taken r p.folder x.id (unwrap_or (change x).name []) ≡ false → p.folder ≡ q.folder
      → bytes_eq (entry_name r p.child) (entry_name r q.child) ≡ false → bytes_eq (entry_name r q.child) (unwrap_or (change x).name []) ≡ false
  unlike p q at there free e differ =
      let name = unwrap_or (change x).name [] in
      let each : same q.folder p.folder && not (same q.child x.id) && bytes_eq (entry_name r q.child) name ≡ false =
      All-contains (λ q. same q.folder p.folder && not (same q.child x.id) && bytes_eq (entry_name r q.child) name ≡ false) r.filed q
      (all_from_any (λ q. same q.folder p.folder && not (same q.child x.id) && bytes_eq (entry_name r q.child) name) r.filed free) there in
      by_test (same q.child x.id)
      (λ t. absurd (both_ways (bytes_eq (entry_name r p.child) (entry_name r q.child)) differ (subst (λ n. bytes_eq (entry_name r p.child) (entry_name r n) ≡ true) (at ∙ sym (same_eq q.child x.id t)) (bytes_self (entry_name r p.child)))))
      (λ t. third (same q.folder p.folder) (not (same q.child x.id)) (bytes_eq (entry_name r q.child) name) (subst (λ g. same g p.folder ≡ true) e (same_refl p.folder)) (rw t refl) each)

  abbrev IsOfPair : Filed → Type 0
  IsOfPair p = IsPair r p × Contains r.filed p × (x.series ≡ None → same p.child x.id ≡ true → is_taken r p.folder x.id (unwrap_or (change x).name []) ≡ false)

  of_pairs : All IsOfPair r.filed
  of_pairs = all_zip (IsPair r) (λ p. Contains r.filed p × (x.series ≡ None → same p.child x.id ≡ true → is_taken r p.folder x.id (unwrap_or (change x).name []) ≡ false)) IsOfPair r.filed (λ p a b. (a, b.0, b.1)) w.pairs
      (all_zip (Contains r.filed) (λ p. x.series ≡ None → same p.child x.id ≡ true → is_taken r p.folder x.id (unwrap_or (change x).name []) ≡ false) (λ p. Contains r.filed p × (x.series ≡ None → same p.child x.id ≡ true → is_taken r p.folder x.id (unwrap_or (change x).name []) ≡ false)) r.filed (λ p a b. (a, b)) (All-contains_itself r.filed) f.free)

  free_at : (p : Filed) → IsOfPair p → IsRenamed p → is_taken r p.folder x.id (unwrap_or (change x).name []) ≡ false
  free_at p a n = a.2 n.own (subst (λ m. same m x.id ≡ true) (sym n.at) (same_refl x.id))

  names_differ : (p q : Filed) → IsOfPair p → IsOfPair q → Differ r p q → p.folder ≡ q.folder
      → (entry_name after p.child ≡ entry_name r p.child) ⊎ IsRenamed p → (entry_name after q.child ≡ entry_name r q.child) ⊎ IsRenamed q
      → bytes_eq (entry_name after p.child) (entry_name after q.child) ≡ false
  names_differ p q a b d e (inl u) (inl v) = ap (λ n. bytes_eq n (entry_name after q.child)) u ∙ (ap (bytes_eq (entry_name r p.child)) v ∙ d e)
  names_differ p q a b d e (inr u) (inl v) = ap (λ n. bytes_eq n (entry_name after q.child)) u.name ∙ (ap (bytes_eq (unwrap_or (change x).name [])) v
      ∙ bytes_turned (entry_name r q.child) (unwrap_or (change x).name []) (unlike p q u.at b.1 (free_at p a u) e (d e)))
  names_differ p q a b d e (inl u) (inr v) = ap (λ n. bytes_eq n (entry_name after q.child)) u ∙ (ap (bytes_eq (entry_name r p.child)) v.name
      ∙ unlike q p v.at a.1 (free_at q b v) (sym e) (bytes_turned (entry_name r p.child) (entry_name r q.child) (d e)))
  names_differ p q a b d e (inr u) (inr v) = absurd (both_ways (bytes_eq (entry_name r p.child) (entry_name r q.child)) (d e)
      (subst (λ n. bytes_eq (entry_name r p.child) (entry_name r n) ≡ true) (u.at ∙ sym v.at) (bytes_self (entry_name r p.child))))

  -- ---- documents

  belongs_like : (z v : Object) → Alike z v → (o : Option Oid) → Belongs r z o → Belongs after v o
  belongs_like z v a None b = base_same bases.Document z v a ∙ b
  belongs_like z v a (Some n) b = (base_same bases.Document z v a ∙ b.0, (b.1.0, b.1.1, subst (λ i. list_any (same i) (members b.1.0) ≡ true) (sym a.id) b.1.2))

  abbrev version_by : Option Oid → Oid → Bool
  version_by o n = unwrap_or (option_map (λ m. unwrap_or (option_map (λ s. list_any (λ u. same u.object n) s.versions) (series_at r m)) false) o) false

  version_same : (z v : Object) → Alike z v → is_version r v ≡ is_version r z
  version_same z v a = ap (λ o. version_by o v.id) a.series ∙ ap (version_by z.series) a.id

  plain_same : (z v : Object) → Alike z v → is_plain r v ≡ is_plain r z
  plain_same z v a = ap (λ kind. is_of_base r.types bases.Document kind && not (unwrap_or (option_map (λ t. t.versionable) (type_in r.types kind)) false)) a.kind

  -- an object has its name of its own, or from its series, which keeps it
  name_stays : (m : Option (List ℕ)) (o : Option Oid) (v : Object) → is_some m ≡ not (version_by o v.id) → Belongs r v o
      → unwrap_or m (entry_name after (unwrap_or o v.id)) ≡ unwrap_or m (entry_name r (unwrap_or o v.id))
  name_stays (Some t) o v h b = refl
  name_stays None None v h b = absurd (both_ways false refl h)
  name_stays None (Some n) v h b = name_by_series n b.1.0 b.1.1

  belongs_change : Belongs r (change x) (change x).series
  belongs_change = subst (Belongs r (change x)) (sym f.series) (by x.series belongs_x)
    where
      by : (o : Option Oid) → Belongs r x o → Belongs r (change x) o
      by None b = ap (λ kind. is_of_base r.types bases.Document kind) f.kind ∙ b
      by (Some n) b = (ap (λ kind. is_of_base r.types bases.Document kind) f.kind ∙ b.0, (b.1.0, b.1.1, subst (λ i. list_any (same i) (members b.1.0) ≡ true) (sym f.id) b.1.2))

  own_x : is_some x.name ≡ not (is_version r x)
  own_x = found_holds (λ z. is_some z.name ≡ not (is_version r z)) (λ z. same z.id x.id) r.objects x w.own_names f.there

  own_change : is_some (change x).name ≡ not (version_by (change x).series (change x).id)
  own_change = f.named ∙ (own_x ∙ ap not (sym (ap (λ o. version_by o (change x).id) f.series ∙ ap (version_by x.series) f.id)))

  kept_change : IsKept after (props_of r.types (change x).kind (change x).secondary) (change x)
  kept_change = kept_by_name r after (props_of r.types (change x).kind (change x).secondary) (change x) (name_stays (change x).name (change x).series (change x) own_change belongs_change) f.kept

  abbrev IsNamedKept : Object → Type 0
  IsNamedKept z = (is_some z.name ≡ not (is_version r z)) × Belongs r z z.series × IsKept r (props_of r.types z.kind z.secondary) z

  named_kept : All IsNamedKept r.objects
  named_kept = all_zip (λ z. is_some z.name ≡ not (is_version r z)) (λ z. Belongs r z z.series × IsKept r (props_of r.types z.kind z.secondary) z) IsNamedKept r.objects (λ z a b. (a, b.0, b.1)) w.own_names
      (all_zip (λ z. Belongs r z z.series) (λ z. IsKept r (props_of r.types z.kind z.secondary) z) (λ z. Belongs r z z.series × IsKept r (props_of r.types z.kind z.secondary) z) r.objects (λ z a b. (a, b)) w.documents w.kept)

  -- ---- relationships

  end_stays : (n : Option Oid) (z : Object) → option_and_then (object_at r) n ≡ Some z → (option_and_then (object_at after) n ≡ Some (put z)) × Alike z (put z)
  end_stays None z h = absurd (none_some z h)
  end_stays (Some n) z h = (object_found n z h, alike_found n z h)

  ends_stay : (y : Object) → HasEnds r y → HasEnds after y
  ends_stay y h = All-weaker (IsEnd r) (IsEnd after)
      (λ t e. let s = end_stays (oid_named t) e.0 e.1 in (put e.0, s.0, base_same bases.Relationship e.0 (put e.0) s.1 ∙ e.2))
      (texts_of (value_in y.values (codes "cmis:sourceId")) ++ texts_of (value_in y.values (codes "cmis:targetId"))) h

  access_stays : (l : AccessList) → IsAccess r l → IsAccess after l
  access_stays l (inl h, a) = (inl (put h.0, object_found l.at h.0 h.1, base_same bases.Document h.0 (put h.0) (alike_found l.at h.0 h.1) ∙ h.2), a)
  access_stays l (inr h, a) = (inr h, a)

  entry_same : (z v : Object) → Alike z v → entry_of v ≡ entry_of z
  entry_same z v a = ap (λ o. unwrap_or o v.id) a.series ∙ ap (unwrap_or z.series) a.id

  -- ---- all

  pub edit_keeps : IsWellFormed after
  edit_keeps = record {
    numbers = numbers;
    series_numbers = w.series_numbers;
    firsts = All-weaker (λ s. IfSome (object_at r s.id) (λ z. z.series ≡ Some s.id)) (λ s. IfSome (object_at after s.id) (λ z. z.series ≡ Some s.id))
        (λ s h. subst (λ o. IfSome o (λ z. z.series ≡ Some s.id)) (sym (object_put s.id)) (first_stays s.id s.id (object_at r s.id) refl h)) r.series w.firsts;
    renditions = (w.renditions.0, All-weaker (IsRendition r) (IsRendition after) (λ d h. (h.0, object_put d.id ∙ ap (option_map put) h.1, there_stays d.of h.2)) r.renditions w.renditions.1);
    root = (base_stays bases.Folder root w.root.0, w.root.1);
    ways = all_put (λ z. is_a r bases.Folder z ≡ true → HasWay r.filed z.id) (λ z. is_a r bases.Folder z ≡ true → HasWay r.filed z.id)
        (λ z t h e. subst (HasWay r.filed) (sym (alike z t).id) (h (sym (base_same bases.Folder z (put z) (alike z t)) ∙ e))) w.ways;
    one_parent = all_put (λ z. is_a r bases.Folder z ≡ true → count_by (λ p. same p.child z.id) r.filed ≤ 1) (λ z. is_a r bases.Folder z ≡ true → count_by (λ p. same p.child z.id) r.filed ≤ 1)
        (λ z t h e. subst (λ n. count_by (λ p. same p.child n) r.filed ≤ 1) (sym (alike z t).id) (h (sym (base_same bases.Folder z (put z) (alike z t)) ∙ e))) w.one_parent;
    pairs = All-weaker (IsPair r) (IsPair after) (λ p l. (base_stays bases.Folder p.folder l.0, entry_stays p.child l.1)) r.filed w.pairs;
    names = apart_weaker IsOfPair (Differ r) (Differ after) r.filed (λ p q a b d e. names_differ p q a b d e (name_of_pair p a.0) (name_of_pair q b.0)) of_pairs w.names;
    documents = all_put (λ z. Belongs r z z.series) (λ z. Belongs after z z.series) (λ z t b. subst (Belongs after (put z)) (sym (alike z t).series) (belongs_like z (put z) (alike z t) z.series b)) w.documents;
    series = All-weaker (λ s. All (IsMember r s) (members s) × Apart (λ m n. same m n ≡ false) (members s) × HasSome s) (λ s. All (IsMember after s) (members s) × Apart (λ m n. same m n ≡ false) (members s) × HasSome s)
        (λ s l. (All-weaker (IsMember r s) (IsMember after s) (λ n m. (put m.0, object_found n m.0 m.1, (alike_found n m.0 m.1).series ∙ m.2)) (members s) l.0, l.1, l.2)) r.series w.series;
    plain = all_put (λ z. is_plain r z ≡ true → IfSome z.series (λ n. IfSome (series_at r n) (λ s. IsAlone s z.id))) (λ z. is_plain r z ≡ true → IfSome z.series (λ n. IfSome (series_at r n) (λ s. IsAlone s z.id)))
        (λ z t h e. subst (λ o. IfSome o (λ n. IfSome (series_at r n) (λ s. IsAlone s (put z).id))) (sym (alike z t).series)
        (subst (λ i. IfSome z.series (λ n. IfSome (series_at r n) (λ s. IsAlone s i))) (sym (alike z t).id) (h (sym (plain_same z (put z) (alike z t)) ∙ e)))) w.plain;
    own_names = all_put (λ z. is_some z.name ≡ not (is_version r z)) (λ z. is_some z.name ≡ not (is_version r z))
        (λ z t h. (alike z t).named ∙ (h ∙ ap not (sym (version_same z (put z) (alike z t))))) w.own_names;
    relationships = by_object (λ z. is_a r bases.Relationship z ≡ true → HasEnds r z) (λ z. is_a r bases.Relationship z ≡ true → HasEnds after z)
        (λ e. ends_stay (change x) (f.ends (sym (ap (λ kind. is_of_base r.types bases.Relationship kind) f.kind) ∙ e))) (λ z h e. ends_stay z (h e)) w.relationships;
    policies = All-weaker (λ p. IsBaseAt r bases.Policy p.policy × IsThere r p.object) (λ p. IsBaseAt after bases.Policy p.policy × IsThere after p.object)
        (λ p l. (base_stays bases.Policy p.policy l.0, there_stays p.object l.1)) r.applied w.policies;
    access = (w.access.0, All-weaker (IsAccess r) (IsAccess after) access_stays r.access w.access.1);
    listed = all_put (λ z. is_listed r.access (entry_of z) ≡ true) (λ z. is_listed r.access (entry_of z) ≡ true) (λ z t h. subst (λ n. is_listed r.access n ≡ true) (sym (entry_same z (put z) (alike z t))) h) w.listed;
    sizes = w.sizes;
    own_values = by_object (OwnsValues r.types) (OwnsValues r.types) f.owned (λ z h. h) w.own_values;
    groups = w.groups;
    contents = (w.contents.0, All-weaker (λ c. IsBaseAt r bases.Document c.of × (c.step ≤ r.step)) (λ c. IsBaseAt after bases.Document c.of × (c.step ≤ r.step)) (λ c h. (base_stays bases.Document c.of h.0, h.1)) r.contents w.contents.1);
    typed = by_object (IsTyped r.types) (IsTyped r.types) f.typed (λ z h. h) w.typed;
    types = w.types;
    defs = w.defs;
    kept = by_object IsNamedKept (λ z. IsKept after (props_of r.types z.kind z.secondary) z) kept_change
        (λ z h. kept_by_name r after (props_of r.types z.kind z.secondary) z (name_stays z.name z.series z h.0 h.1) h.2) named_kept;
    bounds = w.bounds;
    tokens = by_object (λ z. z.token ≤ r.step) (λ z. z.token ≤ r.step) f.token (λ z h. h) w.tokens;
    labels = w.labels;
  }

-- a write that changes an object: the object, the step and the event
pub changed_keeps : (r : Repository) (cost : ℕ) (kind : ChangeKind) (m : Moment) (x : Object) (change : Object → Object) → IsWellFormed r → HasRoom r cost → IsEdit (stepped r cost) x (change x)
    → IsWellFormed (noted (stepped (edited r x.id change) cost) kind x.id m [])
changed_keeps r cost kind m x change w room f = note_keeps (edited (stepped r cost) x.id change) kind x.id m [] (edit_keeps (stepped r cost) x change (step_keeps r cost w room) f)
