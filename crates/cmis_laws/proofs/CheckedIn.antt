-- A check-in keeps what is well formed: the working copy is the latest version, and the series has its name.
use Rattle.std.specs.Prelude.{◌≡◌, ℕ, ◌<◌, ◌≤◌, Bool, true, false, not, ◌&&◌, ◌||◌, if◌then◌else◌, List, [], ◌∷◌, ◌++◌, map, count_by, All, Contains, Option, Some, None, IfSome, is_some, unwrap_or, option_map, option_and_then, bytes_eq, codes}
use Rattle.std.specs.List.{list_any}
use Rattle.std.proofs.Common.{refl, sym, ap, subst, ◌∙◌, inl, inr, arith}
use Rattle.std.proofs.lemmas.Bool.{both_ways}
use Rattle.std.proofs.lemmas.List.{append-nil, map-append}
use Rattle.std.proofs.lemmas.List.Elements.{All-nil, All-cons, All-push, All-map, All-weaker, All-contains, All-contains_itself}
use Rattle.cm_base.specs.declared.number.Oid.{Oid}
use Rattle.cm_base.specs.declared.object.Object.{Object}
use Rattle.cm_base.specs.declared.filing.Filed.{Filed}
use Rattle.cm_base.specs.declared.series.Series.{Series}
use Rattle.cm_base.specs.declared.series.Label.{Label}
use Rattle.cm_base.specs.declared.series.WorkingCopy.{WorkingCopy}
use Rattle.cm_base.specs.declared.series.DocumentVersion.{DocumentVersion}
use Rattle.cm_base.specs.declared.access.AccessList.{AccessList}
use Rattle.cm_types.specs.declared.definition.BaseType.{BaseType}
use Rattle.cm_types.specs.declared.definition.BaseType.TheVariants as bases
use Rattle.cm_types.specs.Types.{is_of_base, type_in, props_of}
use Rattle.cm_types.specs.Properties.{value_in, texts_of}
use Rattle.cmis_spec.specs.Repository.{Repository, same, root, object_at, series_at, is_a, entry_of, entry_name, is_taken}
use Rattle.cmis_spec.specs.Access.{oid_named}
use Rattle.cmis_spec.specs.Documents.{with_version, checked_in}
use Rattle.cmis_spec.specs.Well.{Apart, IsThere, IsBaseAt, IsEntryAt, HasWay, IsPair, Differ, Belongs, members, IsMember, IsAlone, is_plain, is_version, IsEnd, HasEnds, IsRendition, IsAccess, is_listed, IsTyped, IsKept, OwnsValues, IsLabel, IsWellFormed}
use Rattle.cmis_laws.proofs.Lists.{by_test, find_alike, bytes_turned, none_some, some_eq, apart_map, apart_weaker, all_from_any, all_zip, all_found, same_eq, same_refl}
use Rattle.cmis_laws.proofs.Entries.{not_both, number_found, series_found}
use Rattle.cmis_laws.proofs.Begun.{IsSeries, IsPlainIn, HasLabelsOf}
use Rattle.cmis_laws.proofs.Kept.{find_mapped, kept_anywhere, bytes_same}

-- what the new version x, its series and its label must be; y is the working copy
pub record IsCheckIn (r : Repository) (s : Series) (y x : Object) (label : Label) (name : List ℕ) : Type 0 where
  pub there : object_at r x.id ≡ Some y
  pub id : x.id ≡ y.id
  pub kind : x.kind ≡ y.kind
  pub series : x.series ≡ y.series
  pub base : is_a r bases.Document x ≡ true
  pub unnamed : x.name ≡ None
  pub member : x.series ≡ Some s.id
  pub series_there : series_at r s.id ≡ Some s
  pub owner : List ℕ
  pub working : s.working ≡ Some (record { copy = x.id; owner = owner })
  pub typed : IsTyped r.types x
  pub kept : IsKept r (props_of r.types x.kind x.secondary) x
  pub owned : OwnsValues r.types x
  pub token : x.token ≤ r.step
  pub labelled : IsLabel r.step label
  -- the name is free in each folder of the series
  pub free : All (λ p. same p.child s.id ≡ true → is_taken r p.folder s.id name ≡ false) r.filed

-- the same as to what it is
record Alike (z v : Object) : Type 0 where
  id : v.id ≡ z.id
  kind : v.kind ≡ z.kind
  series : v.series ≡ z.series

module _ (r : Repository) (s : Series) (y x : Object) (label : Label) (name : List ℕ) (w : IsWellFormed r) (f : IsCheckIn r s y x label name) where
  abbrev after : Repository
  after = with_version r s.id x label name

  -- ---- objects

  abbrev put : Object → Object
  put z = if same z.id x.id then x else z

  put_yes : (z : Object) → same z.id x.id ≡ true → put z ≡ x
  put_yes z h = rw h refl

  put_no : (z : Object) → same z.id x.id ≡ false → put z ≡ z
  put_no z h = rw h refl

  one : (z : Object) → object_at r z.id ≡ Some z → same z.id x.id ≡ true → z ≡ y
  one z h e = some_eq z y (sym h ∙ (ap (object_at r) (same_eq z.id x.id e) ∙ f.there))

  alike : (z : Object) → object_at r z.id ≡ Some z → Alike z (put z)
  alike z h = by_test (same z.id x.id)
      (λ e. subst (Alike z) (sym (put_yes z e)) (subst (λ v. Alike v x) (sym (one z h e)) (record { id = f.id; kind = f.kind; series = f.series })))
      (λ e. subst (Alike z) (sym (put_no z e)) (record { id = refl; kind = refl; series = refl }))

  put_id : (z : Object) → (put z).id ≡ z.id
  put_id z = by_test (same z.id x.id) (λ e. ap (λ v. v.id) (put_yes z e) ∙ sym (same_eq z.id x.id e)) (λ e. ap (λ v. v.id) (put_no z e))

  object_put : (n : Oid) → object_at after n ≡ option_map put (object_at r n)
  object_put n = find_mapped put (λ z. same z.id n) r.objects ∙ ap (option_map put) (find_alike (λ z. same (put z).id n) (λ z. same z.id n) r.objects (each r.objects))
    where
      each : (zs : List Object) → All (λ z. same (put z).id n ≡ same z.id n) zs
      each [] = All-nil (λ z. same (put z).id n ≡ same z.id n)
      each (z ∷ zs) = All-cons (λ z. same (put z).id n ≡ same z.id n) z zs (ap (λ m. same m n) (put_id z)) (each zs)

  object_found : (n : Oid) (z : Object) → object_at r n ≡ Some z → object_at after n ≡ Some (put z)
  object_found n z h = object_put n ∙ ap (option_map put) h

  alike_found : (n : Oid) (z : Object) → object_at r n ≡ Some z → Alike z (put z)
  alike_found n z h = alike z (ap (object_at r) (number_found r n z h) ∙ h)

  base_same : (b : BaseType) (z v : Object) → Alike z v → is_a r b v ≡ is_a r b z
  base_same b z v a = ap (λ kind. is_of_base r.types b kind) a.kind

  there_stays : (n : Oid) → IsThere r n → IsThere after n
  there_stays n h = (put h.0, object_found n h.0 h.1)

  base_stays : (b : BaseType) (n : Oid) → IsBaseAt r b n → IsBaseAt after b n
  base_stays b n h = (put h.0, object_found n h.0 h.1, base_same b h.0 (put h.0) (alike_found n h.0 h.1) ∙ h.2)

  all_put : (P Q : Object → Type 0) → ((z : Object) → Alike z (put z) → P z → Q (put z)) → All P r.objects → All Q (map put r.objects)
  all_put P Q g all = All-map Q put r.objects (all_zip (λ z. object_at r z.id ≡ Some z) P (λ z. Q (put z)) r.objects (λ z h p. g z (alike z h) p) (all_found (λ z. z.id) r.objects w.numbers.0) all)

  -- x, or another object that stays as it is
  by_object : (P Q : Object → Type 0) → Q x → ((z : Object) → same z.id x.id ≡ false → P z → Q z) → All P r.objects → All Q (map put r.objects)
  by_object P Q qx g all = All-map Q put r.objects (All-weaker P (λ z. Q (put z))
      (λ z p. by_test (same z.id x.id) (λ e. subst Q (sym (put_yes z e)) qx) (λ e. subst Q (sym (put_no z e)) (g z e p))) r.objects all)

  -- ---- series

  abbrev new : Series
  new = checked_in x.id label name s

  abbrev set : Series → Series
  set t = if same t.id s.id then checked_in x.id label name t else t

  set_yes : (t : Series) → same t.id s.id ≡ true → set t ≡ checked_in x.id label name t
  set_yes t h = rw h refl

  set_no : (t : Series) → same t.id s.id ≡ false → set t ≡ t
  set_no t h = rw h refl

  set_id : (t : Series) → (set t).id ≡ t.id
  set_id t = by_test (same t.id s.id) (λ e. ap (λ u. u.id) (set_yes t e)) (λ e. ap (λ u. u.id) (set_no t e))

  series_set : (n : Oid) → series_at after n ≡ option_map set (series_at r n)
  series_set n = find_mapped set (λ t. same t.id n) r.series ∙ ap (option_map set) (find_alike (λ t. same (set t).id n) (λ t. same t.id n) r.series (each r.series))
    where
      each : (ts : List Series) → All (λ t. same (set t).id n ≡ same t.id n) ts
      each [] = All-nil (λ t. same (set t).id n ≡ same t.id n)
      each (t ∷ ts) = All-cons (λ t. same (set t).id n ≡ same t.id n) t ts (ap (λ m. same m n) (set_id t)) (each ts)

  series_found' : (n : Oid) (t : Series) → series_at r n ≡ Some t → series_at after n ≡ Some (set t)
  series_found' n t h = series_set n ∙ ap (option_map set) h

  one_series : (t : Series) → series_at r t.id ≡ Some t → same t.id s.id ≡ true → t ≡ s
  one_series t h e = some_eq t s (sym h ∙ (ap (series_at r) (same_eq t.id s.id e) ∙ f.series_there))

  series_new : series_at after s.id ≡ Some new
  series_new = series_found' s.id s f.series_there ∙ ap Some (set_yes s (same_refl s.id))

  -- the documents of the series are the same
  members_new : members new ≡ members s
  members_new = append-nil (map (λ (v : DocumentVersion). v.object) (s.versions ++ record { object = x.id; label = Some label } ∷ []))
      ∙ (map-append (λ (v : DocumentVersion). v.object) s.versions (record { object = x.id; label = Some label } ∷ [])
      ∙ sym (ap (λ o. map (λ (v : DocumentVersion). v.object) s.versions ++ unwrap_or (option_map (λ (c : WorkingCopy). c.copy ∷ []) o) []) f.working))

  members_set : (t : Series) → series_at r t.id ≡ Some t → members (set t) ≡ members t
  members_set t h = by_test (same t.id s.id)
      (λ e. ap members (set_yes t e) ∙ (ap (λ u. members (checked_in x.id label name u)) (one_series t h e) ∙ (members_new ∙ ap members (sym (one_series t h e)))))
      (λ e. ap members (set_no t e))

  found_there : (n : Oid) (t : Series) → series_at r n ≡ Some t → series_at r t.id ≡ Some t
  found_there n t h = ap (series_at r) (series_found r n t h) ∙ h

  entry_stays : (n : Oid) → IsEntryAt r n → IsEntryAt after n
  entry_stays n (inl h) = inl (base_stays bases.Folder n h)
  entry_stays n (inr (inl h)) = inr (inl (base_stays bases.Item n h))
  entry_stays n (inr (inr h)) = inr (inr (set h.0, series_found' n h.0 h.1))

  -- ---- names

  abbrev named_by : Option Series → Option Object → List ℕ
  named_by t z = unwrap_or (option_map (λ t. t.name) t) (unwrap_or (option_and_then (λ z. z.name) z) [])

  name_new : (n : Oid) → same n s.id ≡ true → entry_name after n ≡ name
  name_new n e = ap (entry_name after) (same_eq n s.id e) ∙ ap (λ o. named_by o (object_at after s.id)) series_new

  by_series : (n : Oid) (t : Series) → same n s.id ≡ false → series_at r n ≡ Some t → entry_name after n ≡ entry_name r n
  by_series n t e h =
      let apart : same t.id s.id ≡ false = subst (λ m. same m s.id ≡ false) (sym (series_found r n t h)) e in
      ap (λ o. named_by o (object_at after n)) (series_found' n t h ∙ ap Some (set_no t apart)) ∙ sym (ap (λ o. named_by o (object_at r n)) h)

  by_itself : (n : Oid) (b : BaseType) → is_of_base r.types b x.kind ≡ false → IsBaseAt r b n → series_at r n ≡ None → entry_name after n ≡ entry_name r n
  by_itself n b other h none =
      let apart : same h.0.id x.id ≡ false = by_test (same h.0.id x.id)
      (λ e. absurd (both_ways (is_a r b x) other (ap (λ kind. is_of_base r.types b kind) f.kind ∙ subst (λ z. is_a r b z ≡ true) (one h.0 (ap (object_at r) (number_found r n h.0 h.1) ∙ h.1) e) h.2))) (λ e. e) in
      ap (λ o. named_by o (object_at after n)) (series_set n ∙ ap (option_map set) none)
      ∙ (ap (named_by None) (object_found n h.0 h.1 ∙ ap Some (put_no h.0 apart))
      ∙ sym (ap (λ o. named_by o (object_at r n)) none ∙ ap (named_by None) h.1))

  name_other : (n : Oid) → same n s.id ≡ false → IsEntryAt r n → entry_name after n ≡ entry_name r n
  name_other n e h = by (series_at r n) refl h
    where
      by : (o : Option Series) → series_at r n ≡ o → IsEntryAt r n → entry_name after n ≡ entry_name r n
      by (Some t) k h = by_series n t e k
      by None k (inl h) = by_itself n bases.Folder (not_both r x bases.Document bases.Folder refl f.base) h k
      by None k (inr (inl h)) = by_itself n bases.Item (not_both r x bases.Document bases.Item refl f.base) h k
      by None k (inr (inr h)) = absurd (none_some h.0 (sym k ∙ h.1))

  third : (a b c : Bool) → a ≡ true → b ≡ true → a && b && c ≡ false → c ≡ false
  third true true c d e h = h
  third true false c d e h = absurd (both_ways false refl e)
  third false b c d e h = absurd (both_ways false refl d)

  -- no other child of a folder of the series has the new name
  unlike : (p q : Filed) → is_taken r p.folder s.id name ≡ false → Contains r.filed q → same q.child s.id ≡ false → p.folder ≡ q.folder → bytes_eq (entry_name r q.child) name ≡ false
  unlike p q free there e same_folder =
      third (same q.folder p.folder) (not (same q.child s.id)) (bytes_eq (entry_name r q.child) name) (subst (λ g. same g p.folder ≡ true) same_folder (same_refl p.folder)) (ap not e)
      (All-contains (λ q. same q.folder p.folder && not (same q.child s.id) && bytes_eq (entry_name r q.child) name ≡ false) r.filed q
      (all_from_any (λ q. same q.folder p.folder && not (same q.child s.id) && bytes_eq (entry_name r q.child) name) r.filed free) there)

  record IsOfPair (p : Filed) : Type 0 where
    pair : IsPair r p
    there : Contains r.filed p
    free : same p.child s.id ≡ true → is_taken r p.folder s.id name ≡ false

  of_pairs : All IsOfPair r.filed
  of_pairs = all_zip (IsPair r) (λ p. Contains r.filed p × (same p.child s.id ≡ true → is_taken r p.folder s.id name ≡ false)) IsOfPair r.filed (λ p a b. record { pair = a; there = b.0; free = b.1 }) w.pairs
      (all_zip (Contains r.filed) (λ p. same p.child s.id ≡ true → is_taken r p.folder s.id name ≡ false) (λ p. Contains r.filed p × (same p.child s.id ≡ true → is_taken r p.folder s.id name ≡ false)) r.filed (λ p a b. (a, b)) (All-contains_itself r.filed) f.free)

  names_differ : (p q : Filed) → IsOfPair p → IsOfPair q → Differ r p q → Differ after p q
  names_differ p q a b d e = by_test (same p.child s.id)
      (λ i. by_test (same q.child s.id)
      (λ j. absurd (both_ways (bytes_eq (entry_name r p.child) (entry_name r q.child)) (d e) (bytes_same (entry_name r p.child) (entry_name r q.child) (ap (entry_name r) (same_eq p.child s.id i ∙ sym (same_eq q.child s.id j))))))
      (λ j. ap (λ n. bytes_eq n (entry_name after q.child)) (name_new p.child i) ∙ (ap (bytes_eq name) (name_other q.child j b.pair.1)
      ∙ bytes_turned (entry_name r q.child) name (unlike p q (a.free i) b.there j e))))
      (λ i. by_test (same q.child s.id)
      (λ j. ap (λ n. bytes_eq n (entry_name after q.child)) (name_other p.child i a.pair.1) ∙ (ap (bytes_eq (entry_name r p.child)) (name_new q.child j)
      ∙ unlike q p (b.free j) a.there i (sym e)))
      (λ j. ap (λ n. bytes_eq n (entry_name after q.child)) (name_other p.child i a.pair.1) ∙ (ap (bytes_eq (entry_name r p.child)) (name_other q.child j b.pair.1) ∙ d e)))

  -- ---- documents

  belongs_like : (z v : Object) → Alike z v → (o : Option Oid) → Belongs r z o → Belongs after v o
  belongs_like z v a None b = base_same bases.Document z v a ∙ b
  belongs_like z v a (Some n) b = (
    base_same bases.Document z v a ∙ b.0,
    (
      set b.1.0,
      series_found' n b.1.0 b.1.1,
      ap (list_any (same v.id)) (members_set b.1.0 (found_there n b.1.0 b.1.1)) ∙ subst (λ i. list_any (same i) (members b.1.0) ≡ true) (sym a.id) b.1.2,
    ),
  )

  member_stays : (t u : Series) (n : Oid) → u.id ≡ t.id → IsMember r t n → IsMember after u n
  member_stays t u n e m = (put m.0, object_found n m.0 m.1, (alike_found n m.0 m.1).series ∙ (m.2 ∙ ap Some (sym e)))

  series_stays : (t : Series) → series_at r t.id ≡ Some t → IsSeries r t → IsSeries after (set t)
  series_stays t h l =
      let e : members (set t) ≡ members t = members_set t h in (
        subst (All (IsMember after (set t))) (sym e) (All-weaker (IsMember r t) (IsMember after (set t)) (λ n m. member_stays t (set t) n (set_id t) m) (members t) l.0),
        subst (Apart (λ m n. same m n ≡ false)) (sym e) l.1,
        subst (λ ms. list_any (λ n. true) ms ≡ true) (sym e) l.2,
      )

  plain_same : (z v : Object) → Alike z v → is_plain r v ≡ is_plain r z
  plain_same z v a = ap (λ kind. is_of_base r.types bases.Document kind && not (unwrap_or (option_map (λ t. t.versionable) (type_in r.types kind)) false)) a.kind

  -- a document whose type isn't versionable is in no series that is checked out
  plain_stays : (i : Oid) (o : Option Oid) → IfSome o (λ n. IfSome (series_at r n) (λ t. IsAlone t i)) → IfSome o (λ n. IfSome (series_at after n) (λ t. IsAlone t i))
  plain_stays i None h = tt
  plain_stays i (Some n) h = by (series_at r n) refl h
    where
      by : (o : Option Series) → series_at r n ≡ o → IfSome o (λ t. IsAlone t i) → IfSome (series_at after n) (λ t. IsAlone t i)
      by None k h = subst (λ o. IfSome o (λ t. IsAlone t i)) (sym (series_set n ∙ ap (option_map set) k)) tt
      by (Some t) k h = by_test (same t.id s.id)
          (λ e. absurd (none_some (record { copy = x.id; owner = f.owner }) (sym h.1 ∙ (ap (λ u. u.working) (one_series t (found_there n t k) e) ∙ f.working))))
          (λ e. subst (λ o. IfSome o (λ t. IsAlone t i)) (sym (series_found' n t k ∙ ap Some (set_no t e))) h)

  -- ---- versions

  any_push : (n : Oid) (vs : List DocumentVersion) → same x.id n ≡ false → list_any (λ v. same v.object n) (vs ++ record { object = x.id; label = Some label } ∷ []) ≡ list_any (λ v. same v.object n) vs
  any_push n [] h = rw h refl
  any_push n (v ∷ vs) h = ap (λ b. same v.object n || b) (any_push n vs h)

  any_last : (vs : List DocumentVersion) → list_any (λ v. same v.object x.id) (vs ++ record { object = x.id; label = Some label } ∷ []) ≡ true
  any_last [] = rw (same_refl x.id) refl
  any_last (v ∷ vs) = by_test (same v.object x.id) (λ e. rw e refl) (λ e. rw e (any_last vs))

  abbrev version_by : Oid → Option Series → Bool
  version_by n o = unwrap_or (option_map (λ t. list_any (λ v. same v.object n) t.versions) o) false

  abbrev version_in : Repository → Option Oid → Oid → Bool
  version_in q o n = unwrap_or (option_map (λ m. version_by n (series_at q m)) o) false

  turned : (n : Oid) → same n x.id ≡ false → same x.id n ≡ false
  turned n h = by_test (same x.id n) (λ e. absurd (both_ways (same n x.id) h (subst (λ m. same m x.id ≡ true) (same_eq x.id n e) (same_refl x.id)))) (λ e. e)

  version_stays : (n : Oid) (o : Option Oid) → same n x.id ≡ false → version_in after o n ≡ version_in r o n
  version_stays n None h = refl
  version_stays n (Some m) h = by (series_at r m) refl
    where
      by : (o : Option Series) → series_at r m ≡ o → version_by n (series_at after m) ≡ version_by n (series_at r m)
      by None k = ap (version_by n) (series_set m ∙ ap (option_map set) k) ∙ sym (ap (version_by n) k)
      by (Some t) k = by_test (same t.id s.id)
          (λ e. ap (version_by n) (series_found' m t k ∙ ap Some (set_yes t e)) ∙ (any_push n t.versions (turned n h) ∙ sym (ap (version_by n) k)))
          (λ e. ap (version_by n) (series_found' m t k ∙ ap Some (set_no t e)) ∙ sym (ap (version_by n) k))

  own_new : is_some x.name ≡ not (is_version after x)
  own_new = ap is_some f.unnamed ∙ ap not (sym (ap (λ o. version_in after o x.id) f.member ∙ (ap (version_by x.id) series_new ∙ any_last s.versions)))

  -- ---- relationships, access

  end_stays : (o : Option Oid) (z : Object) → option_and_then (object_at r) o ≡ Some z → (option_and_then (object_at after) o ≡ Some (put z)) × Alike z (put z)
  end_stays None z h = absurd (none_some z h)
  end_stays (Some n) z h = (object_found n z h, alike_found n z h)

  ends_stay : (z : Object) → HasEnds r z → HasEnds after z
  ends_stay z h = All-weaker (IsEnd r) (IsEnd after)
      (λ t e. let k = end_stays (oid_named t) e.0 e.1 in (put e.0, k.0, base_same bases.Relationship e.0 (put e.0) k.1 ∙ e.2))
      (texts_of (value_in z.values (codes "cmis:sourceId")) ++ texts_of (value_in z.values (codes "cmis:targetId"))) h

  access_stays : (l : AccessList) → IsAccess r l → IsAccess after l
  access_stays l (inl h, a) = (inl (put h.0, object_found l.at h.0 h.1, base_same bases.Document h.0 (put h.0) (alike_found l.at h.0 h.1) ∙ h.2), a)
  access_stays l (inr h, a) = (inr (set h.0, series_found' l.at h.0 h.1), a)

  first_stays : (t : Series) → (o : Option Object) → object_at r t.id ≡ o → IfSome o (λ z. z.series ≡ Some t.id) → IfSome (option_map put o) (λ z. z.series ≡ Some t.id)
  first_stays t None e h = tt
  first_stays t (Some z) e h = (alike_found t.id z e).series ∙ h

  labels_set : (t : Series) → HasLabelsOf r.step t → HasLabelsOf r.step (set t)
  labels_set t h = by_test (same t.id s.id)
      (λ e. subst (HasLabelsOf r.step) (sym (set_yes t e)) (All-push (λ v. IfSome v.label (IsLabel r.step)) t.versions (record { object = x.id; label = Some label }) h f.labelled))
      (λ e. subst (HasLabelsOf r.step) (sym (set_no t e)) h)

  entry_same : (z v : Object) → Alike z v → entry_of v ≡ entry_of z
  entry_same z v a = ap (λ o. unwrap_or o v.id) a.series ∙ ap (unwrap_or z.series) a.id

  -- ---- all

  pub check_in_keeps : IsWellFormed after
  check_in_keeps = record {
    numbers = (
      apart_map (λ z v. z.id.0 < v.id.0) put r.objects (apart_weaker (λ z. z.id.0 < r.next) (λ z v. z.id.0 < v.id.0) (λ z v. (put z).id.0 < (put v).id.0) r.objects
          (λ z v a b l. let d : (put z).id.0 ≡ z.id.0 = ap (λ n. n.0) (put_id z) in let e : (put v).id.0 ≡ v.id.0 = ap (λ n. n.0) (put_id v) in omega (arith, d, e, l)) w.numbers.1 w.numbers.0),
      All-map (λ z. z.id.0 < r.next) put r.objects (All-weaker (λ z. z.id.0 < r.next) (λ z. (put z).id.0 < r.next) (λ z l. subst (λ n. n.0 < r.next) (sym (put_id z)) l) r.objects w.numbers.1),
    );
    series_numbers = (
      apart_map (λ t u. t.id.0 < u.id.0) set r.series (apart_weaker (λ t. t.id.0 < r.next) (λ t u. t.id.0 < u.id.0) (λ t u. (set t).id.0 < (set u).id.0) r.series
          (λ t u a b l. let d : (set t).id.0 ≡ t.id.0 = ap (λ n. n.0) (set_id t) in let e : (set u).id.0 ≡ u.id.0 = ap (λ n. n.0) (set_id u) in omega (arith, d, e, l)) w.series_numbers.1 w.series_numbers.0),
      All-map (λ t. t.id.0 < r.next) set r.series (All-weaker (λ t. t.id.0 < r.next) (λ t. (set t).id.0 < r.next) (λ t l. subst (λ n. n.0 < r.next) (sym (set_id t)) l) r.series w.series_numbers.1),
    );
    firsts = All-map (λ t. IfSome (object_at after t.id) (λ z. z.series ≡ Some t.id)) set r.series
        (All-weaker (λ t. IfSome (object_at r t.id) (λ z. z.series ≡ Some t.id)) (λ t. IfSome (object_at after (set t).id) (λ z. z.series ≡ Some (set t).id))
        (λ t h. subst (λ n. IfSome (object_at after n) (λ z. z.series ≡ Some n)) (sym (set_id t))
        (subst (λ o. IfSome o (λ z. z.series ≡ Some t.id)) (sym (object_put t.id)) (first_stays t (object_at r t.id) refl h))) r.series w.firsts);
    renditions = (w.renditions.0, All-weaker (IsRendition r) (IsRendition after) (λ d h. (h.0, object_put d.id ∙ ap (option_map put) h.1, there_stays d.of h.2)) r.renditions w.renditions.1);
    root = (base_stays bases.Folder root w.root.0, w.root.1);
    ways = all_put (λ z. is_a r bases.Folder z ≡ true → HasWay r.filed z.id) (λ z. is_a r bases.Folder z ≡ true → HasWay r.filed z.id)
        (λ z a h e. subst (HasWay r.filed) (sym a.id) (h (sym (base_same bases.Folder z (put z) a) ∙ e))) w.ways;
    one_parent = all_put (λ z. is_a r bases.Folder z ≡ true → count_by (λ p. same p.child z.id) r.filed ≤ 1) (λ z. is_a r bases.Folder z ≡ true → count_by (λ p. same p.child z.id) r.filed ≤ 1)
        (λ z a h e. subst (λ n. count_by (λ p. same p.child n) r.filed ≤ 1) (sym a.id) (h (sym (base_same bases.Folder z (put z) a) ∙ e))) w.one_parent;
    pairs = All-weaker (IsPair r) (IsPair after) (λ p l. (base_stays bases.Folder p.folder l.0, entry_stays p.child l.1)) r.filed w.pairs;
    names = apart_weaker IsOfPair (Differ r) (Differ after) r.filed names_differ of_pairs w.names;
    documents = all_put (λ z. Belongs r z z.series) (λ z. Belongs after z z.series) (λ z a b. subst (Belongs after (put z)) (sym a.series) (belongs_like z (put z) a z.series b)) w.documents;
    series = All-map (IsSeries after) set r.series (all_zip (λ t. series_at r t.id ≡ Some t) (IsSeries r) (λ t. IsSeries after (set t)) r.series series_stays (all_found (λ t. t.id) r.series w.series_numbers.0) w.series);
    plain = all_put (IsPlainIn r) (IsPlainIn after)
        (λ z a h e. plain_stays (put z).id (put z).series (subst (λ o. IfSome o (λ n. IfSome (series_at r n) (λ t. IsAlone t (put z).id))) (sym a.series)
        (subst (λ i. IfSome z.series (λ n. IfSome (series_at r n) (λ t. IsAlone t i))) (sym a.id) (h (sym (plain_same z (put z) a) ∙ e))))) w.plain;
    own_names = by_object (λ z. is_some z.name ≡ not (is_version r z)) (λ z. is_some z.name ≡ not (is_version after z)) own_new
        (λ z e h. h ∙ ap not (sym (version_stays z.id z.series e))) w.own_names;
    relationships = by_object (λ z. is_a r bases.Relationship z ≡ true → HasEnds r z) (λ z. is_a r bases.Relationship z ≡ true → HasEnds after z)
        (λ e. absurd (both_ways (is_a r bases.Relationship x) (not_both r x bases.Document bases.Relationship refl f.base) e)) (λ z k h e. ends_stay z (h e)) w.relationships;
    policies = All-weaker (λ p. IsBaseAt r bases.Policy p.policy × IsThere r p.object) (λ p. IsBaseAt after bases.Policy p.policy × IsThere after p.object)
        (λ p l. (base_stays bases.Policy p.policy l.0, there_stays p.object l.1)) r.applied w.policies;
    access = (w.access.0, All-weaker (IsAccess r) (IsAccess after) access_stays r.access w.access.1);
    listed = all_put (λ z. is_listed r.access (entry_of z) ≡ true) (λ z. is_listed r.access (entry_of z) ≡ true) (λ z a h. subst (λ n. is_listed r.access n ≡ true) (sym (entry_same z (put z) a)) h) w.listed;
    sizes = w.sizes;
    own_values = by_object (OwnsValues r.types) (OwnsValues r.types) f.owned (λ z e h. h) w.own_values;
    groups = w.groups;
    contents = (w.contents.0, All-weaker (λ c. IsBaseAt r bases.Document c.of × (c.step ≤ r.step)) (λ c. IsBaseAt after bases.Document c.of × (c.step ≤ r.step)) (λ c h. (base_stays bases.Document c.of h.0, h.1)) r.contents w.contents.1);
    typed = by_object (IsTyped r.types) (IsTyped r.types) f.typed (λ z e h. h) w.typed;
    types = w.types;
    defs = w.defs;
    kept = by_object (λ z. IsKept r (props_of r.types z.kind z.secondary) z) (λ z. IsKept after (props_of r.types z.kind z.secondary) z) (kept_anywhere r after x x w.defs refl f.kept)
        (λ z e k. kept_anywhere r after z z w.defs refl k) w.kept;
    bounds = w.bounds;
    tokens = by_object (λ z. z.token ≤ r.step) (λ z. z.token ≤ r.step) f.token (λ z e h. h) w.tokens;
    labels = All-map (HasLabelsOf r.step) set r.series (All-weaker (HasLabelsOf r.step) (λ t. HasLabelsOf r.step (set t)) labels_set r.series w.labels);
  }
