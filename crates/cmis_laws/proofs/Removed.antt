-- Objects that go, with all that is theirs, leave what is well formed.
use Rattle.std.specs.Prelude.{◌≡◌, ℕ, zero, suc, ◌<◌, ◌≤◌, Bool, true, false, not, if◌then◌else◌, List, [], ◌∷◌, ◌++◌, map, filter, find, length, count_by, All, Option, Some, None, IfSome, is_some, unwrap_or, option_map, option_and_then}
use Rattle.std.specs.List.{list_any}
use Rattle.std.proofs.Common.{refl, sym, ap, subst, ◌∙◌, inl, inr, arith}
use Rattle.std.proofs.lemmas.Bool.{both_ways}
use Rattle.std.proofs.lemmas.List.Elements.{All-weaker, All-map, All-filter, filter-append, filter_passes}
use Rattle.cm_base.specs.declared.number.Oid.{Oid}
use Rattle.cm_base.specs.declared.object.Object.{Object}
use Rattle.cm_base.specs.declared.filing.Filed.{Filed}
use Rattle.cm_base.specs.declared.series.Series.{Series}
use Rattle.cm_base.specs.declared.series.WorkingCopy.{WorkingCopy}
use Rattle.cm_base.specs.declared.series.DocumentVersion.{DocumentVersion}
use Rattle.cm_base.specs.declared.access.AccessList.{AccessList}
use Rattle.cm_types.specs.declared.definition.BaseType.{BaseType}
use Rattle.cm_types.specs.declared.definition.BaseType.TheVariants as bases
use Rattle.cm_types.specs.Types.{props_of}
use Rattle.cmis_spec.specs.Repository.{Repository, same, root, longest_stream, object_at, series_at, is_a, entry_of, entry_name, parent_in}
use Rattle.cmis_spec.specs.Access.{oid_named}
use Rattle.cmis_spec.specs.Removal.{left_in, has_members, entry_goes, removed, ends_of}
use Rattle.cmis_spec.specs.Well.{Apart, IsThere, IsBaseAt, IsEntryAt, Climbs, HasWay, IsPair, Differ, Belongs, copy_in, members, IsMember, IsAlone, is_version, IsEnd, HasEnds, IsRendition, IsAccess, is_listed, IsTyped, IsKept, OwnsValues, IsWellFormed}
use Rattle.cmis_laws.proofs.Lists.{by_test, find_none, found_holds, found_passes, some_eq, apart_weaker, apart_map, all_zip, all_found, same_eq}
use Rattle.cmis_laws.proofs.Entries.{not_both}
use Rattle.cmis_laws.proofs.Begun.{IsSeries, IsPlainIn, HasLabelsOf}
use Rattle.cmis_laws.proofs.Kept.{find_mapped, find_kept, all_unfound, kept_anywhere}
use Rattle.cmis_laws.proofs.Moved.{map_some}
use Rattle.cmis_laws.proofs.Left.{not_true, all_kept, apart_filter, find_filtered, none_filtered, any_filtered, any_some, filter_map_swap, count_filtered}

-- what may go: nothing that stays is in, ends at, or has a policy that goes
pub record IsRemoval (r : Repository) (gone : Oid → Bool) : Type 0 where
  pub root : gone root ≡ false
  pub folders : All (λ p. entry_goes r gone p.child ≡ false → gone p.folder ≡ false) r.filed
  pub ends : All (λ x. is_a r bases.Relationship x ≡ true → gone x.id ≡ false → All (λ id. IfSome (oid_named id) (λ n. gone n ≡ false)) (ends_of x)) r.objects
  pub policies : All (λ a. gone a.object ≡ false → gone a.policy ≡ false) r.applied

module _ (r : Repository) (gone : Oid → Bool) (w : IsWellFormed r) (f : IsRemoval r gone) where
  abbrev after : Repository
  after = removed r gone

  abbrev left : Series → Series
  left s = left_in gone s

  -- a number that goes is no other
  stays_by : (n m : Oid) → gone n ≡ false → same m n ≡ true → gone m ≡ false
  stays_by n m h e = subst (λ k. gone k ≡ false) (sym (same_eq m n e)) h

  -- ---- objects

  pub object_left : (n : Oid) → gone n ≡ false → object_at after n ≡ object_at r n
  object_left n h = find_filtered (λ x. same x.id n) (λ x. not (gone x.id)) r.objects (λ x e. ap not (stays_by n x.id h e))

  pub object_gone : (n : Oid) → gone n ≡ true → object_at after n ≡ None
  object_gone n h = none_filtered (λ x. same x.id n) (λ x. not (gone x.id)) r.objects (λ x e. ap not (subst (λ k. gone k ≡ true) (sym (same_eq x.id n e)) h))

  there_left : (n : Oid) → gone n ≡ false → IsThere r n → IsThere after n
  there_left n h k = (k.0, object_left n h ∙ k.1)

  base_left : (b : BaseType) (n : Oid) → gone n ≡ false → IsBaseAt r b n → IsBaseAt after b n
  base_left b n h k = (k.0, object_left n h ∙ k.1, k.2)

  -- ---- series

  -- the series with a number is one
  ones : (n : Oid) (t : Series) → series_at r n ≡ Some t → All (λ u. same u.id n ≡ true → u ≡ t) r.series
  ones n t h = All-weaker (λ u. series_at r u.id ≡ Some u) (λ u. same u.id n ≡ true → u ≡ t)
      (λ u k e. some_eq u t (sym k ∙ (ap (series_at r) (same_eq u.id n e) ∙ h))) r.series (all_found (λ u. u.id) r.series w.series_numbers.0)

  lefts : (n : Oid) (t : Series) → series_at r n ≡ Some t → All (λ u. same u.id n ≡ true → u ≡ left t) (map left r.series)
  lefts n t h = All-map (λ u. same u.id n ≡ true → u ≡ left t) left r.series (All-weaker (λ u. same u.id n ≡ true → u ≡ t) (λ u. same u.id n ≡ true → left u ≡ left t) (λ u k e. ap left (k e)) r.series (ones n t h))

  pub series_left : (n : Oid) (t : Series) → series_at r n ≡ Some t → has_members (left t) ≡ true → series_at after n ≡ Some (left t)
  series_left n t h k = find_kept (λ u. same u.id n) has_members (left t) (map left r.series) (lefts n t h) k (find_mapped left (λ u. same u.id n) r.series ∙ ap (option_map left) h)

  pub series_none : (n : Oid) → series_at r n ≡ None → series_at after n ≡ None
  series_none n h = find_none (λ u. same u.id n) (filter has_members (map left r.series))
      (All-filter has_members (λ u. same u.id n ≡ false) (map left r.series) (all_unfound (λ u. same u.id n) (map left r.series) (find_mapped left (λ u. same u.id n) r.series ∙ ap (option_map left) h)))

  copy_left : (o : Option WorkingCopy) → unwrap_or (option_map (λ (c : WorkingCopy). c.copy ∷ []) (option_and_then (λ (c : WorkingCopy). if gone c.copy then None else Some c) o)) []
      ≡ filter (λ n. not (gone n)) (unwrap_or (option_map (λ (c : WorkingCopy). c.copy ∷ []) o) [])
  copy_left None = refl
  copy_left (Some c) = by_test (gone c.copy) (λ e. rw e refl) (λ e. rw e refl)

  members_left : (t : Series) → members (left t) ≡ filter (λ n. not (gone n)) (members t)
  members_left t = ap (λ l. l ++ copy_in (left t)) (filter_map_swap (λ (v : DocumentVersion). v.object) (λ n. not (gone n)) t.versions)
      ∙ (ap (λ l. filter (λ n. not (gone n)) (map (λ (v : DocumentVersion). v.object) t.versions) ++ l) (copy_left t.working)
      ∙ sym (filter-append (λ n. not (gone n)) (map (λ (v : DocumentVersion). v.object) t.versions) (copy_in t)))

  any_left : (t : Series) (n : Oid) → gone n ≡ false → list_any (same n) (members t) ≡ true → list_any (same n) (members (left t)) ≡ true
  any_left t n h k = ap (list_any (same n)) (members_left t) ∙ (any_filtered (same n) (λ m. not (gone m)) (members t) (λ m e. ap not (subst (λ k. gone k ≡ false) (same_eq n m e) h)) ∙ k)

  has_left : (t : Series) (n : Oid) → gone n ≡ false → list_any (same n) (members t) ≡ true → has_members (left t) ≡ true
  has_left t n h k = any_some (same n) (members (left t)) (any_left t n h k)

  -- ---- entries

  -- what is no document has no series' number
  no_series : (n : Oid) (y : Object) → object_at r n ≡ Some y → is_a r bases.Document y ≡ false → series_at r n ≡ None
  no_series n y there other = by (series_at r n) refl
    where
      by : (o : Option Series) → series_at r n ≡ o → series_at r n ≡ None
      by None e = e
      by (Some s) e =
          let at : s.id ≡ n = same_eq s.id n (found_passes (λ t. same t.id n) r.series s e) in
          let first : IfSome (object_at r s.id) (λ z. z.series ≡ Some s.id) = found_holds (λ t. IfSome (object_at r t.id) (λ z. z.series ≡ Some t.id)) (λ t. same t.id n) r.series s w.firsts e in
          let own : y.series ≡ Some s.id = subst (λ o. IfSome o (λ z. z.series ≡ Some s.id)) (ap (object_at r) at ∙ there) first in
          let belongs : Belongs r y (Some s.id) = subst (Belongs r y) own (found_holds (λ z. Belongs r z z.series) (λ z. same z.id n) r.objects y w.documents there) in
          absurd (both_ways (is_a r bases.Document y) other belongs.0)

  goes_alone : (n : Oid) → series_at r n ≡ None → entry_goes r gone n ≡ gone n
  goes_alone n h = ap (λ o. unwrap_or (option_map (λ s. not (has_members (left_in gone s))) o) (gone n)) h

  folder_goes : (n : Oid) → IsBaseAt r bases.Folder n → entry_goes r gone n ≡ gone n
  folder_goes n h = goes_alone n (no_series n h.0 h.1 (not_both r h.0 bases.Folder bases.Document refl h.2))

  not_false' : (b : Bool) → not b ≡ false → b ≡ true
  not_false' true h = refl
  not_false' false h = absurd (both_ways true h refl)

  series_stays : (n : Oid) (t : Series) → series_at r n ≡ Some t → entry_goes r gone n ≡ false → series_at after n ≡ Some (left t)
  series_stays n t h k = series_left n t h (not_false' (has_members (left t)) (sym (ap (λ o. unwrap_or (option_map (λ s. not (has_members (left_in gone s))) o) (gone n)) h) ∙ k))

  entry_stays : (n : Oid) → IsEntryAt r n → entry_goes r gone n ≡ false → IsEntryAt after n
  entry_stays n (inl h) k = inl (base_left bases.Folder n (sym (folder_goes n h) ∙ k) h)
  entry_stays n (inr (inl h)) k = inr (inl (base_left bases.Item n (sym (goes_alone n (no_series n h.0 h.1 (not_both r h.0 bases.Item bases.Document refl h.2))) ∙ k) h))
  entry_stays n (inr (inr h)) k = inr (inr (left h.0, series_stays n h.0 h.1 k))

  abbrev named_by : Option Series → Option Object → List ℕ
  named_by s y = unwrap_or (option_map (λ s. s.name) s) (unwrap_or (option_and_then (λ y. y.name) y) [])

  name_stays : (n : Oid) → entry_goes r gone n ≡ false → entry_name after n ≡ entry_name r n
  name_stays n k = by (series_at r n) refl
    where
      by : (o : Option Series) → series_at r n ≡ o → entry_name after n ≡ entry_name r n
      by None e = ap (λ o. named_by o (object_at after n)) (series_none n e) ∙ (ap (named_by None) (object_left n (sym (goes_alone n e) ∙ k)) ∙ sym (ap (λ o. named_by o (object_at r n)) e))
      by (Some t) e = ap (λ o. named_by o (object_at after n)) (series_stays n t e k) ∙ sym (ap (λ o. named_by o (object_at r n)) e)

  listed_stays : (l : AccessList) → entry_goes r gone l.at ≡ false → IsAccess r l → IsAccess after l
  listed_stays l k (inr h, a) = (inr (left h.0, series_stays l.at h.0 h.1 k), a)
  listed_stays l k (inl h, a) = by (series_at r l.at) refl
    where
      by : (o : Option Series) → series_at r l.at ≡ o → IsAccess after l
      by None e = (inl (h.0, object_left l.at (sym (goes_alone l.at e) ∙ k) ∙ h.1, h.2), a)
      by (Some t) e = (inr (left t, series_stays l.at t e k), a)

  -- the list of what stays stays
  list_left : (y : Object) → (object_at r y.id ≡ Some y) × Belongs r y y.series → is_listed r.access (entry_of y) ≡ true → not (gone y.id) ≡ true → is_listed after.access (entry_of y) ≡ true
  list_left y t h k = any_filtered (λ l. same l.at (entry_of y)) (λ l. not (entry_goes r gone l.at)) r.access
      (λ l e. ap not (subst (λ n. entry_goes r gone n ≡ false) (sym (same_eq l.at (entry_of y) e)) (by y.series t.1))) ∙ h
    where
      stays : gone y.id ≡ false
      stays = not_true (gone y.id) k

      by : (o : Option Oid) → Belongs r y o → entry_goes r gone (unwrap_or o y.id) ≡ false
      by None b = goes_alone y.id (no_series y.id y t.0 b) ∙ stays
      by (Some n) b = ap (λ o. unwrap_or (option_map (λ s. not (has_members (left_in gone s))) o) (gone n)) b.1.1 ∙ ap not (has_left b.1.0 y.id stays b.1.2)

  -- ---- the tree

  parent_left : (n : Oid) → IsBaseAt r bases.Folder n → gone n ≡ false → parent_in after.filed n ≡ parent_in r.filed n
  parent_left n h k = ap (option_map (λ p. p.folder)) (find_filtered (λ p. same p.child n) (λ p. not (entry_goes r gone p.child)) r.filed
      (λ p e. ap not (subst (λ m. entry_goes r gone m ≡ false) (sym (same_eq p.child n e)) (folder_goes n h ∙ k))))

  climbs_left : (k : ℕ) (n : Oid) → IsBaseAt r bases.Folder n → gone n ≡ false → Climbs k r.filed n → Climbs k after.filed n
  climbs_left zero n h g c = c
  climbs_left (suc k) n h g c =
      let p = map_some (λ (p : Filed). p.folder) (find (λ p. same p.child n) r.filed) c.0 c.1 in
      let at : p.0.child ≡ n = same_eq p.0.child n (found_passes (λ p. same p.child n) r.filed p.0 p.1) in
      let above : IsBaseAt r bases.Folder c.0 = subst (IsBaseAt r bases.Folder) p.2 (found_holds (IsPair r) (λ p. same p.child n) r.filed p.0 w.pairs p.1).0 in
      let stays : gone c.0 ≡ false = subst (λ m. gone m ≡ false) p.2 (found_holds (λ p. entry_goes r gone p.child ≡ false → gone p.folder ≡ false) (λ p. same p.child n) r.filed p.0 f.folders p.1
      (subst (λ m. entry_goes r gone m ≡ false) (sym at) (folder_goes n h ∙ g))) in
      (c.0, parent_left n h g ∙ c.1, climbs_left k c.0 above stays c.2)

  way_left : (y : Object) → object_at r y.id ≡ Some y → (is_a r bases.Folder y ≡ true → HasWay r.filed y.id) → not (gone y.id) ≡ true → is_a r bases.Folder y ≡ true → HasWay after.filed y.id
  way_left y there h k e = let v : HasWay r.filed y.id = h e in (v.0, v.1, climbs_left v.0 y.id (y, there, e) (not_true (gone y.id) k) v.2)

  pair_left : (p : Filed) → (entry_goes r gone p.child ≡ false → gone p.folder ≡ false) → IsPair r p → not (entry_goes r gone p.child) ≡ true → IsPair after p
  pair_left p g l k = let stays = not_true (entry_goes r gone p.child) k in (base_left bases.Folder p.folder (g stays) l.0, entry_stays p.child l.1 stays)

  -- ---- documents

  belongs_left : (y : Object) (o : Option Oid) → gone y.id ≡ false → Belongs r y o → Belongs after y o
  belongs_left y None h b = b
  belongs_left y (Some n) h b = (b.0, (left b.1.0, series_left n b.1.0 b.1.1 (has_left b.1.0 y.id h b.1.2), any_left b.1.0 y.id h b.1.2))

  member_left : (t : Series) (n : Oid) → IsMember r t n → not (gone n) ≡ true → IsMember after (left t) n
  member_left t n m k = (m.0, object_left n (not_true (gone n) k) ∙ m.1, m.2)

  series_is_left : (t : Series) → IsSeries r t → has_members (left t) ≡ true → IsSeries after (left t)
  series_is_left t l h = (
    subst (All (IsMember after (left t))) (sym (members_left t)) (all_kept (λ n. not (gone n)) (IsMember after (left t)) (members t) (All-weaker (IsMember r t) (λ n. not (gone n) ≡ true → IsMember after (left t) n) (member_left t) (members t) l.0)),
    subst (Apart (λ m n. same m n ≡ false)) (sym (members_left t)) (apart_filter (λ m n. same m n ≡ false) (λ n. not (gone n)) (members t) l.1),
    h,
  )

  -- one version alone, which stays
  alone_left : (vs : List DocumentVersion) (n : Oid) → length vs ≡ 1 → list_any (same n) (map (λ (v : DocumentVersion). v.object) vs ++ []) ≡ true → gone n ≡ false → length (filter (λ (v : DocumentVersion). not (gone v.object)) vs) ≡ 1
  alone_left [] n e h k = absurd (both_ways false refl h)
  alone_left (v ∷ []) n e h k = by_test (same n v.object)
      (λ t. let stays : gone v.object ≡ false = subst (λ m. gone m ≡ false) (same_eq n v.object t) k in rw stays refl)
      (λ t. absurd (both_ways false refl (rw t at h)))
  alone_left (v ∷ u ∷ vs) n e h k = let l : suc (suc (length vs)) ≡ 1 = e in absurd (omega (arith, l))

  plain_left : (y : Object) → Belongs r y y.series → IsPlainIn r y → not (gone y.id) ≡ true → IsPlainIn after y
  plain_left y b h k e = by y.series b (h e)
    where
      stays : gone y.id ≡ false
      stays = not_true (gone y.id) k

      by : (o : Option Oid) → Belongs r y o → IfSome o (λ n. IfSome (series_at r n) (λ s. IsAlone s y.id)) → IfSome o (λ n. IfSome (series_at after n) (λ s. IsAlone s y.id))
      by None b h = tt
      by (Some n) b h =
          let s : Series = b.1.0 in
          let alone : IsAlone s y.id = subst (λ o. IfSome o (λ s. IsAlone s y.id)) b.1.1 h in
          let there : list_any (same y.id) (map (λ (v : DocumentVersion). v.object) s.versions ++ []) ≡ true =
          subst (λ o. list_any (same y.id) (map (λ (v : DocumentVersion). v.object) s.versions ++ unwrap_or (option_map (λ (c : WorkingCopy). c.copy ∷ []) o) []) ≡ true) alone.1 b.1.2 in
          subst (λ o. IfSome o (λ s. IsAlone s y.id)) (sym (series_left n s b.1.1 (has_left s y.id stays b.1.2)))
          (alone_left s.versions y.id alone.0 there stays, ap (option_and_then (λ (c : WorkingCopy). if gone c.copy then None else Some c)) alone.1)

  abbrev version_by : Oid → Option Series → Bool
  version_by n o = unwrap_or (option_map (λ s. list_any (λ v. same v.object n) s.versions) o) false

  abbrev version_in : Repository → Option Oid → Oid → Bool
  version_in q o n = unwrap_or (option_map (λ m. version_by n (series_at q m)) o) false

  version_left : (y : Object) (o : Option Oid) → gone y.id ≡ false → Belongs r y o → version_in after o y.id ≡ version_in r o y.id
  version_left y None h b = refl
  version_left y (Some n) h b = ap (version_by y.id) (series_left n b.1.0 b.1.1 (has_left b.1.0 y.id h b.1.2))
      ∙ (any_filtered (λ v. same v.object y.id) (λ v. not (gone v.object)) b.1.0.versions (λ v e. ap not (stays_by y.id v.object h e)) ∙ sym (ap (version_by y.id) b.1.1))

  -- ---- relationships

  named_left : (o : Option Oid) (y : Object) → IfSome o (λ n. gone n ≡ false) → option_and_then (object_at r) o ≡ Some y → option_and_then (object_at after) o ≡ Some y
  named_left None y g h = h
  named_left (Some n) y g h = object_left n g ∙ h

  ends_left : (y : Object) → All (λ id. IfSome (oid_named id) (λ n. gone n ≡ false)) (ends_of y) → HasEnds r y → HasEnds after y
  ends_left y g h = all_zip (λ id. IfSome (oid_named id) (λ n. gone n ≡ false)) (IsEnd r) (IsEnd after) (ends_of y) (λ id a e. (e.0, named_left (oid_named id) e.0 a e.1, e.2)) g h

  -- ---- all

  abbrev IsTied : Object → Type 0
  IsTied y = is_a r bases.Relationship y ≡ true → gone y.id ≡ false → All (λ id. IfSome (oid_named id) (λ n. gone n ≡ false)) (ends_of y)

  pub removal_keeps : IsWellFormed after
  removal_keeps = record {
    numbers = (
      apart_filter (λ x y. x.id.0 < y.id.0) (λ x. not (gone x.id)) r.objects w.numbers.0,
      All-filter (λ x. not (gone x.id)) (λ x. x.id.0 < r.next) r.objects w.numbers.1,
    );
    series_numbers = (
      apart_filter (λ s t. s.id.0 < t.id.0) has_members (map left r.series) (apart_map (λ s t. s.id.0 < t.id.0) left r.series w.series_numbers.0),
      All-filter has_members (λ s. s.id.0 < r.next) (map left r.series) (All-map (λ s. s.id.0 < r.next) left r.series w.series_numbers.1),
    );
    firsts = All-filter has_members (λ s. IfSome (object_at after s.id) (λ x. x.series ≡ Some s.id)) (map left r.series)
        (All-map (λ s. IfSome (object_at after s.id) (λ x. x.series ≡ Some s.id)) left r.series
        (All-weaker (λ s. IfSome (object_at r s.id) (λ x. x.series ≡ Some s.id)) (λ s. IfSome (object_at after s.id) (λ x. x.series ≡ Some s.id))
        (λ s h. by_test (gone s.id)
        (λ e. subst (λ o. IfSome o (λ x. x.series ≡ Some s.id)) (sym (object_gone s.id e)) tt)
        (λ e. subst (λ o. IfSome o (λ x. x.series ≡ Some s.id)) (sym (object_left s.id e)) h)) r.series w.firsts));
    renditions = (
      apart_filter (λ c d. c.id.0 < d.id.0) (λ d. not (gone d.of)) r.renditions w.renditions.0,
      all_kept (λ d. not (gone d.of)) (IsRendition after) r.renditions (All-weaker (IsRendition r) (λ d. not (gone d.of) ≡ true → IsRendition after d)
          (λ d h k. (h.0, by_test (gone d.id) (object_gone d.id) (λ e. object_left d.id e ∙ h.1), there_left d.of (not_true (gone d.of) k) h.2)) r.renditions w.renditions.1),
    );
    root = (base_left bases.Folder root f.root w.root.0, parent_left root w.root.0 f.root ∙ w.root.1);
    ways = all_kept (λ y. not (gone y.id)) (λ y. is_a r bases.Folder y ≡ true → HasWay after.filed y.id) r.objects
        (all_zip (λ y. object_at r y.id ≡ Some y) (λ y. is_a r bases.Folder y ≡ true → HasWay r.filed y.id) (λ y. not (gone y.id) ≡ true → is_a r bases.Folder y ≡ true → HasWay after.filed y.id) r.objects
        way_left (all_found (λ y. y.id) r.objects w.numbers.0) w.ways);
    one_parent = All-filter (λ y. not (gone y.id)) (λ y. is_a r bases.Folder y ≡ true → count_by (λ p. same p.child y.id) after.filed ≤ 1) r.objects
        (All-weaker (λ y. is_a r bases.Folder y ≡ true → count_by (λ p. same p.child y.id) r.filed ≤ 1) (λ y. is_a r bases.Folder y ≡ true → count_by (λ p. same p.child y.id) after.filed ≤ 1)
        (λ y h e. let most : count_by (λ p. same p.child y.id) r.filed ≤ 1 = h e in
        let fewer : count_by (λ p. same p.child y.id) after.filed ≤ count_by (λ p. same p.child y.id) r.filed = count_filtered (λ p. same p.child y.id) (λ p. not (entry_goes r gone p.child)) r.filed in
        omega (arith, most, fewer)) r.objects w.one_parent);
    pairs = all_kept (λ p. not (entry_goes r gone p.child)) (IsPair after) r.filed
        (all_zip (λ p. entry_goes r gone p.child ≡ false → gone p.folder ≡ false) (IsPair r) (λ p. not (entry_goes r gone p.child) ≡ true → IsPair after p) r.filed pair_left f.folders w.pairs);
    names = apart_weaker (λ p. not (entry_goes r gone p.child) ≡ true) (Differ r) (Differ after) (filter (λ p. not (entry_goes r gone p.child)) r.filed)
        (λ p q a b d e. rw (name_stays p.child (not_true (entry_goes r gone p.child) a), name_stays q.child (not_true (entry_goes r gone q.child) b)) (d e))
        (filter_passes (λ p. not (entry_goes r gone p.child)) r.filed) (apart_filter (Differ r) (λ p. not (entry_goes r gone p.child)) r.filed w.names);
    documents = all_kept (λ y. not (gone y.id)) (λ y. Belongs after y y.series) r.objects
        (All-weaker (λ y. Belongs r y y.series) (λ y. not (gone y.id) ≡ true → Belongs after y y.series) (λ y b k. belongs_left y y.series (not_true (gone y.id) k) b) r.objects w.documents);
    series = all_kept has_members (IsSeries after) (map left r.series) (All-map (λ s. has_members s ≡ true → IsSeries after s) left r.series
        (All-weaker (IsSeries r) (λ s. has_members (left s) ≡ true → IsSeries after (left s)) series_is_left r.series w.series));
    plain = all_kept (λ y. not (gone y.id)) (IsPlainIn after) r.objects
        (all_zip (λ y. Belongs r y y.series) (IsPlainIn r) (λ y. not (gone y.id) ≡ true → IsPlainIn after y) r.objects plain_left w.documents w.plain);
    own_names = all_kept (λ y. not (gone y.id)) (λ y. is_some y.name ≡ not (is_version after y)) r.objects
        (all_zip (λ y. Belongs r y y.series) (λ y. is_some y.name ≡ not (is_version r y)) (λ y. not (gone y.id) ≡ true → is_some y.name ≡ not (is_version after y)) r.objects
        (λ y b h k. h ∙ ap not (sym (version_left y y.series (not_true (gone y.id) k) b))) w.documents w.own_names);
    relationships = all_kept (λ y. not (gone y.id)) (λ y. is_a r bases.Relationship y ≡ true → HasEnds after y) r.objects
        (all_zip IsTied (λ y. is_a r bases.Relationship y ≡ true → HasEnds r y) (λ y. not (gone y.id) ≡ true → is_a r bases.Relationship y ≡ true → HasEnds after y) r.objects
        (λ y g h k e. ends_left y (g e (not_true (gone y.id) k)) (h e)) f.ends w.relationships);
    policies = all_kept (λ a. not (gone a.object)) (λ a. IsBaseAt after bases.Policy a.policy × IsThere after a.object) r.applied
        (all_zip (λ a. gone a.object ≡ false → gone a.policy ≡ false) (λ a. IsBaseAt r bases.Policy a.policy × IsThere r a.object) (λ a. not (gone a.object) ≡ true → IsBaseAt after bases.Policy a.policy × IsThere after a.object) r.applied
        (λ a g h k. let stays = not_true (gone a.object) k in (base_left bases.Policy a.policy (g stays) h.0, there_left a.object stays h.1)) f.policies w.policies);
    access = (
      apart_filter (λ k l. k.at.0 < l.at.0) (λ l. not (entry_goes r gone l.at)) r.access w.access.0,
      all_kept (λ l. not (entry_goes r gone l.at)) (IsAccess after) r.access
          (All-weaker (IsAccess r) (λ l. not (entry_goes r gone l.at) ≡ true → IsAccess after l) (λ l h k. listed_stays l (not_true (entry_goes r gone l.at) k) h) r.access w.access.1),
    );
    listed = all_kept (λ y. not (gone y.id)) (λ y. is_listed after.access (entry_of y) ≡ true) r.objects
        (all_zip (λ y. (object_at r y.id ≡ Some y) × Belongs r y y.series) (λ y. is_listed r.access (entry_of y) ≡ true) (λ y. not (gone y.id) ≡ true → is_listed after.access (entry_of y) ≡ true) r.objects list_left
        (all_zip (λ y. object_at r y.id ≡ Some y) (λ y. Belongs r y y.series) (λ y. (object_at r y.id ≡ Some y) × Belongs r y y.series) r.objects (λ y a b. (a, b)) (all_found (λ y. y.id) r.objects w.numbers.0) w.documents) w.listed);
    sizes = All-filter (λ c. not (gone c.of)) (λ c. length c.stream.pieces ≤ longest_stream) r.contents w.sizes;
    own_values = All-filter (λ y. not (gone y.id)) (OwnsValues r.types) r.objects w.own_values;
    groups = w.groups;
    contents = (
      apart_filter (λ c d. c.of.0 < d.of.0) (λ c. not (gone c.of)) r.contents w.contents.0,
      all_kept (λ c. not (gone c.of)) (λ c. IsBaseAt after bases.Document c.of × (c.step ≤ r.step)) r.contents
          (All-weaker (λ c. IsBaseAt r bases.Document c.of × (c.step ≤ r.step)) (λ c. not (gone c.of) ≡ true → IsBaseAt after bases.Document c.of × (c.step ≤ r.step))
          (λ c h k. (base_left bases.Document c.of (not_true (gone c.of) k) h.0, h.1)) r.contents w.contents.1),
    );
    typed = All-filter (λ y. not (gone y.id)) (IsTyped r.types) r.objects w.typed;
    types = w.types;
    defs = w.defs;
    kept = All-filter (λ y. not (gone y.id)) (λ y. IsKept after (props_of r.types y.kind y.secondary) y) r.objects
        (All-weaker (λ y. IsKept r (props_of r.types y.kind y.secondary) y) (λ y. IsKept after (props_of r.types y.kind y.secondary) y) (λ y k. kept_anywhere r after y y w.defs refl k) r.objects w.kept);
    bounds = w.bounds;
    tokens = All-filter (λ y. not (gone y.id)) (λ y. y.token ≤ r.step) r.objects w.tokens;
    labels = All-filter has_members (HasLabelsOf r.step) (map left r.series) (All-map (HasLabelsOf r.step) left r.series
        (All-weaker (HasLabelsOf r.step) (λ s. HasLabelsOf r.step (left s)) (λ s h. All-filter (λ v. not (gone v.object)) (λ v. IfSome v.label (λ l. (l.major ≤ r.step) × (l.minor ≤ r.step))) s.versions h) r.series w.labels));
  }
