-- The series of the documents that go.
use Rattle.std.specs.Prelude.{◌≡◌, ◌<◌, Bool, true, false, ◌||◌, not, if◌then◌else◌, List, [], ◌∷◌, ◌++◌, map, filter, find, fold, All, Option, Some, None, unwrap_or, is_some, option_map, option_and_then}
use Rattle.std.specs.List.{list_any}
use Rattle.std.proofs.Common.{refl, sym, ap, subst, ◌∙◌, arith}
use Rattle.std.proofs.lemmas.Bool.{both_ways}
use Rattle.std.proofs.lemmas.List.Elements.{All-nil, All-cons, All-head, All-tail, All-weaker, filter_passes}
use Rattle.cm_base.specs.declared.number.Oid.{Oid}
use Rattle.cm_base.specs.declared.series.Series.{Series}
use Rattle.cm_base.specs.declared.series.WorkingCopy.{WorkingCopy}
use Rattle.cm_base.specs.declared.series.DocumentVersion.{DocumentVersion}
use Rattle.cmis_spec.specs.Repository.{Repository, same, series_at}
use Rattle.cmis_spec.specs.Changes.{edited_series}
use Rattle.cmis_spec.specs.Removal.{left_in, has_members, among}
use Rattle.cmis_spec.specs.Well.{Apart, copy_in, members}
use Rattle.cmis_laws.proofs.Lists.{by_test, some_eq, find_yes, find_no, apart_weaker, apart_map, same_eq, found_passes}
use Rattle.cmis_laws.proofs.Kept.{all_unfound}
use Rattle.cmis_laws.proofs.Left.{apart_filter}
use Rattle.cmis_laws.proofs.Passed.{or_left, or_right}
use Rattle.cm_draft.specs.Without.{without_series}
use Rattle.cm_removal.specs.Steps.{with_left, series_put}
use Rattle.cm_removal.proofs.Filters.{filter_whole}

module _ (gone : Oid → Bool) where
  abbrev left : Series → Series
  left s = left_in gone s

  -- the series of this number with what is left
  abbrev one_left : Oid → Series → Series
  one_left n s = if same s.id n then left s else s

  -- those of these numbers
  abbrev some_left : List Oid → Series → Series
  some_left ns s = if among ns s.id then left s else s

  -- ---- nothing is left twice

  kept_twice : (vs : List DocumentVersion) → filter (λ v. not (gone v.object)) (filter (λ v. not (gone v.object)) vs) ≡ filter (λ v. not (gone v.object)) vs
  kept_twice vs = filter_whole (λ (v : DocumentVersion). not (gone v.object)) (filter (λ v. not (gone v.object)) vs) (filter_passes (λ (v : DocumentVersion). not (gone v.object)) vs)

  abbrev copy_kept : Option WorkingCopy → Option WorkingCopy
  copy_kept o = option_and_then (λ (w : WorkingCopy). if gone w.copy then None else Some w) o

  copy_twice : (o : Option WorkingCopy) → copy_kept (copy_kept o) ≡ copy_kept o
  copy_twice None = refl
  copy_twice (Some w) = by_test (gone w.copy) (λ e. rw e refl) (λ e. rw e (ap (λ b. if b then None else Some w) e))

  left_twice : (s : Series) → left (left s) ≡ left s
  left_twice s = λ i. record { id = s.id; name = s.name; versions = kept_twice s.versions i; working = copy_twice s.working i }

  -- where no document is, none is left
  none_left : (s : Series) → has_members s ≡ false → has_members (left s) ≡ false
  none_left s h = by s.versions s.working h
    where
      by : (vs : List DocumentVersion) (o : Option WorkingCopy) → has_members (record s { versions = vs; working = o }) ≡ false → has_members (left (record s { versions = vs; working = o })) ≡ false
      by [] None h = refl
      by [] (Some w) h = absurd (both_ways true h refl)
      by (v ∷ vs) o h = absurd (both_ways true h refl)

  -- ---- one series

  abbrev step : Oid → List Series → List Series
  step n ss = filter has_members (map (one_left n) ss)

  -- a series alone has its number
  lone : (n : Oid) (ss : List Series) → Apart (λ s t. s.id.0 < t.id.0) ss → (s : Series) → find (λ t. same t.id n) ss ≡ Some s → All (λ t. same t.id n ≡ true → t ≡ s) ss
  lone n [] a s h = All-nil (λ t. same t.id n ≡ true → t ≡ s)
  lone n (t ∷ ts) a s h = by_test (same t.id n)
      (λ e. let at : t ≡ s = some_eq t s (sym (find_yes (λ t. same t.id n) t ts e) ∙ h) in
      All-cons (λ t. same t.id n ≡ true → t ≡ s) t ts (λ _. at)
      (All-weaker (λ u. t.id.0 < u.id.0) (λ u. same u.id n ≡ true → u ≡ s) (λ u l k. absurd (let m : t.id.0 ≡ u.id.0 = ap (λ i. i.0) (same_eq t.id n e ∙ sym (same_eq u.id n k)) in omega (arith, l, m))) ts a.0))
      (λ e. All-cons (λ t. same t.id n ≡ true → t ≡ s) t ts (λ k. absurd (both_ways (same t.id n) e k)) (lone n ts a.1 s (sym (find_no (λ t. same t.id n) t ts e) ∙ h)))

  module _ (n : Oid) where
    abbrev HasAll : List Series → Type 0
    HasAll ss = All (λ s. has_members s ≡ true) ss

    unnumbered : (ss : List Series) → HasAll ss → All (λ s. same s.id n ≡ false) ss → step n ss ≡ ss
    unnumbered [] h a = refl
    unnumbered (s ∷ ss) h a =
        let other : same s.id n ≡ false = All-head (λ s. same s.id n ≡ false) s ss a in
        let has : has_members s ≡ true = All-head (λ s. has_members s ≡ true) s ss h in
        let rest : step n ss ≡ ss = unnumbered ss (All-tail (λ s. has_members s ≡ true) s ss h) (All-tail (λ s. same s.id n ≡ false) s ss a) in
        rw other (rw has (ap (λ l. s ∷ l) rest))

    changed : (s : Series) → has_members (left s) ≡ true → (ss : List Series) → HasAll ss → All (λ t. same t.id n ≡ true → t ≡ s) ss → map (λ t. if same t.id n then left s else t) ss ≡ step n ss
    changed s k [] h a = refl
    changed s k (t ∷ ts) h a =
        let rest : map (λ t. if same t.id n then left s else t) ts ≡ step n ts = changed s k ts (All-tail (λ s. has_members s ≡ true) t ts h) (All-tail (λ t. same t.id n ≡ true → t ≡ s) t ts a) in
        by_test (same t.id n)
        (λ e. let at : t ≡ s = All-head (λ t. same t.id n ≡ true → t ≡ s) t ts a e in
        let has : has_members (left t) ≡ true = subst (λ u. has_members (left u) ≡ true) (sym at) k in
        rw e (rw has (λ i. left (sym at i) ∷ rest i)))
        (λ e. let has : has_members t ≡ true = All-head (λ s. has_members s ≡ true) t ts h in
        rw e (rw has (ap (λ l. t ∷ l) rest)))

    dropped : (s : Series) → has_members (left s) ≡ false → (ss : List Series) → HasAll ss → All (λ t. same t.id n ≡ true → t ≡ s) ss → filter (λ t. not (same t.id n)) ss ≡ step n ss
    dropped s k [] h a = refl
    dropped s k (t ∷ ts) h a =
        let rest : filter (λ t. not (same t.id n)) ts ≡ step n ts = dropped s k ts (All-tail (λ s. has_members s ≡ true) t ts h) (All-tail (λ t. same t.id n ≡ true → t ≡ s) t ts a) in
        by_test (same t.id n)
        (λ e. let at : t ≡ s = All-head (λ t. same t.id n ≡ true → t ≡ s) t ts a e in
        let has : has_members (left t) ≡ false = subst (λ u. has_members (left u) ≡ false) (sym at) k in
        rw e (rw has rest))
        (λ e. let has : has_members t ≡ true = All-head (λ s. has_members s ≡ true) t ts h in
        rw e (rw has (ap (λ l. t ∷ l) rest)))

  -- ---- all of them

  -- what is left of one and then of the others
  then_others : (n : Oid) (ns : List Oid) (s : Series) → some_left ns (one_left n s) ≡ some_left (n ∷ ns) s
  then_others n ns s = by_test (same s.id n)
      (λ e. rw e (by_test (among ns s.id) (λ d. rw d (left_twice s)) (λ d. rw d refl)))
      (λ e. rw e refl)

  none_later : (ns : List Oid) (s : Series) → has_members s ≡ false → has_members (some_left ns s) ≡ false
  none_later ns s h = by_test (among ns s.id) (λ e. rw e (none_left s h)) (λ e. rw e h)

  filter_later : (ns : List Oid) (ss : List Series) → filter has_members (map (some_left ns) (filter has_members ss)) ≡ filter has_members (map (some_left ns) ss)
  filter_later ns [] = refl
  filter_later ns (s ∷ ss) =
      let rest : filter has_members (map (some_left ns) (filter has_members ss)) ≡ filter has_members (map (some_left ns) ss) = filter_later ns ss in
      by_test (has_members s)
      (λ e. rw e (by_test (has_members (some_left ns s)) (λ d. rw d (ap (λ l. some_left ns s ∷ l) rest)) (λ d. rw d rest)))
      (λ e. let gone_too : has_members (some_left ns s) ≡ false = none_later ns s e in rw e (rw gone_too rest))

  map_twice : (n : Oid) (ns : List Oid) (ss : List Series) → map (some_left ns) (map (one_left n) ss) ≡ map (some_left (n ∷ ns)) ss
  map_twice n ns [] = refl
  map_twice n ns (s ∷ ss) = λ i. then_others n ns s i ∷ map_twice n ns ss i

  map_none : (ss : List Series) → map (some_left []) ss ≡ ss
  map_none [] = refl
  map_none (s ∷ ss) = ap (λ l. s ∷ l) (map_none ss)

  -- the steps one after the other leave what is left of all at once
  pub steps_are : (ns : List Oid) (ss : List Series) → All (λ s. has_members s ≡ true) ss → fold (λ l n. step n l) ss ns ≡ filter has_members (map (some_left ns) ss)
  steps_are [] ss h = sym (ap (filter has_members) (map_none ss) ∙ filter_whole has_members ss h)
  steps_are (n ∷ ns) ss h = steps_are ns (step n ss) (filter_passes has_members (map (one_left n) ss))
      ∙ (filter_later ns (map (one_left n) ss) ∙ ap (filter has_members) (map_twice n ns ss))

  -- ---- in a repository

  -- one step there
  put_is : (d : Repository) (n : Oid) → Apart (λ s t. s.id.0 < t.id.0) d.series → All (λ s. has_members s ≡ true) d.series → with_left gone d n ≡ record d { series = step n d.series }
  put_is d n a h = by (series_at d n) refl
    where
      by : (o : Option Series) → series_at d n ≡ o → series_put d n (option_map (left_in gone) o) ≡ record d { series = step n d.series }
      by None e = λ i. record d { series = sym (unnumbered n d.series h (all_unfound (λ s. same s.id n) d.series e)) i }
      by (Some s) e =
          let at : s.id ≡ n = same_eq s.id n (found_passes (λ s. same s.id n) d.series s e) in
          let ones : All (λ t. same t.id n ≡ true → t ≡ s) d.series = lone n d.series a s e in
          by_test (has_members (left s))
          (λ k. rw k (λ i. record d { series = (ap (λ m. map (λ t. if same t.id m then left s else t) d.series) at ∙ changed n s k d.series h ones) i }))
          (λ k. rw k (λ i. record d { series = dropped n s k d.series h ones i }))

  step_apart : (n : Oid) (ss : List Series) → Apart (λ s t. s.id.0 < t.id.0) ss → Apart (λ s t. s.id.0 < t.id.0) (step n ss)
  step_apart n ss a = apart_filter (λ s t. s.id.0 < t.id.0) has_members (map (one_left n) ss) (apart_map (λ s t. s.id.0 < t.id.0) (one_left n) ss
      (apart_weaker (λ s. Unit {0}) (λ s t. s.id.0 < t.id.0) (λ s t. (one_left n s).id.0 < (one_left n t).id.0) ss
      (λ s t _ _ l. by_test (same s.id n)
      (λ e. by_test (same t.id n) (λ d. rw (e, d) l) (λ d. rw (e, d) l))
      (λ e. by_test (same t.id n) (λ d. rw (e, d) l) (λ d. rw (e, d) l))) (units ss) a))
    where
      units : (ss : List Series) → All (λ s. Unit {0}) ss
      units [] = All-nil (λ s. Unit {0})
      units (s ∷ ss) = All-cons (λ s. Unit {0}) s ss tt (units ss)

  -- all steps
  put_all : (ns : List Oid) (d : Repository) → Apart (λ s t. s.id.0 < t.id.0) d.series → All (λ s. has_members s ≡ true) d.series → fold (with_left gone) d ns ≡ record d { series = fold (λ l n. step n l) d.series ns }
  put_all [] d a h = refl
  put_all (n ∷ ns) d a h = ap (λ q. fold (with_left gone) q ns) (put_is d n a h)
      ∙ put_all ns (record d { series = step n d.series }) (step_apart n d.series a) (filter_passes has_members (map (one_left n) d.series))

  -- what is left of the series, where the numbers of all that lose a document are there
  pub lefts_are : (ns : List Oid) (d : Repository) → Apart (λ s t. s.id.0 < t.id.0) d.series → All (λ s. has_members s ≡ true) d.series → All (λ s. among ns s.id ≡ false → left_in gone s ≡ s) d.series
      → fold (with_left gone) d ns ≡ record d { series = filter has_members (map (left_in gone) d.series) }
  lefts_are ns d a h others = put_all ns d a h
      ∙ (λ i. record d { series = (steps_are ns d.series h ∙ ap (filter has_members) (every d.series others)) i })
    where
      every : (ss : List Series) → All (λ s. among ns s.id ≡ false → left_in gone s ≡ s) ss → map (some_left ns) ss ≡ map (left_in gone) ss
      every [] o = refl
      every (s ∷ ss) o =
          let here : some_left ns s ≡ left_in gone s = by_test (among ns s.id) (λ e. rw e refl) (λ e. rw e (sym (All-head (λ s. among ns s.id ≡ false → left_in gone s ≡ s) s ss o e))) in
          λ i. here i ∷ every ss (All-tail (λ s. among ns s.id ≡ false → left_in gone s ≡ s) s ss o) i

  -- a series none of whose documents goes
  pub unchanged : (s : Series) → list_any gone (members s) ≡ false → left_in gone s ≡ s
  unchanged s h = λ i. record { id = s.id; name = s.name; versions = versions i; working = working s.working (later s.versions h) i }
    where
      later : (vs : List DocumentVersion) → list_any gone (map (λ (v : DocumentVersion). v.object) vs ++ copy_in s) ≡ false → list_any gone (copy_in s) ≡ false
      later [] h = h
      later (v ∷ vs) h = later vs (or_right (gone v.object) (list_any gone (map (λ (v : DocumentVersion). v.object) vs ++ copy_in s)) h)

      all_stay : (vs : List DocumentVersion) → list_any gone (map (λ (v : DocumentVersion). v.object) vs ++ copy_in s) ≡ false → filter (λ v. not (gone v.object)) vs ≡ vs
      all_stay [] h = refl
      all_stay (v ∷ vs) h =
          let here : gone v.object ≡ false = or_left (gone v.object) (list_any gone (map (λ (v : DocumentVersion). v.object) vs ++ copy_in s)) h in
          rw here (ap (λ l. v ∷ l) (all_stay vs (or_right (gone v.object) (list_any gone (map (λ (v : DocumentVersion). v.object) vs ++ copy_in s)) h)))

      versions : filter (λ v. not (gone v.object)) s.versions ≡ s.versions
      versions = all_stay s.versions h

      working : (o : Option WorkingCopy) → list_any gone (unwrap_or (option_map (λ (w : WorkingCopy). w.copy ∷ []) o) []) ≡ false → copy_kept o ≡ o
      working None k = refl
      working (Some w) k = let here : gone w.copy ≡ false = or_left (gone w.copy) false k in rw here refl

  -- a document stays where a version or the working copy does
  pub has_left_is : (s : Series) → has_members (left_in gone s) ≡ (list_any (λ v. not (gone v.object)) s.versions || unwrap_or (option_map (λ w. not (gone w.copy)) s.working) false)
  has_left_is s = by s.versions
    where
      copy : (o : Option WorkingCopy) → list_any (λ n. true) (unwrap_or (option_map (λ (w : WorkingCopy). w.copy ∷ []) (copy_kept o)) []) ≡ unwrap_or (option_map (λ (w : WorkingCopy). not (gone w.copy)) o) false
      copy None = refl
      copy (Some w) = by_test (gone w.copy) (λ e. rw e refl) (λ e. rw e refl)

      by : (vs : List DocumentVersion) → list_any (λ n. true) (map (λ (v : DocumentVersion). v.object) (filter (λ (v : DocumentVersion). not (gone v.object)) vs) ++ copy_in (left_in gone s))
          ≡ (list_any (λ (v : DocumentVersion). not (gone v.object)) vs || unwrap_or (option_map (λ (w : WorkingCopy). not (gone w.copy)) s.working) false)
      by [] = copy s.working
      by (v ∷ vs) = by_test (gone v.object) (λ e. rw e (by vs)) (λ e. rw e refl)

  -- ---- the series that is found

  module _ (d : Repository) (n : Oid) (s l : Series) (found : series_at d n ≡ Some s) (at : l ≡ left_in gone s) where
    pub left_there : is_some (series_at d l.id) ≡ true
    left_there = ap (λ m. is_some (series_at d m)) (ap (λ (t : Series). t.id) at ∙ same_eq s.id n (found_passes (λ s. same s.id n) d.series s found)) ∙ ap is_some found

    pub left_edited : has_members (left_in gone s) ≡ true → edited_series d l ≡ with_left gone d n
    left_edited h = ap (edited_series d) at ∙ (sym (ap (λ b. if b then edited_series d (left_in gone s) else without_series d n) h) ∙ sym (ap (λ o. series_put d n (option_map (left_in gone) o)) found))

  pub left_dropped : (d : Repository) (n : Oid) (s : Series) → series_at d n ≡ Some s → has_members (left_in gone s) ≡ false → without_series d n ≡ with_left gone d n
  left_dropped d n s found h = sym (ap (λ b. if b then edited_series d (left_in gone s) else without_series d n) h) ∙ sym (ap (λ o. series_put d n (option_map (left_in gone) o)) found)

  pub left_none : (d : Repository) (n : Oid) → series_at d n ≡ None → d ≡ with_left gone d n
  left_none d n none = sym (ap (λ o. series_put d n (option_map (left_in gone) o)) none)
