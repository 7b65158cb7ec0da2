-- The object that stands for an entry in its folders is the one of that entry that stands.
use Rattle.std.specs.Prelude.{◌≡◌, ℕ, zero, suc, ◌-◌, Bool, true, false, ◌&&◌, if◌then◌else◌, List, [], ◌∷◌, ◌++◌, map, find, length, slice_get, All, Option, Some, None, IfSome, unwrap_or, option_map, option_and_then}
use Rattle.std.proofs.Common.{refl, sym, ap, subst, ◌∙◌, inl, inr}
use Rattle.std.proofs.lemmas.Bool.{both_ways}
use Rattle.std.proofs.lemmas.List.Elements.{All-nil, All-cons, All-head, All-tail, All-weaker}
use Rattle.cm_base.specs.declared.number.Oid.{Oid}
use Rattle.cm_base.specs.declared.object.Object.{Object}
use Rattle.cm_base.specs.declared.series.Series.{Series}
use Rattle.cm_base.specs.declared.series.DocumentVersion.{DocumentVersion}
use Rattle.cm_types.specs.declared.definition.BaseType.TheVariants as bases
use Rattle.cmis_spec.specs.Repository.{Repository, same, object_at, series_at, is_a, last_of, is_latest, latest_version, entry_of}
use Rattle.cmis_spec.specs.Access.{stands}
use Rattle.cmis_spec.specs.Documents.{standing}
use Rattle.cmis_spec.specs.Well.{IsEntryAt, Belongs, copy_in, IsMember, IsWellFormed}
use Rattle.cmis_laws.proofs.Lists.{by_test, find_alike, find_none, found_holds, none_some, some_eq, all_zip, all_found, same_eq, same_refl, differ}
use Rattle.cmis_laws.proofs.Entries.{not_both, number_found, series_found}
use Rattle.cmis_laws.proofs.Begun.{IsSeries}

-- what an item of a list has
pub got_holds : {A : Type 0} (P : A → Type 0) (xs : List A) (i : ℕ) (x : A) → All P xs → slice_get xs i ≡ Some x → P x
got_holds P [] i x all h = absurd (none_some x h)
got_holds P (y ∷ ys) zero x all h = subst P (some_eq y x h) (All-head P y ys all)
got_holds P (y ∷ ys) (suc i) x all h = got_holds P ys i x (All-tail P y ys all) h

-- the versions are members
versions_all : (P : Oid → Type 0) (vs : List DocumentVersion) (ms : List Oid) → All P (map (λ (v : DocumentVersion). v.object) vs ++ ms) → All (λ (v : DocumentVersion). P v.object) vs
versions_all P [] ms all = All-nil (λ (v : DocumentVersion). P v.object)
versions_all P (v ∷ vs) ms all = All-cons (λ (v : DocumentVersion). P v.object) v vs (All-head P v.object (map (λ (v : DocumentVersion). v.object) vs ++ ms) all) (versions_all P vs ms (All-tail P v.object (map (λ (v : DocumentVersion). v.object) vs ++ ms) all))

flip : (a b : Oid) → same a b ≡ same b a
flip a b = by_test (same a b)
    (λ e. e ∙ sym (subst (λ n. same n a ≡ true) (same_eq a b e) (same_refl a)))
    (λ e. e ∙ sym (differ b a (λ k. both_ways (same a b) e (subst (λ n. same a n ≡ true) (sym k) (same_refl a)))))

module _ (r : Repository) (w : IsWellFormed r) (n : Oid) where
  abbrev is_it : Object → Option Object → Bool
  is_it x o = unwrap_or (option_map (λ y. same x.id y.id) o) false

  -- what is no document has no series' number
  no_series : (y : Object) → object_at r n ≡ Some y → is_a r bases.Document y ≡ false → series_at r n ≡ None
  no_series y there other = by (series_at r n) refl
    where
      by : (o : Option Series) → series_at r n ≡ o → series_at r n ≡ None
      by None e = e
      by (Some s) e =
          let first : IfSome (object_at r s.id) (λ z. z.series ≡ Some s.id) = found_holds (λ t. IfSome (object_at r t.id) (λ z. z.series ≡ Some t.id)) (λ t. same t.id n) r.series s w.firsts e in
          let own : y.series ≡ Some s.id = subst (λ o. IfSome o (λ z. z.series ≡ Some s.id)) (ap (object_at r) (series_found r n s e) ∙ there) first in
          let belongs : Belongs r y (Some s.id) = subst (Belongs r y) own (found_holds (λ z. Belongs r z z.series) (λ z. same z.id n) r.objects y w.documents there) in
          absurd (both_ways (is_a r bases.Document y) other belongs.0)

  -- two objects of one number are one
  it : (x y : Object) → object_at r x.id ≡ Some x → object_at r y.id ≡ Some y → same x.id y.id ≡ true → x ≡ y
  it x y a b e = some_eq x y (sym a ∙ (ap (object_at r) (same_eq x.id y.id e) ∙ b))

  own_number : (m : Oid) (y : Object) → object_at r m ≡ Some y → object_at r y.id ≡ Some y
  own_number m y h = ap (object_at r) (number_found r m y h) ∙ h

  -- a folder or an item stands for itself
  alone_stands : (y x : Object) → object_at r n ≡ Some y → is_a r bases.Document y ≡ false → object_at r x.id ≡ Some x → (o : Option Oid) → Belongs r x o
      → (same (unwrap_or o x.id) n && unwrap_or (option_map (λ s. is_latest s x.id) (option_and_then (series_at r) o)) true) ≡ is_it x (standing r n)
  alone_stands y x at other there o b = by o b ∙ sym (ap (is_it x) (ap (λ p. unwrap_or (option_map (latest_version r) p) (object_at r n)) (no_series y at other) ∙ at))
    where
      id : y.id ≡ n
      id = number_found r n y at

      and_true : (b : Bool) → b && true ≡ b
      and_true true = refl
      and_true false = refl

      by : (o : Option Oid) → Belongs r x o → (same (unwrap_or o x.id) n && unwrap_or (option_map (λ s. is_latest s x.id) (option_and_then (series_at r) o)) true) ≡ same x.id y.id
      by None b = and_true (same x.id n) ∙ ap (same x.id) (sym id)
      by (Some k) b = by_test (same k n)
          (λ e. absurd (none_some b.1.0 (sym (no_series y at other) ∙ (ap (series_at r) (sym (same_eq k n e)) ∙ b.1.1))))
          (λ e. ap (λ c. c && unwrap_or (option_map (λ s. is_latest s x.id) (series_at r k)) true) e ∙ sym (by_test (same x.id y.id)
          (λ d. absurd (both_ways (is_a r bases.Document y) other (subst (λ z. is_a r bases.Document z ≡ true) (it x y there (own_number n y at) d) b.0)))
          (λ d. d)))

  -- a series stands by its latest version
  series_stands : (s : Series) (x : Object) → series_at r n ≡ Some s → object_at r x.id ≡ Some x → (o : Option Oid) → x.series ≡ o → Belongs r x o
      → (same (unwrap_or o x.id) n && unwrap_or (option_map (λ s. is_latest s x.id) (option_and_then (series_at r) o)) true) ≡ is_it x (standing r n)
  series_stands s x at there o own b = by o own b ∙ sym (ap (is_it x) (ap (λ p. unwrap_or (option_map (latest_version r) p) (object_at r n)) at))
    where
      id : s.id ≡ n
      id = series_found r n s at

      is_series : IsSeries r s
      is_series = found_holds (IsSeries r) (λ t. same t.id n) r.series s w.series at

      -- the latest version is a member
      latest_in : (v : DocumentVersion) → last_of s.versions ≡ Some v → IsMember r s v.object
      latest_in v h = got_holds (λ (v : DocumentVersion). IsMember r s v.object) s.versions (length s.versions - 1) v (versions_all (IsMember r s) s.versions (copy_in s) is_series.0) h

      -- what the latest version is
      latest_is : (o : Option DocumentVersion) → last_of s.versions ≡ o → is_it x (latest_version r s) ≡ unwrap_or (option_map (λ (v : DocumentVersion). same x.id v.object) o) false
      latest_is None h = ap (λ p. is_it x (option_and_then (λ (v : DocumentVersion). object_at r v.object) p)) h
      latest_is (Some v) h =
          let m : IsMember r s v.object = latest_in v h in
          ap (λ p. is_it x (option_and_then (λ (v : DocumentVersion). object_at r v.object) p)) h ∙ (ap (is_it x) m.1 ∙ ap (same x.id) (number_found r v.object m.0 m.1))

      -- what is in another series, or in none, is not it
      not_it : (x.series ≡ Some n → ⊥) → (o : Option DocumentVersion) → last_of s.versions ≡ o → unwrap_or (option_map (λ (v : DocumentVersion). same x.id v.object) o) false ≡ false
      not_it other None h = refl
      not_it other (Some v) h = by_test (same x.id v.object)
          (λ e.
          let m : IsMember r s v.object = latest_in v h in
          let mine : x ≡ m.0 = some_eq x m.0 (sym there ∙ (ap (object_at r) (same_eq x.id v.object e) ∙ m.1)) in
          absurd (other (ap (λ z. z.series) mine ∙ (m.2 ∙ ap Some id))))
          (λ e. e)

      first : x.series ≡ None → same x.id n ≡ false
      first none = by_test (same x.id n)
          (λ e.
          let h : IfSome (object_at r s.id) (λ z. z.series ≡ Some s.id) = found_holds (λ t. IfSome (object_at r t.id) (λ z. z.series ≡ Some t.id)) (λ t. same t.id n) r.series s w.firsts at in
          let k : x.series ≡ Some s.id = subst (λ o. IfSome o (λ z. z.series ≡ Some s.id)) (ap (object_at r) (id ∙ sym (same_eq x.id n e)) ∙ there) h in
          absurd (none_some s.id (sym none ∙ k)))
          (λ e. e)

      turned : (o : Option DocumentVersion) → unwrap_or (option_map (λ (v : DocumentVersion). same v.object x.id) o) false ≡ unwrap_or (option_map (λ (v : DocumentVersion). same x.id v.object) o) false
      turned None = refl
      turned (Some v) = flip v.object x.id

      by : (o : Option Oid) → x.series ≡ o → Belongs r x o → (same (unwrap_or o x.id) n && unwrap_or (option_map (λ s. is_latest s x.id) (option_and_then (series_at r) o)) true) ≡ is_it x (latest_version r s)
      by None own b = ap (λ c. c && true) (first own)
          ∙ sym (latest_is (last_of s.versions) refl ∙ not_it (λ k. none_some n (sym own ∙ k)) (last_of s.versions) refl)
      by (Some k) own b = by_test (same k n)
          (λ e.
          let found : series_at r k ≡ Some s = ap (series_at r) (same_eq k n e) ∙ at in
          ap (λ c. c && unwrap_or (option_map (λ s. is_latest s x.id) (series_at r k)) true) e
          ∙ (ap (λ p. unwrap_or (option_map (λ s. is_latest s x.id) p) true) found
          ∙ (turned (last_of s.versions) ∙ sym (latest_is (last_of s.versions) refl))))
          (λ e.
          ap (λ c. c && unwrap_or (option_map (λ s. is_latest s x.id) (series_at r k)) true) e
          ∙ sym (latest_is (last_of s.versions) refl ∙ not_it (λ h. both_ways (same k n) e (subst (λ m. same m n ≡ true) (some_eq n k (sym h ∙ own)) (same_refl n))) (last_of s.versions) refl))

  -- an object is of the entry and stands exactly where it is the one that stands for it
  pub stands_is : IsEntryAt r n → (x : Object) → object_at r x.id ≡ Some x → Belongs r x x.series → (same (entry_of x) n && stands r x) ≡ is_it x (standing r n)
  stands_is (inl h) x there b = alone_stands h.0 x h.1 (not_both r h.0 bases.Folder bases.Document refl h.2) there x.series b
  stands_is (inr (inl h)) x there b = alone_stands h.0 x h.1 (not_both r h.0 bases.Item bases.Document refl h.2) there x.series b
  stands_is (inr (inr h)) x there b = series_stands h.0 x h.1 there x.series refl b

  -- and it is there
  pub standing_there : (y : Object) → standing r n ≡ Some y → object_at r y.id ≡ Some y
  standing_there y h = by (series_at r n) refl h
    where
      late : (o : Option DocumentVersion) → option_and_then (λ (v : DocumentVersion). object_at r v.object) o ≡ Some y → object_at r y.id ≡ Some y
      late None k = absurd (none_some y k)
      late (Some v) k = own_number v.object y k

      by : (o : Option Series) → series_at r n ≡ o → unwrap_or (option_map (latest_version r) o) (object_at r n) ≡ Some y → object_at r y.id ≡ Some y
      by None e k = own_number n y k
      by (Some s) e k = late (last_of s.versions) k

  -- a search for what stands for the entry, and passes a test
  pub standing_found : IsEntryAt r n → (keep : Object → Bool) → find (λ x. (same (entry_of x) n && stands r x) && keep x) r.objects ≡ option_and_then (λ x. if keep x then Some x else None) (standing r n)
  standing_found entry keep = by (standing r n) refl
    where
      each : All (λ x. (same (entry_of x) n && stands r x) ≡ is_it x (standing r n)) r.objects
      each = all_zip (λ x. object_at r x.id ≡ Some x) (λ x. Belongs r x x.series) (λ x. (same (entry_of x) n && stands r x) ≡ is_it x (standing r n)) r.objects (stands_is entry) (all_found (λ x. x.id) r.objects w.numbers.0) w.documents

      -- of one number there is one object
      kept : (y : Object) → object_at r y.id ≡ Some y → find (λ x. same x.id y.id && keep x) r.objects ≡ (if keep y then Some y else None)
      kept y there = by_test (keep y)
          (λ e. find_alike (λ x. same x.id y.id && keep x) (λ x. same x.id y.id) r.objects
          (All-weaker (λ x. object_at r x.id ≡ Some x) (λ x. (same x.id y.id && keep x) ≡ same x.id y.id) (λ x at. by_test (same x.id y.id) (λ d. ap (λ b. b && keep x) d ∙ (ap keep (it x y at there d) ∙ (e ∙ sym d))) (λ d. ap (λ b. b && keep x) d ∙ sym d)) r.objects (all_found (λ x. x.id) r.objects w.numbers.0))
          ∙ (there ∙ sym (ap (λ b. if b then Some y else None) e)))
          (λ e. find_none (λ x. same x.id y.id && keep x) r.objects
          (All-weaker (λ x. object_at r x.id ≡ Some x) (λ x. same x.id y.id && keep x ≡ false) (λ x at. by_test (same x.id y.id) (λ d. ap (λ b. b && keep x) d ∙ (ap keep (it x y at there d) ∙ e)) (λ d. ap (λ b. b && keep x) d)) r.objects (all_found (λ x. x.id) r.objects w.numbers.0))
          ∙ sym (ap (λ b. if b then Some y else None) e))

      by : (o : Option Object) → standing r n ≡ o → find (λ x. (same (entry_of x) n && stands r x) && keep x) r.objects ≡ option_and_then (λ x. if keep x then Some x else None) o
      by None e = find_none (λ x. (same (entry_of x) n && stands r x) && keep x) r.objects
          (All-weaker (λ x. (same (entry_of x) n && stands r x) ≡ is_it x (standing r n)) (λ x. (same (entry_of x) n && stands r x) && keep x ≡ false) (λ x h. ap (λ b. b && keep x) (h ∙ ap (is_it x) e)) r.objects each)
      by (Some y) e = find_alike (λ x. (same (entry_of x) n && stands r x) && keep x) (λ x. same x.id y.id && keep x) r.objects
          (All-weaker (λ x. (same (entry_of x) n && stands r x) ≡ is_it x (standing r n)) (λ x. ((same (entry_of x) n && stands r x) && keep x) ≡ (same x.id y.id && keep x)) (λ x h. ap (λ b. b && keep x) (h ∙ ap (is_it x) e)) r.objects each)
          ∙ kept y (standing_there y e)
