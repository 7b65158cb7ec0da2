-- What stands for an entry, and which objects stand in a folder.
use Rattle.std.specs.Prelude.{◌≡◌, ℕ, zero, suc, ◌==◌, Bool, true, false, ◌&&◌, if◌then◌else◌, List, [], ◌∷◌, ◌++◌, map, slice_get, length, ◌-◌, All, Option, Some, None, IfSome, is_none, option_map, option_and_then, unwrap_or}
use Rattle.std.proofs.Common.{refl, sym, ap, subst, ◌∙◌}
use Rattle.std.proofs.lemmas.Bool.{both_ways, and_parts}
use Rattle.std.proofs.lemmas.List.Elements.{All-head, All-tail, All-weaker}
use Rattle.cm_base.specs.declared.number.Oid.{Oid}
use Rattle.cm_base.specs.declared.object.Object.{Object}
use Rattle.cm_base.specs.declared.series.Series.{Series}
use Rattle.cm_base.specs.declared.series.DocumentVersion.{DocumentVersion}
use Rattle.cmis_spec.specs.Repository.{Repository, same, object_at, series_at, is_latest, last_of, entry_of}
use Rattle.cmis_spec.specs.Access.{stands}
use Rattle.cmis_spec.specs.Well.{Apart, Belongs, members, copy_in, HasSome, IsMember, IsWellFormed}
use Rattle.cmis_laws.proofs.Lists.{by_test, some_eq, none_some, found_holds, same_eq, same_refl, differ}
use Rattle.cmis_laws.proofs.Entries.{number_found, series_found, one_there}
use Rattle.cm_state.specs.Looks.{standing_by, standing_at, has_number}

-- the last of a list is one of it
last_holds : (P : Oid → Type 0) (vs : List DocumentVersion) (rest : List Oid) (v : DocumentVersion) → All P (map (λ v. v.object) vs ++ rest) → last_of vs ≡ Some v → P v.object
last_holds P vs rest v all e = at vs (length vs - 1) all e
  where
    at : (vs : List DocumentVersion) (n : ℕ) → All P (map (λ v. v.object) vs ++ rest) → slice_get vs n ≡ Some v → P v.object
    at [] n all e = absurd (none_some v e)
    at (w ∷ vs) zero all e = subst (λ (u : DocumentVersion). P u.object) (some_eq w v e) (All-head P w.object (map (λ v. v.object) vs ++ rest) all)
    at (w ∷ vs) (suc n) all e = at vs n (All-tail P w.object (map (λ v. v.object) vs ++ rest) all) e

-- what belongs to a series, where it is none, and where it is another
in_none : (m c : Oid) → (m ≡ c → ⊥) → (b : Bool) → same m c && b ≡ false
in_none m c h b = ap (λ t. t && b) (differ m c h)

module _ (r : Repository) (w : IsWellFormed r) where
  belongs : (n : Oid) (x : Object) → object_at r n ≡ Some x → Belongs r x x.series
  belongs n x e = found_holds (λ x. Belongs r x x.series) (λ x. same x.id n) r.objects x w.documents e

  -- the first object of a series is in it
  first_in : (c : Oid) (s : Series) (x : Object) → series_at r c ≡ Some s → object_at r c ≡ Some x → x.series ≡ Some c
  first_in c s x e o =
      let id : s.id ≡ c = series_found r c s e in
      subst (λ m. x.series ≡ Some m) id (subst (λ o. IfSome o (λ y. y.series ≡ Some s.id)) (ap (object_at r) id ∙ o) (found_holds (λ s. IfSome (object_at r s.id) (λ y. y.series ≡ Some s.id)) (λ s. same s.id c) r.series s w.firsts e))

  -- a version is in its series
  version_in : (c : Oid) (s : Series) (v : DocumentVersion) → series_at r c ≡ Some s → last_of s.versions ≡ Some v → IsMember r s v.object
  version_in c s v e l = last_holds (IsMember r s) s.versions (copy_in s) v (found_holds (λ s. All (IsMember r s) (members s)) (λ s. same s.id c) r.series s (All-weaker (λ s. All (IsMember r s) (members s) × Apart (λ m n. same m n ≡ false) (members s) × HasSome s) (λ s. All (IsMember r s) (members s)) (λ s h. h.0) r.series w.series) e) l

  -- ---- an object stands for an entry exactly where the entry is its own, and it stands

  abbrev Tells : Oid → Object → Type 0
  Tells c x = (object_at r x.id ≡ Some x) × (entry_of x ≡ c) × (stands r x ≡ true)

  by_version : (c : Oid) (s : Series) (x : Object) → series_at r c ≡ Some s → (o : Option DocumentVersion) → last_of s.versions ≡ o → option_and_then (λ v. object_at r v.object) o ≡ Some x → Tells c x
  by_version c s x e None l h = absurd (none_some x h)
  by_version c s x e (Some v) l h =
      let m : IsMember r s v.object = version_in c s v e l in
      let at : x.series ≡ Some c = subst (λ (y : Object). y.series ≡ Some c) (one_there r v.object m.0 x m.1 h) (m.2 ∙ ap Some (series_found r c s e)) in
      let id : x.id ≡ v.object = number_found r v.object x h in (
        ap (object_at r) id ∙ h,
        ap (λ o. unwrap_or o x.id) at,
        ap (λ o. unwrap_or (option_map (λ s. is_latest s x.id) (option_and_then (series_at r) o)) true) at
            ∙ (ap (λ o. unwrap_or (option_map (λ s. is_latest s x.id) o) true) e
            ∙ (ap (λ o. unwrap_or (option_map (λ v. same v.object x.id) o) false) l ∙ subst (λ k. same v.object k ≡ true) (sym id) (same_refl v.object))),
      )

  by_own : (c : Oid) (x : Object) (o : Option Object) → object_at r c ≡ o → option_and_then (λ y. if is_none y.series then Some y else None) o ≡ Some x → Tells c x
  by_own c x None e h = absurd (none_some x h)
  by_own c x (Some y) e h = of y.series refl
    where
      of : (o : Option Oid) → y.series ≡ o → Tells c x
      of (Some m) k = absurd (none_some x (sym (ap (λ o. if is_none o then Some y else None) k) ∙ h))
      of None k =
          let at : y ≡ x = some_eq y x (sym (ap (λ o. if is_none o then Some y else None) k) ∙ h) in
          let id : y.id ≡ c = number_found r c y e in
          subst (Tells c) at (
            ap (object_at r) id ∙ e,
            ap (λ o. unwrap_or o y.id) k ∙ id,
            ap (λ o. unwrap_or (option_map (λ s. is_latest s y.id) (option_and_then (series_at r) o)) true) k,
          )

  pub tells : (c : Oid) (x : Object) → standing_at r c ≡ Some x → Tells c x
  tells c x h = by (series_at r c) refl h
    where
      by : (o : Option Series) → series_at r c ≡ o → standing_by r c o ≡ Some x → Tells c x
      by (Some s) e h = by_version c s x e (last_of s.versions) refl h
      by None e h = by_own c x (object_at r c) refl h

  pub stands_for : (c : Oid) (x : Object) → Tells c x → standing_at r c ≡ Some x
  stands_for c x t = of x.series refl (belongs x.id x t.0)
    where
      of : (o : Option Oid) → x.series ≡ o → Belongs r x o → standing_at r c ≡ Some x
      of None k b = none (series_at r c) refl
        where
          id : x.id ≡ c
          id = sym (ap (λ o. unwrap_or o x.id) k) ∙ t.1

          none : (o : Option Series) → series_at r c ≡ o → standing_by r c o ≡ Some x
          none (Some s) e = absurd (none_some c (sym k ∙ first_in c s x e (ap (object_at r) (sym id) ∙ t.0)))
          none None e = ap (option_and_then (λ y. if is_none y.series then Some y else None)) (ap (object_at r) (sym id) ∙ t.0) ∙ ap (λ o. if is_none o then Some x else None) k
      of (Some m) k b =
          let at : m ≡ c = sym (ap (λ o. unwrap_or o x.id) k) ∙ t.1 in
          let e : series_at r c ≡ Some b.1.0 = ap (series_at r) (sym at) ∙ b.1.1 in
          let latest : is_latest b.1.0 x.id ≡ true = sym (ap (λ o. unwrap_or (option_map (λ s. is_latest s x.id) (option_and_then (series_at r) o)) true) k ∙ ap (λ o. unwrap_or (option_map (λ s. is_latest s x.id) o) true) b.1.1) ∙ t.2 in
          ap (standing_by r c) e ∙ version (last_of b.1.0.versions) latest
        where
          version : (o : Option DocumentVersion) → unwrap_or (option_map (λ v. same v.object x.id) o) false ≡ true → option_and_then (λ v. object_at r v.object) o ≡ Some x
          version None h = absurd (both_ways false refl h)
          version (Some v) h = ap (object_at r) (same_eq v.object x.id h) ∙ t.0

  pub bool_same : (a b : Bool) → (a ≡ true → b ≡ true) → (b ≡ true → a ≡ true) → a ≡ b
  bool_same true b f g = sym (f refl)
  bool_same false true f g = absurd (both_ways false refl (g refl))
  bool_same false false f g = refl

  has_some : (n : ℕ) (o : Option Object) → has_number n o ≡ true → (x : Object) × (o ≡ Some x) × ((x.id.0 == n) ≡ true)
  has_some n None h = absurd (both_ways false refl h)
  has_some n (Some x) h = (x, refl, h)

  -- no object of a number that is not there stands for anything
  pub none_stands : (n c : Oid) → object_at r n ≡ None → has_number n.0 (standing_at r c) ≡ false
  none_stands n c e = by_test (has_number n.0 (standing_at r c))
      (λ t. let s = has_some n.0 (standing_at r c) t in
      absurd (none_some s.0 (sym e ∙ (ap (object_at r) (sym (same_eq s.0.id n s.2)) ∙ (tells c s.0 s.1).0))))
      (λ t. t)

  pub number_stands : (n : Oid) (x : Object) → object_at r n ≡ Some x → (c : Oid) → has_number n.0 (standing_at r c) ≡ (same (entry_of x) c && stands r x)
  number_stands n x e c = bool_same (has_number n.0 (standing_at r c)) (same (entry_of x) c && stands r x)
      (λ t. let s = has_some n.0 (standing_at r c) t in
      let k : Tells c s.0 = tells c s.0 s.1 in
      let at : s.0 ≡ x = one_there r n s.0 x (ap (object_at r) (sym (same_eq s.0.id n s.2)) ∙ k.0) e in
      subst (λ y. same (entry_of y) c && stands r y ≡ true) at ((λ i. same (k.1 i) c && k.2 i) ∙ ap (λ b. b && true) (same_refl c)))
      (λ t. let p = and_parts (same (entry_of x) c) (stands r x) t in
      let id : x.id ≡ n = number_found r n x e in
      ap (has_number n.0) (stands_for c x (ap (object_at r) id ∙ e, same_eq (entry_of x) c p.0, p.1)) ∙ subst (λ m. same m n ≡ true) (sym id) (same_refl n))
