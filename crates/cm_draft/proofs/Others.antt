-- The objects and series of all other numbers, where one comes, goes or changes.
use Rattle.std.specs.Prelude.{◌≡◌, false, not, if◌then◌else◌, List, [], ◌∷◌, ◌++◌, map, filter, find}
use Rattle.std.proofs.Common.{refl, ap, ◌∙◌}
use Rattle.cm_base.specs.declared.number.Oid.{Oid}
use Rattle.cmis_spec.specs.Repository.{same}
use Rattle.cmis_laws.proofs.Lists.{by_test, same_eq, find_passed_over}
use Rattle.cm_state.proofs.Numbers.{flip}

module _ {A : Type 0} (id : A → Oid) where
  pub other_last : (xs : List A) (x : A) (n m : Oid) → id x ≡ n → same m n ≡ false → find (λ y. same (id y) m) (xs ++ x ∷ []) ≡ find (λ y. same (id y) m) xs
  other_last xs x n m at o = find_passed_over (λ y. same (id y) m) xs x (ap (λ k. same k m) at ∙ (flip m.0 n.0 ∙ o))

  pub other_put : (x : A) (n m : Oid) → id x ≡ n → same m n ≡ false → (zs : List A) → find (λ z. same (id z) m) (map (λ z. if same (id z) n then x else z) zs) ≡ find (λ z. same (id z) m) zs
  other_put x n m at o [] = refl
  other_put x n m at o (z ∷ zs) =
      let mine : same n m ≡ false = flip m.0 n.0 ∙ o in
      by_test (same (id z) n)
      (λ e. let its : same (id z) m ≡ false = ap (λ k. same k m) (same_eq (id z) n e) ∙ mine in
      let new : same (id x) m ≡ false = ap (λ k. same k m) at ∙ mine in
      rw (e, its, new) (other_put x n m at o zs))
      (λ e. by_test (same (id z) m) (λ d. rw (e, d) refl) (λ d. rw (e, d) (other_put x n m at o zs)))

  pub other_less : (n m : Oid) → same m n ≡ false → (zs : List A) → find (λ z. same (id z) m) (filter (λ z. not (same (id z) n)) zs) ≡ find (λ z. same (id z) m) zs
  other_less n m o [] = refl
  other_less n m o (z ∷ zs) = by_test (same (id z) n)
      (λ e. let its : same (id z) m ≡ false = ap (λ k. same k m) (same_eq (id z) n e) ∙ (flip m.0 n.0 ∙ o) in rw (e, its) (other_less n m o zs))
      (λ e. by_test (same (id z) m) (λ d. rw (e, d) refl) (λ d. rw (e, d) (other_less n m o zs)))
