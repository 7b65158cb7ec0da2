-- Numbers, each where it stands first.
use Rattle.std.specs.Prelude.{◌≡◌, Bool, true, false, ◌||◌, not, if◌then◌else◌, List, [], ◌∷◌, ◌++◌, filter}
use Rattle.std.proofs.Common.{refl, sym, ap, ◌∙◌, arith}
use Rattle.std.proofs.lemmas.Bool.{both_ways}
use Rattle.std.proofs.lemmas.List.Elements.{filter-append}
use Rattle.cm_base.specs.declared.number.Oid.{Oid}
use Rattle.cmis_spec.specs.Repository.{same}
use Rattle.cmis_spec.specs.Removal.{among, each_once}
use Rattle.cm_removal.specs.Steps.{with_last}
use Rattle.cmis_laws.proofs.Lists.{by_test, same_eq, same_refl}
use Rattle.cmis_laws.proofs.Going.{among_once, once_among}

-- one more at the end
abbrev pub last_once : List Oid → Oid → List Oid → List Oid
last_once ns n once = if among ns n then once else once ++ n ∷ []

pub once_last : (ns : List Oid) (n : Oid) → each_once (ns ++ n ∷ []) ≡ last_once ns n (each_once ns)
once_last [] n = refl
once_last (m ∷ ns) n = ap (λ l. m ∷ filter (λ k. not (same m k)) l) (once_last ns n) ∙ by_test (among ns n)
    (λ e. rw e (sym (ap (λ b. if b then m ∷ filter (λ k. not (same m k)) (each_once ns) else (m ∷ filter (λ k. not (same m k)) (each_once ns)) ++ n ∷ []) (or_true (same n m)))))
    (λ e. rw e (ap (λ l. m ∷ l) (filter-append (λ k. not (same m k)) (each_once ns) (n ∷ [])) ∙ by_test (same m n)
    (λ d. let turned : same n m ≡ true = ap (λ k. same k m) (sym (same_eq m n d)) ∙ same_refl m in rw (d, turned) (ap (λ l. m ∷ l) (nil (filter (λ k. not (same m k)) (each_once ns)))))
    (λ d. let turned : same n m ≡ false = flip m n ∙ d in rw (d, turned) refl)))
  where
    or_true : (b : Bool) → (b || true) ≡ true
    or_true b = grind arith

    flip : (a b : Oid) → same b a ≡ same a b
    flip a b = grind arith

    nil : (xs : List Oid) → xs ++ [] ≡ xs
    nil [] = refl
    nil (x ∷ xs) = ap (λ l. x ∷ l) (nil xs)

-- the same ones are among them
pub among_same : (ns : List Oid) (n : Oid) → among (each_once ns) n ≡ among ns n
among_same ns n = by_test (among ns n)
    (λ e. among_once n ns e ∙ sym e)
    (λ e. by_test (among (each_once ns) n) (λ d. absurd (both_ways (among ns n) e (once_among n ns d))) (λ d. d ∙ sym e))

pub once_more : (ns : List Oid) (n : Oid) → with_last (each_once ns) n ≡ each_once (ns ++ n ∷ [])
once_more ns n = ap (λ b. if b then each_once ns else each_once ns ++ n ∷ []) (among_same ns n) ∙ sym (once_last ns n)
