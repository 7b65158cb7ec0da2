-- What a failing step leaves of the steps after it, and the steps of a loop through a list of causes.
use Rattle.std.proofs.Common.{◌≡◌, ◌∙◌, ℕ, ◌+◌, ◌<◌, ◌≤◌, List, ◌∷◌, length, drop, get_or, refl, sym, ap, subst, add-one, drop-cons}
use Rattle.std.specs.Prelude.{Option, Ok}
use Rattle.std.proofs.lemmas.List.{drop_all}
use Rattle.cm_base.specs.declared.cause.Cause.{Cause}
use Rattle.cm_base.specs.declared.fail.Fail.{Fail}
use Rattle.cm_base.specs.declared.fail.Fail.TheVariants as fails
use Rattle.cm_base.specs.Judged.{Judged, Fails, ◌>>=◌, ◌>>◌, judge_by, first_cause}

pub fails_then : {B : Type 0} (e : Fail) (j : Judged (Unit {0})) (rest : Judged B) → Fails e j → Fails e (j >> rest)
fails_then (fails.Refused c) j rest h = rw h refl
fails_then fails.Memory j rest h = tt

pub fails_bind : {A B : Type 0} (e : Fail) (j : Judged A) (f : A → Judged B) → Fails e j → Fails e (j >>= f)
fails_bind (fails.Refused c) j f h = rw h refl
fails_bind fails.Memory j f h = tt

cut : {A : Type 0} (xs : List A) (i : ℕ) (d : A) → i < length xs → drop i xs ≡ get_or xs i d ∷ drop (i + 1) xs
cut xs i d lt = rw (add-one, drop-cons xs i d) refl

-- the item at i has no cause
pub first_more : {A : Type 0} (f : A → Option Cause) (xs : List A) (i : ℕ) (d : A) → i < length xs
    → judge_by (f (get_or xs i d)) ≡ Ok tt → first_cause f (drop i xs) ≡ first_cause f (drop (i + 1) xs)
first_more f xs i d lt h = ap (first_cause f) (cut xs i d lt) ∙ rw h refl

-- the item at i has one
pub first_fails : {A : Type 0} (e : Fail) (f : A → Option Cause) (xs : List A) (i : ℕ) (d : A) → i < length xs
    → Fails e (judge_by (f (get_or xs i d))) → Fails e (first_cause f (drop i xs))
first_fails e f xs i d lt h =
    subst (λ j. Fails e j) (sym (ap (first_cause f) (cut xs i d lt))) (fails_then e (judge_by (f (get_or xs i d))) (first_cause f (drop (i + 1) xs)) h)

-- no item is left
pub first_none : {A : Type 0} (f : A → Option Cause) (xs : List A) (i : ℕ) → length xs ≤ i → first_cause f (drop i xs) ≡ Ok tt
first_none f xs i le = ap (first_cause f) (drop_all i xs le)
