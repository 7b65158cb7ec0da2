-- The first cause of a list: where its items all have the same one, and where they are found.
use Rattle.std.specs.Prelude.{◌≡◌, Bool, true, false, ◌||◌, List, [], ◌∷◌, filter_map, Option, Some, None, option_and_then, if◌then◌else◌}
use Rattle.std.specs.List.{list_any}
use Rattle.std.proofs.Common.{refl, ap}
use Rattle.core.specs.List.{cons_option}
use Rattle.cm_base.specs.declared.cause.Cause.{Cause}
use Rattle.cm_base.specs.Judged.{◌>>◌, refuse, judge_by, first_cause}

pub first_same : {A : Type 0} (c : Cause) (test : A → Bool) (xs : List A) → first_cause (λ x. if test x then Some c else None) xs ≡ refuse c (list_any test xs)
first_same c test [] = refl
first_same c test (x ∷ xs) = elim (test x) as (λ b. (judge_by (if b then Some c else None) >> first_cause (λ x. if test x then Some c else None) xs) ≡ refuse c (b || list_any test xs)) [
  | true ↦ refl
  | false ↦ first_same c test xs
]

-- a cause of what is found, over what is asked
pub first_found : {A B : Type 0} (h : A → Option B) (f : B → Option Cause) (xs : List A) → first_cause (λ x. option_and_then f (h x)) xs ≡ first_cause f (filter_map h xs)
first_found h f [] = refl
first_found h f (x ∷ xs) = elim (h x) as (λ o. (judge_by (option_and_then f o) >> first_cause (λ x. option_and_then f (h x)) xs) ≡ first_cause f (cons_option o (filter_map h xs))) [
  | None ↦ first_found h f xs
  | Some y ↦ ap (λ j. judge_by (f y) >> j) (first_found h f xs)
]
