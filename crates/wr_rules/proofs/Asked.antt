-- One more permission, and one more policy.
use Rattle.std.proofs.Common.{◌≡◌, ◌∙◌, ℕ, ◌+◌, ◌<◌, List, ◌++◌, map, length, take, get_or, refl, sym, ap, append_assoc}
use Rattle.std.specs.Prelude.{Option, Some, None, option_map}
use Rattle.std.specs.Option.{option_to_list}
use Rattle.std.specs.List.{filter_map}
use Rattle.std.proofs.lemmas.List.{map-append}
use Rattle.cm_types.proofs.Lists.{filter_map_more}

-- behind what was there, seen by a function
pub found_more : {A B X : Type 0} (f : B → X) (h : A → Option B) (before : List X) (xs : List A) (i : ℕ) (d : A) → i < length xs
    → (before ++ map f (filter_map h (take i xs))) ++ map f (option_to_list (h (get_or xs i d))) ≡ before ++ map f (filter_map h (take (i + 1) xs))
found_more f h before xs i d lt =
    append_assoc before (map f (filter_map h (take i xs))) (map f (option_to_list (h (get_or xs i d))))
    ∙ ap (λ l. before ++ l) (sym (map-append f (filter_map h (take i xs)) (option_to_list (h (get_or xs i d)))) ∙ ap (map f) (filter_map_more h xs i d lt))

pub of_option : {B X : Type 0} (f : B → X) (o : Option B) → option_to_list (option_map f o) ≡ map f (option_to_list o)
of_option f None = refl
of_option f (Some y) = refl
