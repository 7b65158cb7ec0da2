-- Whether there is an object that passes, by the list of the numbers of those that do.
use Rattle.std.specs.Prelude.{◌≡◌, ◌==◌, Bool, true, false, ◌||◌, not, if◌then◌else◌, List, [], ◌∷◌, map, filter, length}
use Rattle.std.specs.List.{list_any}
use Rattle.std.proofs.Common.{refl, arith}
use Rattle.cm_base.specs.declared.object.Object.{Object}

pub some_number : (p : Object → Bool) (xs : List Object) → not (length (map (λ x. x.id) (filter p xs)) == 0) ≡ list_any p xs
some_number p [] = refl
some_number p (x ∷ xs) = by (p x) (some_number p xs)
  where
    by : (b : Bool) → not (length (map (λ x. x.id) (filter p xs)) == 0) ≡ list_any p xs
        → not (length (map (λ x. x.id) (if b then x ∷ filter p xs else filter p xs)) == 0) ≡ (b || list_any p xs)
    by true h = grind arith
    by false h = h
