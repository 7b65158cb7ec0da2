-- What one more place of the list of objects adds.
use Rattle.std.proofs.Common.{◌≡◌, ℕ, ◌+◌, ◌<◌, List, [], ◌∷◌, ◌++◌, length, take, get_or, refl, ap, ◌∙◌, arith}
use Rattle.std.proofs.lemmas.List.{take_more, length-take}
use Rattle.bulk_parts.specs.declared.writes.ObjectIdAndChangeToken.{ObjectIdAndChangeToken}
use Rattle.form_args.specs.declared.pairs.Pair.{Pair}
use Rattle.bind_writes.specs.Bulk.{object_at, objects_from}

-- one more object at the end
objects_more : (pairs : List Pair) (i : ℕ) (ids : List (List ℕ)) (id : List ℕ) → objects_from pairs i (ids ++ id ∷ []) ≡ objects_from pairs i ids ++ object_at pairs (i + length ids) id ∷ []
objects_more pairs i [] id = ap (λ n. object_at pairs n id ∷ []) (omega arith)
objects_more pairs i (x ∷ ids) id = ap (λ r. object_at pairs i x ∷ r) (objects_more pairs (i + 1) ids id ∙ ap (λ n. objects_from pairs (i + 1) ids ++ object_at pairs n id ∷ []) (omega arith))

-- the same by places of a list
pub objects_next : (pairs : List Pair) (ids : List (List ℕ)) (i : ℕ) (d : List ℕ) (done : List ObjectIdAndChangeToken) → i < length ids → done ≡ objects_from pairs 0 (take i ids)
    → done ++ object_at pairs i (get_or ids i d) ∷ [] ≡ objects_from pairs 0 (take (i + 1) ids)
objects_next pairs ids i d done lt h =
    let at : 0 + length (take i ids) ≡ i = omega (arith, length-take i ids) in
    rw (h, take_more ids i d lt, objects_more pairs 0 (take i ids) (get_or ids i d), at) refl
