-- The place of the first that passes a test.
use Rattle.std.specs.Prelude.{◌≡◌, ◌+◌, nat_lt, Bool, cond, List, [], ◌∷◌, length, map, Some, None}
use Rattle.std.specs.List.{prefix_len, position_or_len, position}
use Rattle.std.proofs.Common.{refl, ap, ◌∙◌}
use Rattle.std.proofs.lemmas.List.{length-map}

prefix_len-map : {A B : Type 0} (p : B → Bool) (f : A → B) (xs : List A) → prefix_len p (map f xs) ≡ prefix_len (λ x. p (f x)) xs
prefix_len-map p f [] = refl
prefix_len-map p f (x ∷ xs) = ap (λ n. cond (p (f x)) (1 + n) 0) (prefix_len-map p f xs)

-- among results of a test it is the place of the first that passes the test
pub position_of_map : {A : Type 0} (f : A → Bool) (xs : List A) → position (λ b. b) (map f xs) ≡ position f xs
position_of_map f xs =
    ap (λ n. cond (nat_lt n (length (map f xs))) (Some n) None) (prefix_len-map _ f xs)
    ∙ ap (λ n. cond (nat_lt (position_or_len f xs) n) (Some (position_or_len f xs)) None) (length-map xs f)
