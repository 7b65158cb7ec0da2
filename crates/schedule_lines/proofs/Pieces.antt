-- The pieces of a list between the elements that pass a test.
use Rattle.std.proofs.Common.{◌≡◌, ◌∙◌, ◌++◌, ◌+◌, ℕ, Bool, true, false, cond, List, [], ◌∷◌, refl, ap, take, drop, arith}
use Rattle.std.specs.List.{list_any, slice_split, onto_first, before_first, after_first, position_or_len}
use Rattle.std.proofs.lemmas.Grind.{common_steps}

-- there is a first piece
pub first_piece : {X : Type 0} (p : X → Bool) (xs : List X) → (q : List X) × (qs : List (List X)) × (slice_split p xs ≡ q ∷ qs)
first_piece p [] = ([], [], refl)
first_piece p (x ∷ xs) = by_test (p x) (slice_split p xs) (first_piece p xs)
  where
    by_test : (b : Bool) (parts : List (List _)) → (q : List _) × (qs : List (List _)) × (parts ≡ q ∷ qs) → (q : List _) × (qs : List (List _)) × (cond b ([] ∷ parts) (onto_first x parts) ≡ q ∷ qs)
    by_test true parts f = ([], parts, refl)
    by_test false parts (q, qs, e) = (x ∷ q, qs, ap (onto_first x) e)

take_one_more : {X : Type 0} (n : ℕ) (x : X) (xs : List X) → take (1 + n) (x ∷ xs) ≡ x ∷ take n xs
take_one_more n x xs = grind (arith, common_steps)

drop_one_more : {X : Type 0} (n : ℕ) (x : X) (xs : List X) → drop (1 + n + 1) (x ∷ xs) ≡ drop (n + 1) xs
drop_one_more n x xs = grind (arith, common_steps)

-- the first piece ends at the first element that passes
pub piece_ends : {X : Type 0} (p : X → Bool) (xs ys : List X) → list_any p xs ≡ true → slice_split p (xs ++ ys) ≡ before_first p xs ∷ slice_split p (after_first p xs ++ ys)
piece_ends p [] ys h = cc h
piece_ends {X = X} p (x ∷ xs) ys h = by_test (p x) refl (piece_ends p xs ys)
  where
    by_test : (b : Bool) → p x ≡ b → (list_any p xs ≡ true → slice_split p (xs ++ ys) ≡ before_first p xs ∷ slice_split p (after_first p xs ++ ys))
        → slice_split p ((x ∷ xs) ++ ys) ≡ before_first p (x ∷ xs) ∷ slice_split p (after_first p (x ∷ xs) ++ ys)
    by_test true e next = rw e refl
    by_test false e next = rw (e, take_one_more (position_or_len p xs) x xs, drop_one_more (position_or_len p xs) x xs) (ap (onto_first x) (next (rw e at h)))

-- where none passes, all is one piece
pub one_piece : {X : Type 0} (p : X → Bool) (xs : List X) → list_any p xs ≡ false → (slice_split p xs ≡ xs ∷ []) × (before_first p xs ≡ xs) × (after_first p xs ≡ [])
one_piece p [] h = (refl, refl, refl)
one_piece {X = X} p (x ∷ xs) h = by_test (p x) refl (one_piece p xs)
  where
    by_test : (b : Bool) → p x ≡ b → (list_any p xs ≡ false → (slice_split p xs ≡ xs ∷ []) × (before_first p xs ≡ xs) × (after_first p xs ≡ []))
        → (slice_split p (x ∷ xs) ≡ (x ∷ xs) ∷ []) × (before_first p (x ∷ xs) ≡ x ∷ xs) × (after_first p (x ∷ xs) ≡ [])
    by_test true e next = cc (rw e at h)
    by_test false e next = let t = next (rw e at h) in (
      rw e (ap (onto_first x) t.0),
      rw (e, take_one_more (position_or_len p xs) x xs) (ap (λ ys. x ∷ ys) t.1),
      rw (e, drop_one_more (position_or_len p xs) x xs) t.2,
    )

-- two lists of pieces, of which the last and the first are one
abbrev pub glued : {X : Type 0} → List (List X) → List (List X) → List (List X)
glued [] qs = qs
glued (p ∷ []) [] = p ∷ []
glued (p ∷ []) (q ∷ qs) = (p ++ q) ∷ qs
glued (p ∷ r ∷ ps) qs = p ∷ glued (r ∷ ps) qs

onto_glued : {X : Type 0} (x : X) (p : List X) (ps : List (List X)) (q : List X) (qs : List (List X)) → onto_first x (glued (p ∷ ps) (q ∷ qs)) ≡ glued (onto_first x (p ∷ ps)) (q ∷ qs)
onto_glued x p [] q qs = refl
onto_glued x p (r ∷ ps) q qs = refl

-- the pieces of two lists together
pub pieces_together : {X : Type 0} (p : X → Bool) (xs ys : List X) → slice_split p (xs ++ ys) ≡ glued (slice_split p xs) (slice_split p ys)
pieces_together p [] ys = (let (q, qs, e) = first_piece p ys in rw e refl)
pieces_together {X = X} p (x ∷ xs) ys = by_test (p x) (slice_split p xs) (first_piece p xs) (slice_split p ys) (first_piece p ys) (slice_split p (xs ++ ys)) (pieces_together p xs ys)
  where
    by_test : (b : Bool) (front : List (List X)) → (q : List X) × (qs : List (List X)) × (front ≡ q ∷ qs) → (back : List (List X)) → (q : List X) × (qs : List (List X)) × (back ≡ q ∷ qs)
        → (all : List (List X)) → all ≡ glued front back → cond b ([] ∷ all) (onto_first x all) ≡ glued (cond b ([] ∷ front) (onto_first x front)) back
    by_test true front (q, qs, e) back f all is = ap (λ (t : List (List X)). [] ∷ t) is ∙ rw e refl
    by_test false front (q, qs, e) back (r, rs, f) all is = ap (onto_first x) is ∙ rw (e, f) (onto_glued x q qs r rs)
