-- A list as a map from the place to the element.
use Rattle.std.proofs.Common.{Bor, MatchOption, ◌≡◌, ℕ, zero, suc, ◌+◌, ◌≤◌, ◌<◌, List, [], ◌∷◌, ◌++◌, map, length, Option, Some, None, refl, ap, sym, ◌∙◌, arith, zero-add}
use Rattle.std.specs.List.{enumerate_from, slice_get}
use Rattle.std.specs.Option.{option_copied}
use Rattle.std.specs.Ordering.{nat_cmp}
use Rattle.std.specs.Cmp.{nat_cmp_is}
use Rattle.core.specs.FinMap.Entries.{put, find}
use Rattle.core.specs.declared.cmp.Ordering.TheVariants.{Equal, Greater}

pub map-enumerate : {X : Type 0} (n : ℕ) (xs : List X) → map (λ e. e.1) (enumerate_from n xs) ≡ xs
map-enumerate n [] = refl
map-enumerate n (x ∷ xs) = ap (λ ys. x ∷ ys) (map-enumerate (n + 1) xs)

-- an element put past the end
pub put-end : {X : Type 0} (n k : ℕ) (xs : List X) (x : X) → k ≡ n + length xs → put nat_cmp k x (enumerate_from n xs) ≡ enumerate_from n (xs ++ x ∷ [])
put-end n k [] x is = let e : k ≡ n = omega (arith, is) in ap (λ k. (k, x) ∷ []) e
put-end n k (y ∷ ys) x is =
    let past : n < k = omega (arith, is) in
    rw (← nat_cmp_is k n Greater past) (ap (λ es. (n, y) ∷ es) (put-end (n + 1) k ys x (omega (arith, is))))

-- the element at a place
pub find-place : {X : Type 0} (n k : ℕ) (xs : List X) → find nat_cmp (n + k) (enumerate_from n xs) ≡ slice_get xs k
find-place n k [] = refl
find-place n zero (x ∷ xs) = rw (← nat_cmp_is (n + 0) n Equal (omega arith)) refl
find-place n (suc k) (x ∷ xs) =
    let past : n < n + suc k = omega arith in
    let e : n + suc k ≡ (n + 1) + k = omega arith in
    rw (← nat_cmp_is (n + suc k) n Greater past) (ap (λ m. find nat_cmp m (enumerate_from (n + 1) xs)) e ∙ find-place (n + 1) k xs)

-- a map by place with one more element at its end
pub with-end : {X : Type 0} (es fs : List (ℕ × X)) (k : ℕ) (x : X) → es ≡ enumerate_from 0 (map (λ e. e.1) es) → k ≡ length es → fs ≡ put nat_cmp k x es
    → fs ≡ enumerate_from 0 (map (λ e. e.1) es ++ x ∷ [])
with-end es fs k x is at put_so =
    let xs = map (λ (e : ℕ × _). e.1) es in
    let long : k ≡ 0 + length xs = omega (arith, at, ap length is, length-enumerated 0 xs) in
    put_so ∙ (ap (put nat_cmp k x) is ∙ put-end 0 k xs x long)
  where
    length-enumerated : {X : Type 0} (n : ℕ) (xs : List X) → length (enumerate_from n xs) ≡ length xs
    length-enumerated n [] = refl
    length-enumerated n (x ∷ xs) = ap suc (length-enumerated (n + 1) xs)

-- what isn't at a place lies past the end
pub past-end : {X : Type 0} (xs : List X) (k : ℕ) → None ≡ slice_get xs k → length xs ≤ k
past-end [] k h = omega arith
past-end (x ∷ xs) zero h = absurd (cc h)
past-end (x ∷ xs) (suc k) h = (let le : length xs ≤ k = past-end xs k h in omega (arith, le))

-- what a map by place gives at a place
pub place-got : {X : Type 0} (o : Option (Bor X)) (es : List (ℕ × X)) (xs : List X) (k : ℕ) → option_copied o ≡ find nat_cmp k es → es ≡ enumerate_from 0 xs
    → MatchOption o (length xs ≤ k) (λ e. slice_get xs k ≡ Some e.now)
place-got None es xs k got is =
    let e : 0 + k ≡ k = zero-add k in
    past-end xs k (got ∙ (ap (find nat_cmp k) is ∙ (ap (λ m. find nat_cmp m (enumerate_from 0 xs)) (sym e) ∙ find-place 0 k xs)))
place-got (Some b) es xs k got is =
    let e : 0 + k ≡ k = zero-add k in
    sym (got ∙ (ap (find nat_cmp k) is ∙ (ap (λ m. find nat_cmp m (enumerate_from 0 xs)) (sym e) ∙ find-place 0 k xs)))
