-- Lists in the order of keys.
use Rattle.std.specs.Prelude.{◌≡◌, ℕ, Bool, true, false, List, [], ◌∷◌, fold}
use Rattle.core.specs.declared.cmp.Ordering.TheVariants.{Less}
use Rattle.core.specs.List.{AllByRecursion}
use Rattle.std.specs.List.{insert, remove}
use Rattle.std.specs.Ordering.{nat_cmp, match_ordering}
use Rattle.std.specs.Cmp.Lexicographic.{slice_cmp}

-- one more at its place by byte order of the keys, or in place of what has its key
abbrev pub placed : {A : Type 0} → (A → List ℕ) → A → List A → List A
placed key x [] = x ∷ []
placed key x (y ∷ ys) = match_ordering (slice_cmp nat_cmp (key x) (key y)) (x ∷ y ∷ ys) (x ∷ ys) (y ∷ placed key x ys)

-- one more at a place, or in place of what stands there
abbrev pub put_at : {A : Type 0} → Bool → List A → ℕ → A → List A
put_at false xs i x = insert xs i x
put_at true xs i x = insert (remove xs i) i x

-- by byte order of the keys; of one key the last
abbrev pub in_key_order : {A : Type 0} → (A → List ℕ) → List A → List A
in_key_order key xs = fold (λ ys x. placed key x ys) [] xs

-- each key is below those behind it
abbrev pub AreRising : {A : Type 0} → (A → List ℕ) → List A → Type 0
AreRising key [] = Unit {0}
AreRising key (x ∷ xs) = AllByRecursion (λ y. slice_cmp nat_cmp (key x) (key y) ≡ Less) xs × AreRising key xs
