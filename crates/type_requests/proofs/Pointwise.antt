-- Lists compared item by item: one more item, and lists of other lengths.
use Rattle.std.proofs.Common.{◌≡◌, ◌≢◌, ◌∙◌, ℕ, suc, ◌+◌, ◌<◌, Bool, true, false, ◌&&◌, List, [], ◌∷◌, length, take, get_or, refl, sym, ap, arith, add-one, zero}
use lib.Pointwise.{pointwise, pointwise_long}

alone : (b : Bool) → (b && true) ≡ b
alone true = refl
alone false = refl

grouped : (a b c : Bool) → (a && (b && c)) ≡ ((a && b) && c)
grouped true b c = refl
grouped false b c = refl

more : {A : Type 0} (E : A → A → Bool) (xs ys : List A) (i : ℕ) (d e : A) → length xs ≡ length ys → i < length xs
    → (pointwise E (take i xs) (take i ys) && E (get_or xs i d) (get_or ys i e)) ≡ pointwise E (take (suc i) xs) (take (suc i) ys)
more E [] ys i d e same lt = absurd (omega arith)
more E (x ∷ xs) [] i d e same lt = absurd (omega arith)
more E (x ∷ xs) (y ∷ ys) zero d e same lt = sym (alone (E x y))
more E (x ∷ xs) (y ∷ ys) (suc i) d e same lt =
    sym (grouped (E x y) (pointwise E (take i xs) (take i ys)) (E (get_or xs i d) (get_or ys i e)))
    ∙ ap (λ b. E x y && b) (more E xs ys i d e (omega arith) (omega arith))

-- one more item each
pub all_more : {A : Type 0} (E : A → A → Bool) (xs ys : List A) (i : ℕ) (d e : A) → length xs ≡ length ys → i < length xs
    → (pointwise E (take i xs) (take i ys) && E (get_or xs i d) (get_or ys i e)) ≡ pointwise E (take (i + 1) xs) (take (i + 1) ys)
all_more E xs ys i d e same lt = rw add-one (more E xs ys i d e same lt)

unequal : {A : Type 0} (E : A → A → Bool) (xs ys : List A) (b : Bool) → length xs ≢ length ys → pointwise E xs ys ≡ b → b ≡ false
unequal E xs ys true n h = absurd (n (pointwise_long E xs ys h))
unequal E xs ys false n h = refl

-- lists of other lengths
pub all_unequal : {A : Type 0} (E : A → A → Bool) (xs ys : List A) → length xs ≢ length ys → false ≡ pointwise E xs ys
all_unequal E xs ys n = sym (unequal E xs ys (pointwise E xs ys) n refl)
