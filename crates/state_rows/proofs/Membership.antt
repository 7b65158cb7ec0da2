-- What is in one of several lists.
use Rattle.std.specs.Prelude.{◌≡◌, Bool, false, ◌||◌, List, [], ◌∷◌, ◌++◌}
use Rattle.std.specs.List.{list_any, flat_map}
use Rattle.std.proofs.Common.{refl, sym, ap, ◌∙◌, arith}

pub any_append : {A : Type 0} (t : A → Bool) (xs ys : List A) → list_any t (xs ++ ys) ≡ (list_any t xs || list_any t ys)
any_append t [] ys = refl
any_append t (x ∷ xs) ys = ap (λ b. t x || b) (any_append t xs ys) ∙ turned (t x) (list_any t xs) (list_any t ys)
  where
    turned : (a b c : Bool) → (a || (b || c)) ≡ ((a || b) || c)
    turned a b c = grind arith

pub any_flat : {A B : Type 0} (t : B → Bool) (f : A → List B) (xs : List A) → list_any t (flat_map f xs) ≡ list_any (λ x. list_any t (f x)) xs
any_flat t f [] = refl
any_flat t f (x ∷ xs) = any_append t (f x) (flat_map f xs) ∙ ap (λ b. list_any t (f x) || b) (any_flat t f xs)

pub any_by : {A : Type 0} (p q : A → Bool) → ((a : A) → p a ≡ q a) → (xs : List A) → list_any p xs ≡ list_any q xs
any_by p q e [] = refl
any_by p q e (x ∷ xs) = λ i. e x i || any_by p q e xs i

pub any_never : {A : Type 0} (p : A → Bool) (xs : List A) → ((a : A) → p a ≡ false) → list_any p xs ≡ false
any_never p [] h = refl
any_never p (x ∷ xs) h = λ i. h x i || any_never p xs h i

pub any_or : {A : Type 0} (p q : A → Bool) (xs : List A) → list_any (λ a. p a || q a) xs ≡ (list_any p xs || list_any q xs)
any_or p q [] = refl
any_or p q (x ∷ xs) = ap (λ b. (p x || q x) || b) (any_or p q xs) ∙ turned (p x) (q x) (list_any p xs) (list_any q xs)
  where
    turned : (a b c d : Bool) → ((a || b) || (c || d)) ≡ ((a || c) || (b || d))
    turned a b c d = grind arith

-- one of the ones and one of the others, whichever are gone through first
pub any_turned : {A B : Type 0} (p : A → B → Bool) (xs : List A) (ys : List B) → list_any (λ x. list_any (p x) ys) xs ≡ list_any (λ y. list_any (λ x. p x y) xs) ys
any_turned p [] ys = sym (any_never (λ y. false) ys (λ y. refl))
any_turned p (x ∷ xs) ys = ap (λ b. list_any (p x) ys || b) (any_turned p xs ys) ∙ sym (any_or (p x) (λ y. list_any (λ x. p x y) xs) ys)
