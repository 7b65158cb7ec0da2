-- The first of what is left at an index.
use Rattle.std.proofs.Common.{◌≡◌, ℕ, zero, suc, ◌<◌, List, [], ◌∷◌, map, length, drop, get_or, sym, subst, ap, refl, arith, Option, Some, IfSome, ◌++◌, Ordering, Less, Equal, Greater, is_gt, true, true≢false}
use Rattle.core.specs.List.{AllByRecursion}
use Rattle.cm_map.specs.Parts.{HeadIs}

pub head_at : {X Y : Type 0} (P : Y → Type 0) (f : X → Y) (xs : List X) (i : ℕ) (x : X) → i < length xs → x ≡ get_or xs i x → P (f x) → HeadIs P (drop i (map f xs))
head_at P f [] i x lt is p = absurd (omega arith)
head_at P f (y ∷ xs) zero x lt is p = subst (λ z. P (f z)) is p
head_at P f (y ∷ xs) (suc i) x lt is p = head_at P f xs i x (omega arith) is p

pub head_past : {Y : Type 0} (P : Y → Type 0) (ys : List Y) (i : ℕ) → length ys ≡ i → HeadIs P (drop i ys)
head_past P [] zero e = tt
head_past P [] (suc i) e = tt
head_past P (y ∷ ys) zero e = absurd (omega arith)
head_past P (y ∷ ys) (suc i) e = head_past P ys i (omega arith)

pub all_at : {X Y : Type 0} (P : Y → Type 0) (f : X → Y) (xs : List X) (i : ℕ) (x : X) → AllByRecursion P (map f xs) → i < length xs → x ≡ get_or xs i x → P (f x)
all_at P f [] i x h lt is = absurd (omega arith)
all_at P f (y ∷ xs) zero x h lt is = subst (λ z. P (f z)) (sym is) h.0
all_at P f (y ∷ xs) (suc i) x h lt is = all_at P f xs i x h.1 (omega arith) is

pub read_map : {X Y : Type 0} (f : X → Y) (xs : List X) (i : ℕ) (x : X) → x ≡ get_or xs i x → f x ≡ get_or (map f xs) i (f x)
read_map f [] i x is = refl
read_map f (y ∷ xs) zero x is = ap f is
read_map f (y ∷ xs) (suc i) x is = read_map f xs i x is

pub if_some : {X : Type 0} (P : X → Type 0) (m : Option X) (x : X) → m ≡ Some x → P x → IfSome m P
if_some P m x e p = subst (λ m. IfSome m P) (sym e) p

pub each_some : {X : Type 0} (P : X → Type 0) → ((x : X) → P x) → (xs : List X) → AllByRecursion P xs
each_some P p [] = tt
each_some P p (x ∷ xs) = (p x, each_some P p xs)

pub all_append : {X : Type 0} (P : X → Type 0) (xs ys : List X) → AllByRecursion P xs → AllByRecursion P ys → AllByRecursion P (xs ++ ys)
all_append P [] ys h k = k
all_append P (x ∷ xs) ys h k = (h.0, all_append P xs ys h.1 k)

pub greater : (o : Ordering) → is_gt o ≡ true → o ≡ Greater
greater Less e = absurd (true≢false (sym e))
greater Equal e = absurd (true≢false (sym e))
greater Greater e = refl

pub head_in : {X : Type 0} (P : X → Type 0) (xs : List X) (i : ℕ) (x : X) → i < length xs → x ≡ get_or xs i x → HeadIs P (drop i xs) → P x
head_in P [] i x lt is h = absurd (omega arith)
head_in P (y ∷ xs) zero x lt is h = subst P (sym is) h
head_in P (y ∷ xs) (suc i) x lt is h = head_in P xs i x (omega arith) is h
