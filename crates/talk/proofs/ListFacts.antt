-- Lists that go on, and the entries of one session.
use Rattle.std.proofs.Common.{◌≡◌, ℕ, suc, ◌≤◌, List, [], ◌∷◌, ◌++◌, length, take, map, refl, ap, sym, ◌∙◌, arith, append_assoc, length-append, eq-eqb}
use Rattle.std.specs.List.{filter}
use Rattle.std.proofs.lemmas.List.{take-append-le}
use Rattle.std.proofs.Math.Seq.{take-append_seam}
use mathlib.Core.List.{IsPrefix}
use Rattle.desk_model.specs.declared.entry.Entry.{Entry}
use Rattle.desk_model.specs.Histories.{is_by, SessionsBelow}

pub prefix-le : {A : Type 0} (f g : List A) → IsPrefix f g → length f ≤ length g
prefix-le f g p = omega (arith, ap length p.1, length-append f p.0)

pub prefix-trans : {A : Type 0} (f g h : List A) → IsPrefix f g → IsPrefix g h → IsPrefix f h
prefix-trans f g h p q = (p.0 ++ q.0, sym (append_assoc f p.0 q.0) ∙ (ap (λ xs. xs ++ q.0) p.1 ∙ q.1))

pub prefix-append : {A : Type 0} (xs ys : List A) → IsPrefix xs (xs ++ ys)
prefix-append xs ys = (ys, refl)

pub prefix-more : {A : Type 0} (f g h : List A) → IsPrefix f g → IsPrefix f (g ++ h)
prefix-more f g h p = (p.0 ++ h, sym (append_assoc f p.0 h) ∙ ap (λ xs. xs ++ h) p.1)

-- a prefix of a longer list
pub take-prefix : {A : Type 0} (p : ℕ) (g h : List A) → IsPrefix g h → p ≤ length g → take p h ≡ take p g
take-prefix p g h pre le = ap (take p) (sym pre.1) ∙ take-append-le p g pre.0 le

pub take-self : {A : Type 0} (xs : List A) → take (length xs) xs ≡ xs
take-self [] = refl
take-self (x ∷ xs) = ap (λ ys. x ∷ ys) (take-self xs)

pub take-front : {A : Type 0} (xs h : List A) (n : ℕ) → IsPrefix xs h → n ≡ length xs → take n h ≡ xs
take-front xs h n p is = rw (is, ← p.1) (take-append_seam xs p.0)

-- two lists with one element at the end are one only if their fronts are
pub snoc-inj : {A : Type 0} (xs ys : List A) (x y : A) → xs ++ x ∷ [] ≡ ys ++ y ∷ [] → xs ≡ ys
snoc-inj xs ys x y h =
    let n : length xs ≡ length ys = omega (arith, ap length h, length-append xs (x ∷ []), length-append ys (y ∷ [])) in
    sym (take-append_seam xs (x ∷ [])) ∙ (ap (take (length xs)) h ∙ (ap (λ k. take k (ys ++ y ∷ [])) n ∙ take-append_seam ys (y ∷ [])))

pub length_map : {A B : Type 0} (f : A → B) (xs : List A) → length (map f xs) ≡ length xs
length_map f [] = refl
length_map f (x ∷ xs) = ap suc (length_map f xs)

-- where all sessions are below 1, all entries are those of session 0
pub below-one : {C : Type 0} (es : List (Entry C)) → SessionsBelow 1 es → filter (is_by 0) es ≡ es
below-one [] b = refl
below-one (e ∷ es) b = rw (eq-eqb e.session 0 (omega (arith, b.0)), below-one es b.1) refl
