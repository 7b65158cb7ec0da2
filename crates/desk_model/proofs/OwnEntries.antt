-- The entries of one session in a list that goes on.
use Rattle.std.proofs.Common.{◌≡◌, ◌≢◌, ℕ, zero, suc, ◌+◌, ◌≤◌, Bool, true, false, cond, List, [], ◌∷◌, ◌++◌, length, drop, refl, ap, sym, ◌∙◌, arith, eq-eqb, append_assoc, length-append}
use Rattle.std.specs.List.{filter}
use Rattle.std.proofs.lemmas.List.{drop-append-le, append-nil}
use Rattle.std.proofs.lemmas.List.Elements.{filter-append}
use Rattle.std.proofs.lemmas.Bool.{ne_eqb}
use mathlib.Core.List.{IsPrefix}
use Rattle.desk_model.specs.declared.entry.Entry.{Entry}
use Rattle.desk_model.specs.Histories.{is_by, own, CountsFrom, SessionsBelow}

-- what is kept of a list is no longer than it
cond_length : {A : Type 0} (b : Bool) (e : A) (xs : List A) (n : ℕ) → length xs ≤ n → length (cond b (e ∷ xs) xs) ≤ n + 1
cond_length true e xs n h = omega (arith, h)
cond_length false e xs n h = omega (arith, h)

filter_length : {A : Type 0} (p : A → Bool) (xs : List A) → length (filter p xs) ≤ length xs
filter_length p [] = omega arith
filter_length p (x ∷ xs) = omega (arith, cond_length (p x) x (filter p xs) (length xs) (filter_length p xs))

pub filter_mine : {C : Type 0} (n : ℕ) (e : Entry C) → e.session ≡ n → filter (is_by n) (e ∷ []) ≡ e ∷ []
filter_mine n e h = rw (eq-eqb e.session n h) refl

pub filter_other : {C : Type 0} (n : ℕ) (e : Entry C) → e.session ≢ n → filter (is_by n) (e ∷ []) ≡ []
filter_other n e h = rw (ne_eqb e.session n h) refl

pub own-append : {C : Type 0} (b n : ℕ) (g h : List (Entry C)) → b ≤ length g → own b n (g ++ h) ≡ own b n g ++ filter (is_by n) h
own-append b n g h le = ap (filter (is_by n)) (drop-append-le b g h le) ∙ filter-append (is_by n) (drop b g) h

-- with one more entry of its own
pub own-mine : {C : Type 0} (b n : ℕ) (g : List (Entry C)) (e : Entry C) → b ≤ length g → e.session ≡ n → own b n (g ++ e ∷ []) ≡ own b n g ++ e ∷ []
own-mine b n g e le h = own-append b n g (e ∷ []) le ∙ ap (λ xs. own b n g ++ xs) (filter_mine n e h)

-- with one more entry of another session
pub own-other : {C : Type 0} (b n : ℕ) (g : List (Entry C)) (e : Entry C) → b ≤ length g → e.session ≢ n → own b n (g ++ e ∷ []) ≡ own b n g
own-other b n g e le h = own-append b n g (e ∷ []) le ∙ (ap (λ xs. own b n g ++ xs) (filter_other n e h) ∙ append-nil (own b n g))

-- serials that count on, and one more
pub counts-more : {C : Type 0} (k : ℕ) (es : List (Entry C)) (e : Entry C) → CountsFrom k es → e.serial ≡ k + length es → CountsFrom k (es ++ e ∷ [])
counts-more k [] e c h = (omega (arith, h), tt)
counts-more k (x ∷ xs) e c h = (c.0, counts-more (k + 1) xs e c.1 (omega (arith, h)))

pub prefix-more : {A : Type 0} (f g h : List A) → IsPrefix f g → IsPrefix f (g ++ h)
prefix-more f g h p = (p.0 ++ h, sym (append_assoc f p.0 h) ∙ ap (λ xs. xs ++ h) p.1)

pub prefix-le : {A : Type 0} (f g : List A) → IsPrefix f g → length f ≤ length g
prefix-le f g p = omega (arith, ap length p.1, length-append f p.0)

drop_length : {A : Type 0} (b : ℕ) (xs : List A) → length (drop b xs) ≤ length xs
drop_length zero xs = omega arith
drop_length (suc b) [] = omega arith
drop_length (suc b) (x ∷ xs) = omega (arith, drop_length b xs)

pub own-length : {C : Type 0} (b n : ℕ) (g : List (Entry C)) → length (own b n g) ≤ length g
own-length b n g = omega (arith, filter_length (is_by n) (drop b g), drop_length b g)

pub below-append : {C : Type 0} (n : ℕ) (g h : List (Entry C)) → SessionsBelow n g → SessionsBelow n h → SessionsBelow n (g ++ h)
below-append n [] h p q = q
below-append n (e ∷ es) h p q = (p.0, below-append n es h p.1 q)

pub below-weaker : {C : Type 0} (n : ℕ) (es : List (Entry C)) → SessionsBelow n es → SessionsBelow (n + 1) es
below-weaker n [] b = tt
below-weaker n (e ∷ es) b = (omega (arith, b.0), below-weaker n es b.1)

-- where all sessions are below n, none is n or more
pub below-none : {C : Type 0} (n m : ℕ) (es : List (Entry C)) → n ≤ m → SessionsBelow n es → filter (is_by m) es ≡ []
below-none n m [] le b = refl
below-none n m (e ∷ es) le b = rw (ne_eqb e.session m (λ h. omega (arith, h, le, b.0))) (below-none n m es le b.1)

-- where all sessions are below 1, all are 0
pub below-one : {C : Type 0} (es : List (Entry C)) → SessionsBelow 1 es → filter (is_by 0) es ≡ es
below-one [] b = refl
below-one (e ∷ es) b = rw (eq-eqb e.session 0 (omega (arith, b.0)), below-one es b.1) refl

pub own-new : {C : Type 0} (b m : ℕ) (h : List (Entry C)) → SessionsBelow m (drop b h) → own b m h ≡ []
own-new b m h few = below-none m m (drop b h) (omega arith) few
