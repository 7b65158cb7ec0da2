-- One of several: a byte that says which, counted from 1, and then it.
use Rattle.std.proofs.Common.{◌≡◌, ℕ, zero, suc, ◌+◌, ◌-◌, ◌<◌, ◌≤◌, Bool, true, false, cond, ltb, List, [], ◌∷◌, ◌++◌, Option, Some, None, refl, sym, ap, subst, ◌∙◌, arith, inl, inr, ◌⊎◌}
use Rattle.std.proofs.lemmas.Bool.{ltb-false, ltb-true, le-ltb, lt-ltb}
use Rattle.byte_codec.specs.Codecs.{◌>>=◌, Codec}
use Rattle.byte_codec.specs.Parts.{some_is, bind_some, moved, Took, took}

-- The encodings of several kinds of values, numbered from 0.
pub record Choice (A : Type 0) : Type 1 where
  pub count : ℕ
  pub place : A → ℕ
  pub body : A → List ℕ
  pub fits : A → Type 0
  pub reads : ℕ → List ℕ → Option (A × List ℕ)
  pub below : (x : A) → place x < count
  pub again : (x : A) (rest : List ℕ) → fits x → reads (place x) (body x ++ rest) ≡ Some (x, rest)
  pub only : (n : ℕ) (bytes : List ℕ) (p : A × List ℕ) → reads n bytes ≡ Some p → (place p.0 ≡ n) × (bytes ≡ body p.0 ++ p.1) × fits p.0

-- ---- one kind alone

abbrev pub one_reads : {A : Type 0} → Codec A → ℕ → List ℕ → Option (A × List ℕ)
one_reads c zero bytes = c.reads bytes
one_reads c (suc n) bytes = None

pub one_only : {A : Type 0} (c : Codec A) (n : ℕ) (bytes : List ℕ) (p : A × List ℕ) → one_reads c n bytes ≡ Some p → (0 ≡ n) × (bytes ≡ c.code p.0 ++ p.1) × c.fits p.0
one_only c zero bytes p e = let t = took c bytes p e in (refl, t.text, t.fits)
one_only c (suc n) bytes p e = absurd cc

abbrev pub one : {A : Type 0} → Codec A → Choice A
one c = record {
  count = 1;
  place = λ x. 0;
  body = c.code;
  fits = c.fits;
  reads = one_reads c;
  below = λ x. omega arith;
  again = c.again;
  only = one_only c;
}

-- ---- these kinds, and then those

abbrev pub or_place : {A B : Type 0} → Choice A → Choice B → A ⊎ B → ℕ
or_place a b (inl x) = a.place x
or_place a b (inr y) = a.count + b.place y

abbrev pub or_body : {A B : Type 0} → Choice A → Choice B → A ⊎ B → List ℕ
or_body a b (inl x) = a.body x
or_body a b (inr y) = b.body y

abbrev pub or_fits : {A B : Type 0} → Choice A → Choice B → A ⊎ B → Type 0
or_fits a b (inl x) = a.fits x
or_fits a b (inr y) = b.fits y

abbrev pub to_left : {A B : Type 0} → A × List ℕ → (A ⊎ B) × List ℕ
to_left p = (inl p.0, p.1)

abbrev pub to_right : {A B : Type 0} → B × List ℕ → (A ⊎ B) × List ℕ
to_right p = (inr p.0, p.1)

abbrev pub or_reads : {A B : Type 0} → Choice A → Choice B → ℕ → List ℕ → Option ((A ⊎ B) × List ℕ)
or_reads a b n bytes = cond (ltb n a.count) (a.reads n bytes >>= λ p. Some (to_left p)) (b.reads (n - a.count) bytes >>= λ p. Some (to_right p))

pub or_below : {A B : Type 0} (a : Choice A) (b : Choice B) (x : A ⊎ B) → or_place a b x < a.count + b.count
or_below a b (inl x) = omega (arith, a.below x)
or_below a b (inr y) = omega (arith, b.below y)

pub or_again : {A B : Type 0} (a : Choice A) (b : Choice B) (x : A ⊎ B) (rest : List ℕ) → or_fits a b x → or_reads a b (or_place a b x) (or_body a b x ++ rest) ≡ Some (x, rest)
or_again a b (inl x) rest fits = rw (lt-ltb _ _ (a.below x), a.again x rest fits) refl
or_again a b (inr y) rest fits =
    let past : ltb (a.count + b.place y) a.count ≡ false = le-ltb _ _ (omega arith) in
    let there : a.count + b.place y - a.count ≡ b.place y = omega arith in
    rw (past, there, b.again y rest fits) refl

pub by_test : {P : Type 0} {A : Type 0} (t : Bool) (x y z : A) → cond t x y ≡ z → (t ≡ true → x ≡ z → P) → (t ≡ false → y ≡ z → P) → P
by_test true x y z e f g = f refl e
by_test false x y z e f g = g refl e

pub or_only : {A B : Type 0} (a : Choice A) (b : Choice B) (n : ℕ) (bytes : List ℕ) (p : (A ⊎ B) × List ℕ) → or_reads a b n bytes ≡ Some p
    → (or_place a b p.0 ≡ n) × (bytes ≡ or_body a b p.0 ++ p.1) × or_fits a b p.0
or_only {A = A} {B = B} a b n bytes p e =
    let Is : (A ⊎ B) × List ℕ → Type 0 = λ q. (or_place a b q.0 ≡ n) × (bytes ≡ or_body a b q.0 ++ q.1) × or_fits a b q.0 in
    by_test (ltb n a.count) (a.reads n bytes >>= λ p. Some (to_left p)) (b.reads (n - a.count) bytes >>= λ p. Some (to_right p)) (Some p) e
    (λ t h. let q = bind_some (a.reads n bytes) (λ p. Some (to_left p)) p h in subst Is (some_is (to_left q.0) p q.2) (a.only n bytes q.0 q.1))
    (λ t h. let q = bind_some (b.reads (n - a.count) bytes) (λ p. Some (to_right p)) p h in
    let past : a.count ≤ n = ltb-false _ _ t in
    let s = b.only (n - a.count) bytes q.0 q.1 in
    let there : a.count + b.place q.0.0 ≡ n = omega (arith, s.0) in
    subst Is (some_is (to_right q.0) p q.2) (there, s.1, s.2))

infixr 5 ◌or◌
abbrev pub ◌or◌ : {A B : Type 0} → Choice A → Choice B → Choice (A ⊎ B)
a or b = record {
  count = a.count + b.count;
  place = or_place a b;
  body = or_body a b;
  fits = or_fits a b;
  reads = or_reads a b;
  below = or_below a b;
  again = or_again a b;
  only = or_only a b;
}

-- ---- the byte in front: which it is, counted from 0 or from 1

abbrev pub choice_reads : {A : Type 0} → Choice A → List ℕ → Option (A × List ℕ)
choice_reads c [] = None
choice_reads c (n ∷ bytes) = c.reads n bytes

pub choice_only : {A : Type 0} (c : Choice A) (bytes rest : List ℕ) (x : A) → choice_reads c bytes ≡ Some (x, rest)
    → (bytes ≡ (c.place x ∷ c.body x) ++ rest) × c.fits x
choice_only c [] rest x e = absurd cc
choice_only c (n ∷ bytes) rest x e =
    let s = c.only n bytes (x, rest) e in
    (ap (λ (k : ℕ). k ∷ bytes) (sym s.0) ∙ ap (λ (r : List ℕ). c.place x ∷ r) s.1, s.2)

abbrev pub choice : {A : Type 0} → Choice A → Codec A
choice c = record {
  code = λ x. c.place x ∷ c.body x;
  fits = c.fits;
  reads = choice_reads c;
  again = c.again;
  only = choice_only c;
}

abbrev pub tagged_reads : {A : Type 0} → Choice A → List ℕ → Option (A × List ℕ)
tagged_reads c [] = None
tagged_reads c (zero ∷ bytes) = None
tagged_reads c (suc n ∷ bytes) = c.reads n bytes

pub tagged_only : {A : Type 0} (c : Choice A) (bytes rest : List ℕ) (x : A) → tagged_reads c bytes ≡ Some (x, rest)
    → (bytes ≡ (suc (c.place x) ∷ c.body x) ++ rest) × c.fits x
tagged_only c [] rest x e = absurd cc
tagged_only c (zero ∷ bytes) rest x e = absurd cc
tagged_only c (suc n ∷ bytes) rest x e =
    let s = c.only n bytes (x, rest) e in
    (ap (λ (k : ℕ). suc k ∷ bytes) (sym s.0) ∙ ap (λ (r : List ℕ). suc (c.place x) ∷ r) s.1, s.2)

abbrev pub tagged : {A : Type 0} → Choice A → Codec A
tagged c = record {
  code = λ x. suc (c.place x) ∷ c.body x;
  fits = c.fits;
  reads = tagged_reads c;
  again = c.again;
  only = tagged_only c;
}
