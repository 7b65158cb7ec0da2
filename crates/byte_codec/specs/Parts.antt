-- The encodings of which all others are made, each with its two laws.
use Rattle.std.proofs.Common.{◌≡◌, ℕ, zero, suc, ◌+◌, ◌-◌, ◌<◌, ◌≤◌, ◌^◌, Bool, true, false, cond, ltb, List, [], ◌∷◌, ◌++◌, length, take, drop, Option, Some, None, refl, sym, ap, subst, ◌∙◌, append_assoc, arith, ◌⊎◌, inl, inr, length-append}
use Rattle.std.specs.Prelude.{ℤ, bytes_eq, nat_lt, nat_le, ◌&&◌, if◌then◌else◌}
use Rattle.std.specs.Int.{w64, to_be_bytes, from_be_bytes}
use Rattle.std.specs.Str.{is_utf8}
use Rattle.std.proofs.lemmas.Bool.{cases_lt, ltb-false, ltb-true, le-ltb, lt-ltb, leb-true, le-leb}
use Rattle.std.proofs.lemmas.List.{take_at, drop_at, take-append-drop, length-take}
use Rattle.std.proofs.lemmas.Nat.{from_be_bytes-to_be_bytes_8}
use Rattle.byte_codec.specs.Codecs.{◌>>=◌, Codec}

-- ---- what did not fail

pub some_is : {A : Type 0} (x y : A) → Some x ≡ Some y → x ≡ y
some_is x y e = cc

pub bind_some : {A B : Type 0} (r : Option A) (f : A → Option B) (y : B) → (r >>= f) ≡ Some y → (x : A) × (r ≡ Some x) × (f x ≡ Some y)
bind_some (Some x) f y e = (x, refl, e)
bind_some None f y e = absurd cc

-- What a reader took from the front.
pub record Took {A : Type 0} (c : Codec A) (bytes : List ℕ) (x : A) (rest : List ℕ) : Type 0 where
  pub text : bytes ≡ c.code x ++ rest
  pub fits : c.fits x

pub took : {A : Type 0} (c : Codec A) (bytes : List ℕ) (p : A × List ℕ) → c.reads bytes ≡ Some p → Took c bytes p.0 p.1
took c bytes p e = let t = c.only bytes p.1 p.0 e in record { text = t.0; fits = t.1 }

-- ---- two, one after the other

abbrev pub paired : {A B : Type 0} → A → B × List ℕ → (A × B) × List ℕ
paired x q = ((x, q.0), q.1)

abbrev pub both_reads : {A B : Type 0} → Codec A → Codec B → List ℕ → Option ((A × B) × List ℕ)
both_reads a b bytes = a.reads bytes >>= λ p. b.reads p.1 >>= λ q. Some (paired p.0 q)

pub both_again : {A B : Type 0} (a : Codec A) (b : Codec B) (x : A × B) (rest : List ℕ) → a.fits x.0 × b.fits x.1
    → both_reads a b ((a.code x.0 ++ b.code x.1) ++ rest) ≡ Some (x, rest)
both_again a b x rest fits = rw (append_assoc (a.code x.0) (b.code x.1) rest, a.again x.0 (b.code x.1 ++ rest) fits.0, b.again x.1 rest fits.1) refl

pub both_only : {A B : Type 0} (a : Codec A) (b : Codec B) (bytes rest : List ℕ) (x : A × B) → both_reads a b bytes ≡ Some (x, rest)
    → (bytes ≡ (a.code x.0 ++ b.code x.1) ++ rest) × (a.fits x.0 × b.fits x.1)
both_only {A = A} {B = B} a b bytes rest x e =
    let p = bind_some (a.reads bytes) (λ p. b.reads p.1 >>= λ q. Some (paired p.0 q)) (x, rest) e in
    let q = bind_some (b.reads p.0.1) (λ q. Some (paired p.0.0 q)) (x, rest) p.2 in
    let s = took a bytes p.0 p.1 in
    let t = took b p.0.1 q.0 q.1 in
    subst (λ (y : (A × B) × List ℕ). (bytes ≡ (a.code y.0.0 ++ b.code y.0.1) ++ y.1) × (a.fits y.0.0 × b.fits y.0.1)) (some_is (paired p.0.0 q.0) (x, rest) q.2)
    (s.text ∙ ap (λ (r : List ℕ). a.code p.0.0 ++ r) t.text ∙ sym (append_assoc (a.code p.0.0) (b.code q.0.0) q.0.1), (s.fits, t.fits))

abbrev pub both : {A B : Type 0} → Codec A → Codec B → Codec (A × B)
both a b = record {
  code = λ x. a.code x.0 ++ b.code x.1;
  fits = λ x. a.fits x.0 × b.fits x.1;
  reads = both_reads a b;
  again = both_again a b;
  only = both_only a b;
}

-- ---- the same under another name: f and g undo each other

abbrev pub moved : {A B : Type 0} → (B → A) → B × List ℕ → A × List ℕ
moved g p = (g p.0, p.1)

abbrev pub via_reads : {A B : Type 0} → (B → A) → Codec B → List ℕ → Option (A × List ℕ)
via_reads g c bytes = c.reads bytes >>= λ p. Some (moved g p)

pub via_again : {A B : Type 0} (f : A → B) (g : B → A) (forth : (x : A) → g (f x) ≡ x) (c : Codec B) (x : A) (rest : List ℕ) → c.fits (f x)
    → via_reads g c (c.code (f x) ++ rest) ≡ Some (x, rest)
via_again {A = A} f g forth c x rest fits = rw (c.again (f x) rest fits) (ap (λ (y : A). Some (y, rest)) (forth x))

pub via_only : {A B : Type 0} (f : A → B) (g : B → A) (back : (y : B) → f (g y) ≡ y) (c : Codec B) (bytes rest : List ℕ) (x : A) → via_reads g c bytes ≡ Some (x, rest)
    → (bytes ≡ c.code (f x) ++ rest) × c.fits (f x)
via_only {A = A} {B = B} f g back c bytes rest x e =
    let p = bind_some (c.reads bytes) (λ p. Some (moved g p)) (x, rest) e in
    let t = took c bytes p.0 p.1 in
    let same : (y : B) → c.fits y → (bytes ≡ c.code y ++ p.0.1) → (bytes ≡ c.code (f (g y)) ++ p.0.1) × c.fits (f (g y)) = λ y h k. subst (λ (z : B). (bytes ≡ c.code z ++ p.0.1) × c.fits z) (sym (back y)) (k, h) in
    subst (λ (z : A × List ℕ). (bytes ≡ c.code (f z.0) ++ z.1) × c.fits (f z.0)) (some_is (moved g p.0) (x, rest) p.2) (same p.0.0 t.fits t.text)

abbrev pub via : {A B : Type 0} (f : A → B) (g : B → A) → ((x : A) → g (f x) ≡ x) → ((y : B) → f (g y) ≡ y) → Codec B → Codec A
via f g forth back c = record {
  code = λ x. c.code (f x);
  fits = λ x. c.fits (f x);
  reads = via_reads g c;
  again = via_again f g forth c;
  only = via_only f g back c;
}

-- ---- those alone that stand for a value

-- How values stand for some of those that have an encoding.
pub record Narrows {A B : Type 0} (c : Codec B) (f : A → B) (g : B → Option A) (Is : A → Type 0) : Type 0 where
  pub forth : (x : A) → Is x → g (f x) ≡ Some x
  pub back : (y : B) (x : A) → c.fits y → g y ≡ Some x → (f x ≡ y) × Is x

abbrev pub beside : {A : Type 0} → List ℕ → A → Option (A × List ℕ)
beside rest x = Some (x, rest)

abbrev pub narrow_reads : {A B : Type 0} → (B → Option A) → Codec B → List ℕ → Option (A × List ℕ)
narrow_reads g c bytes = c.reads bytes >>= λ p. g p.0 >>= beside p.1

pub narrow_again : {A B : Type 0} (f : A → B) (g : B → Option A) (Is : A → Type 0) (c : Codec B) (n : Narrows c f g Is) (x : A) (rest : List ℕ) → Is x × c.fits (f x)
    → narrow_reads g c (c.code (f x) ++ rest) ≡ Some (x, rest)
narrow_again f g Is c n x rest fits = rw (c.again (f x) rest fits.1, n.forth x fits.0) refl

pub narrow_only : {A B : Type 0} (f : A → B) (g : B → Option A) (Is : A → Type 0) (c : Codec B) (n : Narrows c f g Is) (bytes rest : List ℕ) (x : A)
    → narrow_reads g c bytes ≡ Some (x, rest) → (bytes ≡ c.code (f x) ++ rest) × (Is x × c.fits (f x))
narrow_only {A = A} {B = B} f g Is c n bytes rest x e =
    let p = bind_some (c.reads bytes) (λ p. g p.0 >>= beside p.1) (x, rest) e in
    let q = bind_some (g p.0.0) (beside p.0.1) (x, rest) p.2 in
    let t = took c bytes p.0 p.1 in
    let b = n.back p.0.0 q.0 t.fits q.1 in
    let made : (bytes ≡ c.code (f q.0) ++ p.0.1) × (Is q.0 × c.fits (f q.0)) = subst (λ (y : B). (bytes ≡ c.code y ++ p.0.1) × (Is q.0 × c.fits y)) (sym b.0) (t.text, (b.1, t.fits)) in
    subst (λ (z : A × List ℕ). (bytes ≡ c.code (f z.0) ++ z.1) × (Is z.0 × c.fits (f z.0))) (some_is (q.0, p.0.1) (x, rest) q.2) made

abbrev pub narrow : {A B : Type 0} (f : A → B) (g : B → Option A) (Is : A → Type 0) (c : Codec B) → Narrows c f g Is → Codec A
narrow f g Is c n = record {
  code = λ x. c.code (f x);
  fits = λ x. Is x × c.fits (f x);
  reads = narrow_reads g c;
  again = narrow_again f g Is c n;
  only = narrow_only f g Is c n;
}

-- ---- one byte: a flag

abbrev pub flag_code : Bool → List ℕ
flag_code false = 0 ∷ []
flag_code true = 1 ∷ []

abbrev pub flag_reads : List ℕ → Option (Bool × List ℕ)
flag_reads [] = None
flag_reads (zero ∷ rest) = Some (false, rest)
flag_reads (suc zero ∷ rest) = Some (true, rest)
flag_reads (suc (suc b) ∷ rest) = None

pub flag_again : (x : Bool) (rest : List ℕ) → Unit {0} → flag_reads (flag_code x ++ rest) ≡ Some (x, rest)
flag_again false rest h = refl
flag_again true rest h = refl

pub flag_only : (bytes rest : List ℕ) (x : Bool) → flag_reads bytes ≡ Some (x, rest) → (bytes ≡ flag_code x ++ rest) × Unit {0}
flag_only [] rest x e = absurd cc
flag_only (zero ∷ bytes) rest x e = subst (λ (y : Bool × List ℕ). (0 ∷ bytes ≡ flag_code y.0 ++ y.1) × Unit {0}) (some_is (false, bytes) (x, rest) e) (refl, tt)
flag_only (suc zero ∷ bytes) rest x e = subst (λ (y : Bool × List ℕ). (1 ∷ bytes ≡ flag_code y.0 ++ y.1) × Unit {0}) (some_is (true, bytes) (x, rest) e) (refl, tt)
flag_only (suc (suc b) ∷ bytes) rest x e = absurd cc

abbrev pub flag : Codec Bool
flag = record { code = flag_code; fits = λ x. Unit {0}; reads = flag_reads; again = flag_again; only = flag_only }

-- ---- what may be absent: a flag, and then it

abbrev pub optional_code : {A : Type 0} → Codec A → Option A → List ℕ
optional_code c None = 0 ∷ []
optional_code c (Some x) = 1 ∷ c.code x

abbrev pub optional_fits : {A : Type 0} → Codec A → Option A → Type 0
optional_fits c None = Unit {0}
optional_fits c (Some x) = c.fits x

abbrev pub optional_reads : {A : Type 0} → Codec A → List ℕ → Option (Option A × List ℕ)
optional_reads c [] = None
optional_reads c (zero ∷ rest) = Some (None, rest)
optional_reads c (suc zero ∷ rest) = c.reads rest >>= λ p. Some (moved Some p)
optional_reads c (suc (suc b) ∷ rest) = None

pub optional_again : {A : Type 0} (c : Codec A) (x : Option A) (rest : List ℕ) → optional_fits c x → optional_reads c (optional_code c x ++ rest) ≡ Some (x, rest)
optional_again c None rest fits = refl
optional_again c (Some x) rest fits = rw (c.again x rest fits) refl

pub optional_only : {A : Type 0} (c : Codec A) (bytes rest : List ℕ) (x : Option A) → optional_reads c bytes ≡ Some (x, rest)
    → (bytes ≡ optional_code c x ++ rest) × optional_fits c x
optional_only c [] rest x e = absurd cc
optional_only {A = A} c (zero ∷ bytes) rest x e =
    subst (λ (y : Option A × List ℕ). (0 ∷ bytes ≡ optional_code c y.0 ++ y.1) × optional_fits c y.0) (some_is (None, bytes) (x, rest) e) (refl, tt)
optional_only {A = A} c (suc zero ∷ bytes) rest x e =
    let p = bind_some (c.reads bytes) (λ p. Some (moved Some p)) (x, rest) e in
    let t = took c bytes p.0 p.1 in
    subst (λ (y : Option A × List ℕ). (1 ∷ bytes ≡ optional_code c y.0 ++ y.1) × optional_fits c y.0) (some_is (moved Some p.0) (x, rest) p.2) (ap (λ (r : List ℕ). 1 ∷ r) t.text, t.fits)
optional_only c (suc (suc b) ∷ bytes) rest x e = absurd cc

abbrev pub optional : {A : Type 0} → Codec A → Codec (Option A)
optional c = record { code = optional_code c; fits = optional_fits c; reads = optional_reads c; again = optional_again c; only = optional_only c }

-- ---- one of a few without parts: a byte, its place among them

-- How places stand for values.
pub record Places {A : Type 0} (f : A → ℕ) (g : ℕ → Option A) : Type 0 where
  pub forth : (x : A) → g (f x) ≡ Some x
  pub back : (n : ℕ) (x : A) → g n ≡ Some x → f x ≡ n

abbrev pub placed_reads : {A : Type 0} → (ℕ → Option A) → List ℕ → Option (A × List ℕ)
placed_reads g [] = None
placed_reads g (b ∷ rest) = g b >>= beside rest

pub placed_again : {A : Type 0} (f : A → ℕ) (g : ℕ → Option A) (p : Places f g) (x : A) (rest : List ℕ) → Unit {0} → placed_reads g ((f x ∷ []) ++ rest) ≡ Some (x, rest)
placed_again f g p x rest h = rw (p.forth x) refl

pub placed_only : {A : Type 0} (f : A → ℕ) (g : ℕ → Option A) (p : Places f g) (bytes rest : List ℕ) (x : A) → placed_reads g bytes ≡ Some (x, rest)
    → (bytes ≡ (f x ∷ []) ++ rest) × Unit {0}
placed_only f g p [] rest x e = absurd cc
placed_only {A = A} f g p (b ∷ bytes) rest x e =
    let q = bind_some (g b) (beside bytes) (x, rest) e in
    subst (λ (z : A × List ℕ). (b ∷ bytes ≡ (f z.0 ∷ []) ++ z.1) × Unit {0}) (some_is (q.0, bytes) (x, rest) q.2) (ap (λ (k : ℕ). k ∷ bytes) (sym (p.back b q.0 q.1)), tt)

abbrev pub placed : {A : Type 0} (f : A → ℕ) (g : ℕ → Option A) → Places f g → Codec A
placed f g p = record { code = λ x. f x ∷ []; fits = λ x. Unit {0}; reads = placed_reads g; again = placed_again f g p; only = placed_only f g p }
