-- What stands behind a mark, and what is told apart by the byte in front.
use Rattle.std.proofs.Common.{◌≡◌, ℕ, Bool, true, false, cond, List, [], ◌∷◌, ◌++◌, length, Option, Some, None, refl, sym, ap, subst, ◌∙◌, append_assoc, inl, inr, ◌⊎◌}
use Rattle.std.specs.Prelude.{bytes_eq, ◌==◌}
use Rattle.std.proofs.lemmas.Slice.Eq.{bytes_eq-Decides}
use Rattle.byte_codec.specs.Codecs.{◌>>=◌, Codec}
use Rattle.byte_codec.specs.Parts.{some_is, bind_some}
use Rattle.byte_codec.specs.Choices.{to_left, to_right, by_test}
use Rattle.byte_codec.specs.Numbers.{front_reads, front_again, front_only}

-- ---- behind a mark

abbrev pub behind_mark : {A : Type 0} → List ℕ → Codec A → List ℕ × List ℕ → Option (A × List ℕ)
behind_mark mark c p = cond (bytes_eq p.0 mark) (c.reads p.1) None

abbrev pub marked_reads : {A : Type 0} → ℕ → List ℕ → Codec A → List ℕ → Option (A × List ℕ)
marked_reads n mark c bytes = front_reads n bytes >>= behind_mark mark c

pub marked_again : {A : Type 0} (n : ℕ) (mark : List ℕ) (len : length mark ≡ n) (c : Codec A) (x : A) (rest : List ℕ) → c.fits x → marked_reads n mark c ((mark ++ c.code x) ++ rest) ≡ Some (x, rest)
marked_again n mark len c x rest fits =
    let same : bytes_eq mark mark ≡ true = (bytes_eq-Decides mark mark).1 refl in
    rw (append_assoc mark (c.code x) rest, front_again n mark (c.code x ++ rest) len, same) (c.again x rest fits)

if_read : {B : Type 0} (b : Bool) (r : Option B) (y : B) → cond b r None ≡ Some y → (b ≡ true) × (r ≡ Some y)
if_read true r y e = (refl, e)
if_read false r y e = absurd cc

pub marked_only : {A : Type 0} (n : ℕ) (mark : List ℕ) (c : Codec A) (bytes rest : List ℕ) (x : A) → marked_reads n mark c bytes ≡ Some (x, rest)
    → (bytes ≡ (mark ++ c.code x) ++ rest) × c.fits x
marked_only n mark c bytes rest x e =
    let p = bind_some (front_reads n bytes) (behind_mark mark c) (x, rest) e in
    let f = front_only n bytes p.0 p.1 in
    let g = if_read (bytes_eq p.0.0 mark) (c.reads p.0.1) (x, rest) p.2 in
    let same : p.0.0 ≡ mark = (bytes_eq-Decides p.0.0 mark).0 g.0 in
    let t = c.only p.0.1 rest x g.1 in
    (f.0 ∙ ap (λ (r : List ℕ). r ++ p.0.1) same ∙ ap (λ (r : List ℕ). mark ++ r) t.0 ∙ sym (append_assoc mark (c.code x) rest), t.1)

abbrev pub marked : {A : Type 0} (n : ℕ) (mark : List ℕ) → length mark ≡ n → Codec A → Codec A
marked n mark len c = record {
  code = λ x. mark ++ c.code x;
  fits = c.fits;
  reads = marked_reads n mark c;
  again = marked_again n mark len c;
  only = marked_only n mark c;
}

-- ---- two kinds, told apart by the byte in front

-- Whether these bytes begin with this one.
abbrev pub begins : ℕ → List ℕ → Bool
begins mark [] = false
begins mark (b ∷ rest) = b == mark

-- All codes of the first kind begin with the byte, and none of the second.
pub record IsApart {A B : Type 0} (mark : ℕ) (a : Codec A) (b : Codec B) : Type 0 where
  pub is : (x : A) (rest : List ℕ) → a.fits x → begins mark (a.code x ++ rest) ≡ true
  pub not : (y : B) (rest : List ℕ) → b.fits y → begins mark (b.code y ++ rest) ≡ false

abbrev pub apart_code : {A B : Type 0} → Codec A → Codec B → A ⊎ B → List ℕ
apart_code a b (inl x) = a.code x
apart_code a b (inr y) = b.code y

abbrev pub apart_fits : {A B : Type 0} → Codec A → Codec B → A ⊎ B → Type 0
apart_fits a b (inl x) = a.fits x
apart_fits a b (inr y) = b.fits y

abbrev pub apart_reads : {A B : Type 0} → ℕ → Codec A → Codec B → List ℕ → Option ((A ⊎ B) × List ℕ)
apart_reads mark a b bytes = cond (begins mark bytes) (a.reads bytes >>= λ p. Some (to_left p)) (b.reads bytes >>= λ p. Some (to_right p))

pub apart_again : {A B : Type 0} (mark : ℕ) (a : Codec A) (b : Codec B) → IsApart mark a b → (x : A ⊎ B) (rest : List ℕ) → apart_fits a b x
    → apart_reads mark a b (apart_code a b x ++ rest) ≡ Some (x, rest)
apart_again mark a b apart (inl x) rest fits = rw (apart.is x rest fits, a.again x rest fits) refl
apart_again mark a b apart (inr y) rest fits = rw (apart.not y rest fits, b.again y rest fits) refl

pub apart_only : {A B : Type 0} (mark : ℕ) (a : Codec A) (b : Codec B) (bytes rest : List ℕ) (x : A ⊎ B) → apart_reads mark a b bytes ≡ Some (x, rest)
    → (bytes ≡ apart_code a b x ++ rest) × apart_fits a b x
apart_only {A = A} {B = B} mark a b bytes rest x e =
    let Is : (A ⊎ B) × List ℕ → Type 0 = λ q. (bytes ≡ apart_code a b q.0 ++ q.1) × apart_fits a b q.0 in
    by_test (begins mark bytes) (a.reads bytes >>= λ p. Some (to_left p)) (b.reads bytes >>= λ p. Some (to_right p)) (Some (x, rest)) e
    (λ t h. let q = bind_some (a.reads bytes) (λ p. Some (to_left p)) (x, rest) h in subst Is (some_is (to_left q.0) (x, rest) q.2) (a.only bytes q.0.1 q.0.0 q.1))
    (λ t h. let q = bind_some (b.reads bytes) (λ p. Some (to_right p)) (x, rest) h in subst Is (some_is (to_right q.0) (x, rest) q.2) (b.only bytes q.0.1 q.0.0 q.1))

abbrev pub told_apart : {A B : Type 0} (mark : ℕ) (a : Codec A) (b : Codec B) → IsApart mark a b → Codec (A ⊎ B)
told_apart mark a b apart = record {
  code = apart_code a b;
  fits = apart_fits a b;
  reads = apart_reads mark a b;
  again = apart_again mark a b apart;
  only = apart_only mark a b;
}
