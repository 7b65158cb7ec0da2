-- Numbers in eight bytes, and bytes and texts behind their length.
use Rattle.std.proofs.Common.{◌≡◌, ℕ, ◌+◌, ◌<◌, ◌≤◌, ◌^◌, Bool, true, false, cond, ltb, List, [], ◌∷◌, ◌++◌, length, take, drop, Option, Some, None, refl, sym, ap, subst, ◌∙◌, append_assoc, arith, length-append}
use Rattle.std.specs.Prelude.{ℤ, bytes_eq, ◌&&◌, Result, Ok, Err}
use Rattle.std.specs.Int.{w64, to_be_bytes, from_be_bytes, cast_signed, cast_unsigned}
use Rattle.std.specs.Int.RustNames.{FitsSigned}
use Rattle.std.specs.Str.{is_utf8}
use Rattle.std.proofs.lemmas.Bool.{ltb-false, ltb-true, le-ltb, lt-ltb}
use Rattle.std.proofs.lemmas.List.{take_at, drop_at, take-append-drop, length-take}
use Rattle.std.proofs.lemmas.Nat.{from_be_bytes-to_be_bytes_8}
use Rattle.std.proofs.lemmas.Int.{of_z-to_z, ints}
use Rattle.byte_codec.specs.declared.stop.DecodeStop.{DecodeStop}
use Rattle.byte_codec.specs.Codecs.{◌>>=◌, Codec, Stops}
use Rattle.std.proofs.lemmas.Slice.Eq.{bytes_eq-Decides}
use Rattle.byte_codec.specs.Parts.{Narrows, narrow, some_is, bind_some, beside}

-- Where a test holds, this.
abbrev pub where_true : {A : Type 0} → Bool → A → Option A
where_true true x = Some x
where_true false x = None

pub where_some : {A : Type 0} (b : Bool) (x y : A) → where_true b x ≡ Some y → (b ≡ true) × (x ≡ y)
where_some true x y e = (refl, some_is x y e)
where_some false x y e = absurd cc

pub both_true : (a b : Bool) → (a && b) ≡ true → (a ≡ true) × (b ≡ true)
both_true true true e = (refl, refl)
both_true true false e = absurd cc
both_true false b e = absurd cc

-- ---- bytes of a known number

abbrev pub front_reads : ℕ → List ℕ → Option (List ℕ × List ℕ)
front_reads n bytes = cond (ltb (length bytes) n) None (Some (take n bytes, drop n bytes))

-- What taking the first n bytes answers, and what is left then.
abbrev pub FrontReads : ℕ → Result (List ℕ) DecodeStop → List ℕ → List ℕ → Type 0
FrontReads n (Ok front) old new = front_reads n old ≡ Some (front, new)
FrontReads n (Err e) old new = Stops e (front_reads n old)

pub front_again : (n : ℕ) (front rest : List ℕ) → length front ≡ n → front_reads n (front ++ rest) ≡ Some (front, rest)
front_again n front rest len =
    let long : ltb (length (front ++ rest)) n ≡ false = le-ltb _ _ (omega (arith, length-append front rest)) in
    rw (long, take_at front rest n len, drop_at front rest n len) refl

pub enough : {A : Type 0} (b : Bool) (x y : A) → cond b None (Some x) ≡ Some y → (b ≡ false) × (x ≡ y)
enough true x y e = absurd cc
enough false x y e = (refl, some_is x y e)

pub front_only : (n : ℕ) (bytes : List ℕ) (p : List ℕ × List ℕ) → front_reads n bytes ≡ Some p → (bytes ≡ p.0 ++ p.1) × (length p.0 ≡ n)
front_only n bytes p e =
    let g = enough (ltb (length bytes) n) (take n bytes, drop n bytes) p e in
    let long : n ≤ length bytes = ltb-false _ _ g.0 in
    let len : length (take n bytes) ≡ n = omega (arith, length-take n bytes) in
    subst (λ (q : List ℕ × List ℕ). (bytes ≡ q.0 ++ q.1) × (length q.0 ≡ n)) g.1 (sym (take-append-drop n bytes), len)

-- ---- a number: its eight bytes, the most significant first

unfoldable pub number_code : ℕ → List ℕ
number_code n = to_be_bytes w64 n

-- The number of eight bytes. What are no bytes have none.
abbrev pub number_of : List ℕ → Option ℕ
number_of front = where_true (ltb (from_be_bytes w64 front) (2 ^ 64) && bytes_eq (to_be_bytes w64 (from_be_bytes w64 front)) front) (from_be_bytes w64 front)

abbrev pub numbered : List ℕ × List ℕ → Option (ℕ × List ℕ)
numbered p = number_of p.0 >>= beside p.1

unfoldable pub number_reads : List ℕ → Option (ℕ × List ℕ)
number_reads bytes = front_reads 8 bytes >>= numbered

pub number_of_code : (n : ℕ) → n < 2 ^ 64 → number_of (to_be_bytes w64 n) ≡ Some n
number_of_code n lt =
    let same : bytes_eq (to_be_bytes w64 n) (to_be_bytes w64 n) ≡ true = (bytes_eq-Decides (to_be_bytes w64 n) (to_be_bytes w64 n)).1 refl in
    rw (from_be_bytes-to_be_bytes_8 n lt, lt-ltb _ _ lt, same) refl

pub number_again : (n : ℕ) (rest : List ℕ) → n < 2 ^ 64 → number_reads (number_code n ++ rest) ≡ Some (n, rest)
unfolding number_reads number_code
number_again n rest lt = rw (front_again 8 (to_be_bytes w64 n) rest refl) (ap (λ (o : Option ℕ). o >>= beside rest) (number_of_code n lt))

pub number_only : (bytes rest : List ℕ) (n : ℕ) → number_reads bytes ≡ Some (n, rest) → (bytes ≡ number_code n ++ rest) × (n < 2 ^ 64)
unfolding number_reads number_code
number_only bytes rest n e =
    let p = bind_some (front_reads 8 bytes) numbered (n, rest) e in
    let q = bind_some (number_of p.0.0) (beside p.0.1) (n, rest) p.2 in
    let f = front_only 8 bytes p.0 p.1 in
    let w = where_some _ (from_be_bytes w64 p.0.0) q.0 q.1 in
    let b = both_true _ _ w.0 in
    let n-is : from_be_bytes w64 p.0.0 ≡ n = w.1 ∙ ap (λ (z : ℕ × List ℕ). z.0) (some_is (q.0, p.0.1) (n, rest) q.2) in
    let rest-is : p.0.1 ≡ rest = ap (λ (z : ℕ × List ℕ). z.1) (some_is (q.0, p.0.1) (n, rest) q.2) in
    let same : to_be_bytes w64 (from_be_bytes w64 p.0.0) ≡ p.0.0 = (bytes_eq-Decides (to_be_bytes w64 (from_be_bytes w64 p.0.0)) p.0.0).0 b.1 in
    let below : from_be_bytes w64 p.0.0 < 2 ^ 64 = ltb-true _ _ b.0 in
    (f.0 ∙ ap (λ (r : List ℕ). r ++ p.0.1) (sym same ∙ ap (to_be_bytes w64) n-is) ∙ ap (λ (r : List ℕ). to_be_bytes w64 n ++ r) rest-is, subst (λ (k : ℕ). k < 2 ^ 64) n-is below)

abbrev pub number : Codec ℕ
number = record { code = number_code; fits = λ n. n < 2 ^ 64; reads = number_reads; again = number_again; only = number_only }

-- ---- bytes behind their length

unfoldable pub bytes_code : List ℕ → List ℕ
bytes_code bs = number_code (length bs) ++ bs

abbrev pub counted : ℕ × List ℕ → Option (List ℕ × List ℕ)
counted p = front_reads p.0 p.1

unfoldable pub bytes_reads : List ℕ → Option (List ℕ × List ℕ)
bytes_reads bytes = number_reads bytes >>= counted

pub bytes_again : (bs rest : List ℕ) → length bs < 2 ^ 64 → bytes_reads (bytes_code bs ++ rest) ≡ Some (bs, rest)
unfolding bytes_reads bytes_code
bytes_again bs rest lt = rw (append_assoc (number_code (length bs)) bs rest, number_again (length bs) (bs ++ rest) lt) (front_again (length bs) bs rest refl)

pub bytes_only : (bytes rest bs : List ℕ) → bytes_reads bytes ≡ Some (bs, rest) → (bytes ≡ bytes_code bs ++ rest) × (length bs < 2 ^ 64)
unfolding bytes_reads bytes_code
bytes_only bytes rest bs e =
    let p = bind_some (number_reads bytes) counted (bs, rest) e in
    let n = number_only bytes p.0.1 p.0.0 p.1 in
    let f = front_only p.0.0 p.0.1 (bs, rest) p.2 in
    (n.0 ∙ ap (λ (k : ℕ). number_code k ++ p.0.1) (sym f.1) ∙ ap (λ (r : List ℕ). number_code (length bs) ++ r) f.0 ∙ sym (append_assoc (number_code (length bs)) bs rest), subst (λ (k : ℕ). k < 2 ^ 64) (sym f.1) n.1)

abbrev pub bytes : Codec (List ℕ)
bytes = record { code = bytes_code; fits = λ bs. length bs < 2 ^ 64; reads = bytes_reads; again = bytes_again; only = bytes_only }

-- ---- a text: bytes that are UTF-8

abbrev pub text_of : List ℕ → Option (List ℕ)
text_of bs = where_true (is_utf8 bs) bs

abbrev pub IsText : List ℕ → Type 0
IsText bs = is_utf8 bs ≡ true

pub texts : Narrows bytes (λ t. t) text_of IsText
texts = record {
  forth = λ t h. ap (λ (b : Bool). where_true b t) h;
  back = λ y x fits e. let w = where_some (is_utf8 y) y x e in (sym w.1, subst (λ (z : List ℕ). is_utf8 z ≡ true) w.1 w.0);
}

abbrev pub text : Codec (List ℕ)
text = narrow (λ t. t) text_of IsText bytes texts

-- ---- a number with a sign: the number of the same eight bytes

abbrev pub signed_of : ℕ → Option ℤ
signed_of n = Some (cast_signed w64 n)

abbrev pub IsSigned : ℤ → Type 0
IsSigned z = cast_signed w64 (cast_unsigned w64 z) ≡ z

pub signs : Narrows number (cast_unsigned w64) signed_of IsSigned
signs = record {
  forth = λ z h. ap (λ (y : ℤ). Some y) h;
  back = λ n z fits e. let s = some_is (cast_signed w64 n) z e in let r = of_z-to_z w64 n fits in
      (ap (cast_unsigned w64) (sym s) ∙ r, ap (λ (y : ℤ). cast_signed w64 (cast_unsigned w64 y)) (sym s) ∙ ap (cast_signed w64) r ∙ s);
}

abbrev pub signed : Codec ℤ
signed = narrow (cast_unsigned w64) signed_of IsSigned number signs

-- ---- a number below 2 ^ 32, in eight bytes too

abbrev pub small_of : ℕ → Option ℕ
small_of n = where_true (ltb n (2 ^ 32)) n

abbrev pub IsSmall : ℕ → Type 0
IsSmall n = n < 2 ^ 32

pub smalls : Narrows number (λ n. n) small_of IsSmall
smalls = record {
  forth = λ n h. ap (λ (b : Bool). where_true b n) (lt-ltb _ _ h);
  back = λ y x fits e. let w = where_some (ltb y (2 ^ 32)) y x e in (sym w.1, subst (λ (z : ℕ). z < 2 ^ 32) w.1 (ltb-true _ _ w.0));
}

abbrev pub small : Codec ℕ
small = narrow (λ n. n) small_of IsSmall number smalls

-- ---- one of a few words

pub word_step : {A : Type 0} (f : A → List ℕ) (y : List ℕ) (a x : A) (more : Option A) → (more ≡ Some x → f x ≡ y) → cond (bytes_eq y (f a)) (Some a) more ≡ Some x → f x ≡ y
word_step {A = A} f y a x more go e =
    let same : bytes_eq y (f a) ≡ true → f a ≡ y = λ t. sym ((bytes_eq-Decides y (f a)).0 t) in
    step_at (bytes_eq y (f a)) same e
  where
    step_at : (b : Bool) → (b ≡ true → f a ≡ y) → cond b (Some a) more ≡ Some x → f x ≡ y
    step_at true h k = subst (λ (z : A). f z ≡ y) (some_is a x k) (h refl)
    step_at false h k = go k

abbrev pub Any : {A : Type 0} → A → Type 0
Any x = Unit {0}
