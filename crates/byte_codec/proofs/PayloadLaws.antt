-- A payload is the code of at most one value.
use Rattle.std.proofs.Common.{◌≡◌, ℕ, List, [], ◌∷◌, ◌++◌, Option, Some, None, Result, Ok, Err, refl, sym, ap, subst, ◌∙◌, append-nil}
use Rattle.byte_codec.specs.declared.stop.DecodeStop.{DecodeStop}
use Rattle.byte_codec.specs.declared.stop.DecodeStop.TheVariants.{NotAnEntry, Memory}
use Rattle.byte_codec.specs.Codecs.{Codec, Stops, Writes}
use Rattle.byte_codec.specs.Parts.{some_is}
use Rattle.byte_codec.specs.Payloads.{Encodes, Decoded, Is}

pub encoded : {A : Type 0} (c : Codec A) (x : A) (new : List ℕ) → Writes c x [] new → Encodes c x new
encoded c x new w = record { text = w.text; fits = w.fits }

reads_all : {A : Type 0} (c : Codec A) (x : A) (bytes : List ℕ) → Encodes c x bytes → c.reads bytes ≡ Some (x, [])
reads_all c x bytes e = ap c.reads (e.text ∙ sym (append-nil (c.code x))) ∙ c.again x [] e.fits

pub all_read : {A : Type 0} (c : Codec A) (x : A) (bytes : List ℕ) → c.reads bytes ≡ Some (x, []) → Encodes c x bytes
all_read c x bytes e = let t = c.only bytes [] x e in record { text = t.0 ∙ append-nil (c.code x); fits = t.1 }

pub more_read : {A : Type 0} (c : Codec A) (y : A) (b : ℕ) (rest bytes : List ℕ) → c.reads bytes ≡ Some (y, b ∷ rest) → (x : A) → Encodes c x bytes → ⊥
more_read {A = A} c y b rest bytes e x h =
    let same : (b ∷ rest) ≡ [] = ap (λ (p : A × List ℕ). p.1) (some_is (y, b ∷ rest) (x, []) (sym e ∙ reads_all c x bytes h)) in
    cc

pub none_read : {A : Type 0} (c : Codec A) (e : DecodeStop) (bytes : List ℕ) → Stops e (c.reads bytes) → Decoded c (Err e) bytes
none_read c Memory bytes h = tt
none_read c NotAnEntry bytes h = λ x k. let f = sym h ∙ reads_all c x bytes k in cc

pub is_this : {A : Type 0} (c : Codec A) (x : A) (r : Result A DecodeStop) (bytes : List ℕ) → Decoded c r bytes → Encodes c x bytes → Is x r
is_this {A = A} c x (Ok y) bytes d e = ap (λ (p : A × List ℕ). p.0) (some_is (y, []) (x, []) (sym (reads_all c y bytes d) ∙ reads_all c x bytes e))
is_this c x (Err NotAnEntry) bytes d e = d x e
is_this c x (Err Memory) bytes d e = tt

pub one_value : {A : Type 0} (c : Codec A) (x y : A) (bytes : List ℕ) → Encodes c x bytes → Encodes c y bytes → y ≡ x
one_value {A = A} c x y bytes d e = ap (λ (p : A × List ℕ). p.0) (some_is (y, []) (x, []) (sym (reads_all c y bytes e) ∙ reads_all c x bytes d))

-- ---- as a reader tells it

pub whole_value : {A : Type 0} (c : Codec A) (x : A) (bytes left : List ℕ) → c.reads bytes ≡ Some (x, left) → left ≡ [] → Encodes c x bytes
whole_value {A = A} c x bytes left e l = all_read c x bytes (e ∙ ap (λ (r : List ℕ). Some (x, r)) l)

pub part_value : {A : Type 0} (c : Codec A) (y : A) (bytes left : List ℕ) (b : ℕ) (rest : List ℕ) → c.reads bytes ≡ Some (y, left) → left ≡ b ∷ rest
    → (x : A) → Encodes c x bytes → ⊥
part_value {A = A} c y bytes left b rest e l = more_read c y b rest bytes (e ∙ ap (λ (r : List ℕ). Some (y, r)) l)

pub is_read : {A : Type 0} (c : Codec A) (x : A) (r : Result A DecodeStop) (start bytes : List ℕ) → start ≡ bytes → Decoded c r start → Encodes c x bytes → Is x r
is_read c x r start bytes s d e = is_this c x r bytes (subst (λ (b : List ℕ). Decoded c r b) s d) e
