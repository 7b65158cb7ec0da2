-- A payload is the code of one value, all of it.
use Rattle.std.proofs.Common.{◌≡◌, ℕ, List, [], ◌++◌, Option, Some, None, Result, Ok, Err, refl, sym, ap, ◌∙◌, append-nil}
use Rattle.byte_codec.specs.declared.stop.DecodeStop.{DecodeStop}
use Rattle.byte_codec.specs.declared.stop.DecodeStop.TheVariants.{NotAnEntry, Memory}
use Rattle.byte_codec.specs.Codecs.{Codec}

-- The bytes are the encoding of x.
pub record Encodes {A : Type 0} (c : Codec A) (x : A) (bytes : List ℕ) : Type 0 where
  pub text : bytes ≡ c.code x
  pub fits : c.fits x

-- What was decoded is encoded so. Nothing is decoded only where the bytes are the encoding of no value.
abbrev pub Decoded : {A : Type 0} → Codec A → Result A DecodeStop → List ℕ → Type 0
Decoded c (Ok x) bytes = Encodes c x bytes
Decoded {A = A} c (Err NotAnEntry) bytes = (x : A) → Encodes c x bytes → ⊥
Decoded c (Err Memory) bytes = Unit {0}

-- The value was decoded, unless memory ran out.
abbrev pub Is : {A : Type 0} → A → Result A DecodeStop → Type 0
Is x (Ok y) = y ≡ x
Is x (Err NotAnEntry) = ⊥
Is x (Err Memory) = Unit {0}
