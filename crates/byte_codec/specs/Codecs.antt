-- What an encoding is: the bytes of each value, and what stands at the front of bytes.
use Rattle.std.specs.Prelude.{◌≡◌, ℕ, List, ◌++◌, Option, Some, None, Result, Ok, Err}
use Rattle.byte_codec.specs.declared.stop.DecodeStop.{DecodeStop}
use Rattle.byte_codec.specs.declared.stop.DecodeStop.TheVariants.{NotAnEntry, Memory}

infixl 10 ◌>>=◌
abbrev pub ◌>>=◌ : {A B : Type 0} → Option A → (A → Option B) → Option B
(Some x) >>= f = f x
None >>= f = None

-- An encoding of the values of a type. Each value that fits has its bytes, `code x`; `reads` finds the value whose bytes stand at the
-- front, and what follows them. What is coded is read again whatever follows, and nothing else is read: so no value has two codes,
-- and no code begins another.
pub record Codec (A : Type 0) : Type 1 where
  pub code : A → List ℕ
  pub fits : A → Type 0
  pub reads : List ℕ → Option (A × List ℕ)
  pub again : (x : A) (rest : List ℕ) → fits x → reads (code x ++ rest) ≡ Some (x, rest)
  pub only : (bytes rest : List ℕ) (x : A) → reads bytes ≡ Some (x, rest) → (bytes ≡ code x ++ rest) × fits x

-- The code of x was put behind what was there.
pub record Writes {A : Type 0} (c : Codec A) (x : A) (old new : List ℕ) : Type 0 where
  pub text : new ≡ old ++ c.code x
  pub fits : c.fits x

-- What a reader that stood before these bytes answered, and the bytes before which it stands then.
abbrev pub Stops : {B : Type 0} → DecodeStop → Option B → Type 0
Stops NotAnEntry read = read ≡ None
Stops Memory read = Unit {0}

abbrev pub Reads : {A : Type 0} → Codec A → Result A DecodeStop → List ℕ → List ℕ → Type 0
Reads c (Ok x) old new = c.reads old ≡ Some (x, new)
Reads c (Err e) old new = Stops e (c.reads old)
