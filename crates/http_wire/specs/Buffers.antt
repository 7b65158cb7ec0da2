-- What a buffer is seen as.
use Rattle.std.specs.Prelude.{ℕ, Bool, List}

-- the bytes that were read and not used, and whether the head at their front was answered
pub record BufferTold : Type 0 where
  pub bytes : List ℕ
  pub answered : Bool
