-- Where a payload that is read stands.
use Rattle.std.specs.Prelude.{◌≡◌, ◌≤◌, ℕ, List, length, Option, Some, IfSome}
use Rattle.std.specs.Arc.{arc_value}
use Rattle.archive.specs.Extents.{Stands}
use Rattle.byte_codec.specs.declared.reader.Standing.{Standing}

-- The bytes are those of the payload, which stands in the archive where it is said to.
pub record IsStanding (bytes : List ℕ) (s : Standing) : Type 0 where
  pub same : s.payload.now.value.items ≡ bytes
  pub stands : Stands (arc_value s.archive) s.place (length bytes) bytes

-- The place is within the bytes, which stand where they are said to.
pub record IsReader (bytes : List ℕ) (at : ℕ) (standing : Option Standing) : Type 0 where
  pub within : at ≤ length bytes
  pub stands : IfSome standing (IsStanding bytes)
