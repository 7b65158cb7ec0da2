-- A disk that stops at a call by choice.
use Rattle.std.specs.Prelude.{◌≡◌, ◌⊎◌, ℕ, List, take}
use Rattle.disk.specs.Disks.{FileTold, DiskTold, overwritten}

-- a disk that stops: what it tells, the number of the call at which it stops, the bytes that are written where that call is a write,
-- and how many calls there were that write or sync
pub record CrashDiskTold : Type 0 where
  pub disk : DiskTold
  pub stop : ℕ
  pub torn : List ℕ
  pub calls : ℕ

-- a read gives what it gave before, or these bytes over it from this place on, n of them at most
abbrev pub IsTornBy : List ℕ → ℕ → ℕ → FileTold → FileTold → Type 0
IsTornBy torn at n old new = (new.seen ≡ old.seen) ⊎ (new.seen ≡ overwritten old.seen at (take n torn))
