-- What a disk tells of its file, and what its calls do to it.
use Rattle.std.specs.declared.option.Option.{Option}
use Rattle.std.specs.Prelude.{Bool, Some, None, if◌then◌else◌, ◌≡◌, ◌⊎◌, ℕ, ◌+◌, ◌≤◌, max, List, [], ◌∷◌, ◌++◌, length, take, drop}

-- a file: the bytes that a read gives, those of the last sync that succeeded, and the ranges that were written since, each its place and its length
pub record FileTold : Type 0 where
  pub seen : List ℕ
  pub synced : List ℕ
  pub written : List (ℕ × ℕ)

-- a disk: its file, its file at each moment before, the earliest first, and its count of faults
pub record DiskTold : Type 0 where
  pub file : FileTold
  pub past : List FileTold
  pub faults : ℕ

-- neither the file nor the moments
pub record IsUnchanged (old new : DiskTold) : Type 0 where
  pub file : new.file ≡ old.file
  pub past : new.past ≡ old.past

-- the file with these bytes from this place on
abbrev pub overwritten : List ℕ → ℕ → List ℕ → List ℕ
overwritten file at piece = take at file ++ piece ++ drop (at + length piece) file

-- A write of this piece: a read gives it, and its range was written since the last sync. It is a moment of its own.
pub record Writes (at : ℕ) (piece : List ℕ) (old new : DiskTold) : Type 0 where
  pub seen : new.file.seen ≡ overwritten old.file.seen at piece
  pub synced : new.file.synced ≡ old.file.synced
  pub written : new.file.written ≡ (at, length piece) ∷ old.file.written
  pub past : new.past ≡ old.past ++ old.file ∷ []

-- any n bytes from this place on, as many of them as there are behind the old end, and the same elsewhere
pub record Torn (at n : ℕ) (old new : List ℕ) : Type 0 where
  pub before : take at new ≡ take at old
  pub behind : drop (at + n) new ≡ drop (at + n) old
  pub no_shorter : length old ≤ length new
  pub no_longer : length new ≤ max (length old) (at + n)

-- a write of n bytes that is cut short: its range counts as written, and a read may give any bytes there
pub record Tears (at n : ℕ) (old new : DiskTold) : Type 0 where
  pub seen : Torn at n old.file.seen new.file.seen
  pub synced : new.file.synced ≡ old.file.synced
  pub written : new.file.written ≡ (at, n) ∷ old.file.written
  pub past : new.past ≡ old.past ++ old.file ∷ []

-- a write that fails has changed nothing, or is cut short
abbrev pub FailsToWrite : ℕ → ℕ → DiskTold → DiskTold → Type 0
FailsToWrite at n old new = IsUnchanged old new ⊎ Tears at n old new

-- a sync that succeeds: what a read gives is what was synced, and nothing was written since. It is a moment of its own.
pub record Syncs (old new : DiskTold) : Type 0 where
  pub seen : new.file.seen ≡ old.file.seen
  pub synced : new.file.synced ≡ old.file.seen
  pub written : new.file.written ≡ []
  pub past : new.past ≡ old.past ++ old.file ∷ []

-- the bytes of a file, where they are told
abbrev pub told_now : Bool → FileTold → Option (List ℕ)
told_now tells file = if tells then Some file.seen else None
