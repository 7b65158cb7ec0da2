-- What a crash may leave of a file, now or at some moment of a run.
use Rattle.std.specs.Prelude.{◌≡◌, ℕ, ◌+◌, ◌<◌, ◌≤◌, max, Bool, false, ◌&&◌, nat_le, nat_lt, List, [], ◌∷◌, ◌++◌, length, slice_index}
use Rattle.std.specs.List.{list_any, AllByRecursion}
use Rattle.disk.specs.Disks.{FileTold, DiskTold}

-- whether this place lies in one of the ranges
abbrev pub is_within : List (ℕ × ℕ) → ℕ → Bool
is_within ranges place = list_any (λ range. nat_le range.0 place && nat_lt place (range.0 + range.1)) ranges

-- the greatest end of the ranges, or this one
abbrev pub farthest : ℕ → List (ℕ × ℕ) → ℕ
farthest end [] = end
farthest end (range ∷ ranges) = max (range.0 + range.1) (farthest end ranges)

-- A crash may leave this: as long as what was synced, or longer, as far as anything was written; and each byte that was synced
-- and wasn't written since. The others may be any.
pub record MayLeave (file : FileTold) (left : List ℕ) : Type 0 where
  pub no_shorter : length file.synced ≤ length left
  pub no_longer : length left ≤ farthest (length file.synced) file.written
  pub stays : (place : ℕ) → place < length file.synced → is_within file.written place ≡ false → slice_index left place ≡ slice_index file.synced place

-- a crash leaves what has P alone
abbrev pub LeavesOnly : (List ℕ → Type 0) → FileTold → Type 0
LeavesOnly P file = (left : List ℕ) → MayLeave file left → P left

-- the moments up to now
abbrev pub moments : DiskTold → List FileTold
moments told = told.past ++ told.file ∷ []

-- From one state of a disk to a later one: a crash at each moment after the first leaves what has P alone.
pub record LeavesSince (P : List ℕ → Type 0) (old new : DiskTold) : Type 0 where
  pub since : List FileTold
  pub moments_are : moments new ≡ moments old ++ since
  pub each : AllByRecursion (LeavesOnly P) since

-- a crash leaves what a read gives, since all of it is synced and nothing was written after
pub record IsSynced (file : FileTold) : Type 0 where
  pub synced : file.synced ≡ file.seen
  pub written : file.written ≡ []
