-- What the file of a journal stands for.
use Rattle.std.specs.Prelude.{◌≡◌, ◌≢◌, ◌⊎◌, ℕ, ◌^◌, ◌<◌, ◌≤◌, List, [], ◌∷◌, ◌++◌, length, drop}
use Rattle.std.specs.Int.{w64, to_be_bytes}
use Rattle.std.specs.List.{AllByRecursion}
use Rattle.disk.specs.Disks.{FileTold}
use Rattle.disk.specs.Crashes.{IsSynced}

-- a payload's length in eight bytes, the most significant first
unfoldable pub length_bytes : ℕ → List ℕ
length_bytes len = to_be_bytes w64 len

-- the records of payloads, one behind the other: an open gate, which is 1, the payload's length, and the payload
abbrev pub records : List (List ℕ) → List ℕ
records [] = []
records (payload ∷ payloads) = 1 ∷ length_bytes (length payload) ++ payload ++ records payloads

-- a length that eight bytes can tell
abbrev pub IsShort : List ℕ → Type 0
IsShort payload = length payload < 2 ^ 64

-- the file is the records of these payloads, a closed gate, which is any other byte, and whatever stands behind it
pub record IsClosedAfter (payloads : List (List ℕ)) (file : List ℕ) : Type 0 where
  pub gate : ℕ
  pub behind : List ℕ
  pub file_is : file ≡ records payloads ++ gate ∷ behind
  pub closed : gate ≢ 1
  pub short : AllByRecursion IsShort payloads

-- the file stands for these payloads; a file of one byte at most, for none
abbrev pub StandsFor : List (List ℕ) → List ℕ → Type 0
StandsFor payloads file = ((length file ≤ 1) × (payloads ≡ [])) ⊎ IsClosedAfter payloads file

-- no whole payload with a byte behind it stands at the front of these bytes, which follow an open gate
abbrev pub HasNoPayload : List ℕ → Type 0
HasNoPayload bytes = (payload more : List ℕ) → IsShort payload → bytes ≡ length_bytes (length payload) ++ payload ++ more → more ≡ []

-- the file is damaged behind the records of these payloads: an open gate stands there, and neither a whole payload nor a byte behind it follows
pub record IsDamagedAfter (payloads : List (List ℕ)) (file : List ℕ) : Type 0 where
  pub rest : List ℕ
  pub file_is : file ≡ records payloads ++ 1 ∷ rest
  pub not_empty : 1 < length file
  pub broken : HasNoPayload rest
  pub short : AllByRecursion IsShort payloads

-- the file begins with the records of these payloads, which end at this place, and a byte or more stands there
pub record BeginsWith (payloads : List (List ℕ)) (place : ℕ) (file : List ℕ) : Type 0 where
  pub file_is : file ≡ records payloads ++ drop place file
  pub ends : length (records payloads) ≡ place
  pub within : place < length file
  pub short : AllByRecursion IsShort payloads

-- the file stands for the payloads from before, or for these and all the new ones
abbrev pub IsBeforeOrAfter : List (List ℕ) → List (List ℕ) → List ℕ → Type 0
IsBeforeOrAfter before new file = StandsFor before file ⊎ StandsFor (before ++ new) file

-- the file is as it was, or as empty as it was
abbrev pub IsAsBefore : List ℕ → List ℕ → Type 0
IsAsBefore before file = (file ≡ before) ⊎ ((length before ≤ 1) × (length file ≤ 1))

-- all of the file is synced, and it is closed after these payloads, whose records end at this place
pub record RestsAfter (payloads : List (List ℕ)) (end : ℕ) (file : FileTold) : Type 0 where
  pub synced : IsSynced file
  pub is_closed : IsClosedAfter payloads file.seen
  pub ends : length (records payloads) ≡ end

-- the closed gate behind the records of these payloads stands at this place
pub record IsClosedAt (payloads : List (List ℕ)) (end : ℕ) (file : List ℕ) : Type 0 where
  pub is_closed : IsClosedAfter payloads file
  pub ends : length (records payloads) ≡ end
