-- The bytes that are written for payloads, and a file that was made ready to be read.
use Rattle.std.specs.Prelude.{◌≡◌, ◌⊎◌, ℕ, ◌<◌, ◌≤◌, List, [], ◌∷◌, ◌++◌, length}
use Rattle.std.specs.List.{AllByRecursion}
use Rattle.journal_file.specs.Records.{records, IsShort}

-- the bytes to write for these payloads: their records, and a closed gate
pub record IsFrameOf (payloads : List (List ℕ)) (bytes : List ℕ) : Type 0 where
  pub bytes_are : bytes ≡ records payloads ++ 0 ∷ []
  pub short : AllByRecursion IsShort payloads

-- a file before it is opened, and once it is: the same, where it has two bytes or more, and else a closed gate
abbrev pub IsPrepared : List ℕ → List ℕ → Type 0
IsPrepared before file = ((1 < length before) × (file ≡ before)) ⊎ ((length before ≤ 1) × (file ≡ 0 ∷ []))
