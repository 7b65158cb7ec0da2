-- Why a journal isn't opened, or an entry isn't put, and which disk is left.
use Rattle.std.specs.Prelude.{⊤, ◌≡◌, ◌≤◌, ℕ, List, length, Result, IsErrOf}
use Rattle.outside.specs.Outside.{Rose}
use Rattle.journal_file.specs.declared.open_stop.OpenStop.{OpenStop}
use Rattle.journal_file.specs.declared.open_stop.OpenStop.TheVariants.{Fault, Damaged, Memory}
use Rattle.journal_file.specs.Records.{IsDamagedAfter}

-- a fault comes only where the count of faults rose, and the count never falls
pub record FaultHasCause {T : Type 0} (before now : ℕ) (result : Result T OpenStop) : Type 0 where
  pub later : before ≤ now
  pub fault : IsErrOf result Fault → Rose before now

-- the file is damaged behind so many records
abbrev pub IsDamagedBehind : ℕ → List ℕ → Type 0
IsDamagedBehind count file = (payloads : List (List ℕ)) × (length payloads ≡ count) × IsDamagedAfter payloads file

-- where a stop tells damage, P holds of the number of records that it tells
abbrev pub DamageIs : OpenStop → (ℕ → Type 0) → Type 0
DamageIs (Damaged count) P = P count
DamageIs Fault P = ⊤
DamageIs Memory P = ⊤
