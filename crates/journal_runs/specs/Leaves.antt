-- What a run over the file of a journal leaves.
use Rattle.std.specs.Prelude.{◌≡◌, ◌≤◌, ℕ, Bool, List, length, None}
use Rattle.std.specs.declared.option.Option.{Option}
use Rattle.disk.specs.Disks.{DiskTold}
use Rattle.disk.specs.Crashes.{LeavesOnly, LeavesSince}
use Rattle.journal_file.specs.Records.{StandsFor}
use Rattle.byte_codec.specs.Codecs.{Codec}
use Rattle.desk_model.specs.declared.entry.Entry.{Entry}
use Rattle.desk_lock.specs.declared.board.Store.{Store}
use Rattle.desk_lock.specs.Board.{Settled}
use Rattle.desk_lock.specs.Words.{Since}
use Rattle.journal_keeper.specs.declared.lost.Lost.{Lost}
use Rattle.journal_keeper.specs.Standing.{StandsForFront}
use Rattle.journal_keeper.specs.Stores.{KeeperTold, Stands}
use Rattle.journal_keeper.specs.Went.{Went}

-- The run began with this first keeper, and ends with these entries, of which so many are sure.
abbrev pub EndsWith : {K C : Type 0} → Bool → (K → DiskTold) → Codec (Entry C) → KeeperTold K → Store (KeeperTold K) → List (Entry C) → ℕ → Type 0
EndsWith tells told codec first store entries sure = Settled (Since (Stands tells told codec) (Went tells told codec) first) store entries sure

-- A run is over: a keeper is left, and it is known what stands at it.
abbrev pub IsOver : {K C : Type 0} → Bool → (K → DiskTold) → Codec (Entry C) → Store (KeeperTold K) → Type 0
IsOver {K = K} {C = C} tells told codec store = (first : KeeperTold K) × (entries : List (Entry C)) × (sure : ℕ) × EndsWith tells told codec first store entries sure

-- The file of a journal at the end of a run. As the run began, it stood for the payloads of before. A crash at each moment since has left these, and a front of the run's entries behind them.
-- A crash now leaves these, and a front with at least the settled entries, among which are all that are sure; where nothing is unkept, all are settled.
pub record KeptIn {C : Type 0} (codec : Codec (Entry C)) (offset : ℕ) (begun now : DiskTold) (entries : List (Entry C)) (sure : ℕ) (unkept : Option (Option Lost)) : Type 0 where
  pub before : List (List ℕ)
  pub began_with : StandsFor before begun.file.seen
  pub since : LeavesSince (StandsForFront codec offset before 0 entries) begun now
  pub settled : ℕ
  pub enough : sure ≤ settled
  pub within : settled ≤ length entries
  pub left : LeavesOnly (StandsForFront codec offset before settled entries) now.file
  pub whole : unkept ≡ None → settled ≡ length entries
