-- What stands in the file of a journal since a keeper began to put entries behind the payloads of before.
use Rattle.std.specs.Prelude.{◌≤◌, ℕ, List, ◌++◌, length}
use mathlib.Core.List.{IsPrefix}
use Rattle.disk.specs.Disks.{DiskTold}
use Rattle.disk.specs.Crashes.{LeavesOnly, LeavesSince}
use Rattle.journal_file.specs.Records.{StandsFor}
use Rattle.byte_codec.specs.Codecs.{Codec}
use Rattle.desk_model.specs.declared.entry.Entry.{Entry}
use Rattle.journal_keeper.specs.Recorded.{payloads, HaveCodes}

-- The file stands for the payloads of before and a front of these entries behind them, with at least the first n of them.
pub record StandsForFront {C : Type 0} (codec : Codec (Entry C)) (offset : ℕ) (before : List (List ℕ)) (n : ℕ) (entries : List (Entry C)) (file : List ℕ) : Type 0 where
  pub front : List (Entry C)
  pub begins : IsPrefix front entries
  pub least : n ≤ length front
  pub have_codes : HaveCodes codec offset front
  pub stands : StandsFor (before ++ payloads codec offset front) file

-- The payloads of before are those of the file as the keeper began. A crash now leaves them, and behind them a front of these entries with at least
-- the first n; and a crash at each moment since the keeper began has left them, and a front of these entries.
pub record Stand {C : Type 0} (codec : Codec (Entry C)) (offset : ℕ) (begun now : DiskTold) (n : ℕ) (entries : List (Entry C)) : Type 0 where
  pub before : List (List ℕ)
  pub began_with : StandsFor before begun.file.seen
  pub left : LeavesOnly (StandsForFront codec offset before n entries) now.file
  pub since : LeavesSince (StandsForFront codec offset before 0 entries) begun now
