-- A journal that is being opened, and what comes next.
use Rattle.std.specs.Prelude.{◌≡◌, ℕ, ◌^◌, ◌+◌, ◌<◌, ◌≤◌, Bool, IsTrue, List, [], ◌∷◌, length}
use Rattle.disk.specs.Disks.{FileTold}
use Rattle.disk.specs.Crashes.{IsSynced}
use Rattle.journal_file.specs.Records.{BeginsWith}

-- all of a file that is told is synced, it begins with so many records, and so many bytes stand behind them; a file of one byte is a closed gate
pub record IsBeingOpened (tells : Bool) (file : FileTold) (place left count : ℕ) : Type 0 where
  pub some : 0 < left
  pub fits : place + left < 2 ^ 63
  pub counted : count ≤ place
  pub synced : IsTrue tells → IsSynced file
  pub whole : IsTrue tells → place + left ≡ length file.seen
  pub begins : IsTrue tells → (payloads : List (List ℕ)) × BeginsWith payloads place file.seen × (length payloads ≡ count)
  pub one_byte : IsTrue tells → length file.seen ≤ 1 → file.seen ≡ 0 ∷ []
