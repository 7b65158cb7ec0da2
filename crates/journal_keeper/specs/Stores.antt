-- A keeper over a journal, what stands at it, and why it keeps nothing.
use Rattle.std.specs.Prelude.{◌≡◌, ◌+◌, ℕ, Bool, IsTrue, List, Some, None}
use Rattle.std.specs.declared.option.Option.{Option}
use Rattle.outside.specs.Outside.{Rose}
use Rattle.disk.specs.Disks.{DiskTold}
use Rattle.byte_codec.specs.Codecs.{Codec}
use Rattle.desk_model.specs.declared.entry.Entry.{Entry}
use Rattle.journal_keeper.specs.declared.store.Store.{Store}
use Rattle.journal_keeper.specs.declared.store.Store.TheVariants.{Open, Failed}
use Rattle.journal_keeper.specs.declared.lost.Lost.{Lost}
use Rattle.journal_keeper.specs.declared.lost.Lost.TheVariants.{Disk, Before, Unread, Session, Memory}
use Rattle.journal_keeper.specs.Standing.{Stand}

-- A keeper: its journal, or the disk that has failed; the disk as the keeper began; what is added to the number of a session;
-- how often it kept nothing though the disk did not fail then; and why it first kept nothing, if it ever did.
pub record KeeperTold (K : Type 0) : Type 0 where
  pub store : Store K
  pub begun : K
  pub offset : ℕ
  pub unkept : ℕ
  pub lost : Option Lost

-- the disk of a journal, or the one that has failed
abbrev pub disk_of : {K : Type 0} → Store K → K
disk_of (Open journal) = journal.disk
disk_of (Failed disk) = disk

-- a front of these entries stands at the keeper, with at least the first n of them, where the disk tells its file
pub record Stands {K C : Type 0} (tells : Bool) (told : K → DiskTold) (codec : Codec (Entry C)) (k : KeeperTold K) (n : ℕ) (entries : List (Entry C)) : Type 0 where
  pub stand : IsTrue tells → Stand codec k.offset (told k.begun) (told (disk_of k.store)) n entries

-- the disk's faults, and how often else nothing was kept
abbrev pub faults : {K : Type 0} → (K → DiskTold) → KeeperTold K → ℕ
faults told k = (told (disk_of k.store)).faults + k.unkept

-- the one where the disk has failed now, and else the other
abbrev pub WhereDisk : Lost → Type 0 → Type 0 → Type 0
WhereDisk Disk one other = one
WhereDisk Before one other = other
WhereDisk Unread one other = other
WhereDisk Session one other = other
WhereDisk Memory one other = other

-- Why nothing was kept: the disk has failed, and its count rose; or the store is as it was.
abbrev pub IsWhy : {K : Type 0} → (K → DiskTold) → Store K → Store K → Lost → Type 0
IsWhy told old new lost = WhereDisk lost (Rose (told (disk_of old)).faults (told (disk_of new)).faults) (new ≡ old)

-- the first of the reasons
abbrev pub first_lost : Option Lost → Lost → Option Lost
first_lost None now = Some now
first_lost (Some before) now = Some before
