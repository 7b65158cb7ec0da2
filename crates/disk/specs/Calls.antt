-- The calls that a disk in memory keeps, and its file after them.
use Rattle.std.specs.Prelude.{ℕ, List, [], ◌∷◌, length}
use Rattle.disk.specs.declared.mem_disk.Call.{Call}
use Rattle.disk.specs.declared.mem_disk.Call.TheVariants.{Wrote, Tore, Synced}
use Rattle.disk.specs.Disks.{FileTold, DiskTold, overwritten}

-- a file after a call
abbrev pub after : Call → FileTold → FileTold
after (Wrote at piece) f = record { seen = overwritten f.seen at piece.items; synced = f.synced; written = (at, length piece.items) ∷ f.written }
after (Tore at n) f = record { seen = f.seen; synced = f.synced; written = (at, n) ∷ f.written }
after Synced f = record { seen = f.seen; synced = f.seen; written = [] }

-- a file after calls, the first of them first
abbrev pub replayed : FileTold → List Call → FileTold
replayed f [] = f
replayed f (call ∷ calls) = replayed (after call f) calls

-- the file before each of the calls
abbrev pub before_each : FileTold → List Call → List FileTold
before_each f [] = []
before_each f (call ∷ calls) = f ∷ before_each (after call f) calls

-- a file all of which is synced
abbrev pub at_first : List ℕ → FileTold
at_first bytes = record { seen = bytes; synced = bytes; written = [] }

-- a disk in memory: what it tells, the numbers of the calls that are to fail, and how many calls there were
pub record MemDiskTold : Type 0 where
  pub disk : DiskTold
  pub failing : List ℕ
  pub calls : ℕ
