-- Which disk is left where a journal is opened or payloads are put, and why not.
use Rattle.std.specs.Prelude.{◌≡◌, ⊤, Result, Ok, Err}
use Rattle.journal_file.specs.declared.put_stop.PutStop.{PutStop}
use Rattle.journal_file.specs.declared.put_stop.PutStop.TheVariants.{Fault, Memory}
use Rattle.journal_file.specs.Told.{JournalTold}

module _ {K : Type 0} where
  -- the disk of a journal that was opened, or that was handed back
  abbrev pub disk_opened : {A E : Type 0} → Result (JournalTold K × A) (E × K) → K
  disk_opened (Ok x) = x.0.disk
  disk_opened (Err x) = x.1

  -- the disk of the journal after a frame was put, or the one that was handed back
  abbrev pub disk_either : Result (JournalTold K) K → K
  disk_either (Ok journal) = journal.disk
  disk_either (Err disk) = disk

  -- the disk of the journal after a put, or the one that was handed back
  abbrev pub disk_put : Result (JournalTold K) (PutStop K) → K
  disk_put (Ok journal) = journal.disk
  disk_put (Err (Fault disk)) = disk
  disk_put (Err (Memory journal)) = journal.disk

  -- want of memory leaves the journal as it was
  abbrev pub KeepsWhereMemoryEnds : Result (JournalTold K) (PutStop K) → JournalTold K → Type 0
  KeepsWhereMemoryEnds (Err (Memory journal)) old = journal ≡ old
  KeepsWhereMemoryEnds (Err (Fault disk)) old = ⊤
  KeepsWhereMemoryEnds (Ok journal) old = ⊤

  -- where a stop is a fault, P holds of its disk
  abbrev pub FaultIs : PutStop K → (K → Type 0) → Type 0
  FaultIs (Fault disk) P = P disk
  FaultIs (Memory journal) P = ⊤
