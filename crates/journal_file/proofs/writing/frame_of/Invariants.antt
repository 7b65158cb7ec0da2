use Rattle.std.proofs.Common.{◌≡◌, take}
use Rattle.std.specs.List.{AllByRecursion}
use Rattle.journal_file.specs.Records.{records, IsShort}
use Rattle.journal_file.proofs.writing.frame_of.Given as goal

abbrev pub invariant-loop-payload : goal.invariant-loop-payload
invariant-loop-payload l = record { so_far : l.frame.items ≡ records (take l.payload-index l.payloads); short : AllByRecursion IsShort (take l.payload-index l.payloads) }
