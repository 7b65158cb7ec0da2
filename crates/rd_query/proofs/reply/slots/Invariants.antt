use Rattle.std.proofs.Common.{◌≡◌, map, take}
use Rattle.rd_query.specs.ReadQuery.{slot_of}
use Rattle.rd_query.proofs.reply.slots.Given as goal

abbrev pub invariant-loop-column : goal.invariant-loop-column
invariant-loop-column l = l.all ≡ map (slot_of l.row) (take l.column-index l.columns)
