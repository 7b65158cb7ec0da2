use Rattle.std.proofs.Common.{◌≡◌, map, take}
use Rattle.rd_query.specs.ReadQuery.{cell_of}
use Rattle.rd_query.proofs.reply.cells.Given as goal

abbrev pub invariant-loop-column : goal.invariant-loop-column
invariant-loop-column l = l.all ≡ map (cell_of l.row) (take l.column-index l.columns)
