use Rattle.std.proofs.Common.{◌≡◌, map, take}
use Rattle.cm_map.specs.Parts.{pointee}
use Rattle.rd_query.specs.ReadQuery.{query_row}
use Rattle.rd_query.proofs.reply.query_rows.Given as goal

abbrev pub invariant-loop-row : goal.invariant-loop-row
invariant-loop-row l = l.all ≡ map (query_row l.state l.user l.q l.columns) (map pointee (take l.row-index l.rows))
