use Rattle.std.proofs.Common.{length}
use Rattle.ql_bind.proofs.column.+column_among.Given as goal

abbrev pub decreases-column_among : goal.decreases-column_among
decreases-column_among l = length l.columns.now
