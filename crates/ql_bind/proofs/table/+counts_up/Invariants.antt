use Rattle.ql_bind.proofs.table.+counts_up.Given as goal

abbrev pub decreases-counts_up : goal.decreases-counts_up
decreases-counts_up l = l.levels
