use Rattle.wr_rules.proofs.retention.+is_below_in.Given as goal

abbrev pub decreases-is_below_in : goal.decreases-is_below_in
decreases-is_below_in l = l.levels
