use Rattle.cm_see.proofs.read.+reads_up.Given as goal

abbrev pub decreases-reads_up : goal.decreases-reads_up
decreases-reads_up l = l.levels
