use Rattle.cm_folder.proofs.filing.Filing.+path_by.Given as goal

abbrev pub decreases-path_by : goal.decreases-path_by
decreases-path_by l = l.levels
