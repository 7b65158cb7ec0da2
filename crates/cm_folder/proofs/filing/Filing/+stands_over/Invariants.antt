use Rattle.cm_folder.proofs.filing.Filing.+stands_over.Given as goal

abbrev pub decreases-stands_over : goal.decreases-stands_over
decreases-stands_over l = l.levels
