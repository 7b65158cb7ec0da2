use Rattle.cm_type_list.proofs.types.Types.+add_line.Given as goal

abbrev pub decreases-add_line : goal.decreases-add_line
decreases-add_line l = l.levels
