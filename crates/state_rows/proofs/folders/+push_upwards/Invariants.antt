use Rattle.state_rows.proofs.folders.+push_upwards.Given as goal

abbrev pub decreases-push_upwards : goal.decreases-push_upwards
decreases-push_upwards l = l.levels
