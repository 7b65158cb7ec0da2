use Rattle.cmis_runs.proofs.loaded.line_of.Goals as goal

pub returns : goal.returns
returns g c = (c.in_ok-state.state, c.in_ok-state.ensures, c.in_ok-line.ensures)
