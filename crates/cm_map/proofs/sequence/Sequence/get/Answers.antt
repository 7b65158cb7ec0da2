use Rattle.std.proofs.Common.{◌∙◌, ap}
use Rattle.std.specs.List.{enumerate_from}
use Rattle.cm_map.proofs.ByPlace.{place-got}
use Rattle.cm_map.proofs.sequence.Sequence.get.Goals as goal

pub returns : goal.returns
returns g c = place-got _ _ _ _ c.get.ensures (c.self.invariant ∙ ap (enumerate_from 0) c.self.view_is)
