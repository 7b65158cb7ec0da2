use Rattle.std.proofs.Common.{subst}
use Rattle.cm_map.specs.Keyed.{Rises}
use Rattle.cm_map.proofs.Tables.{rises}
use Rattle.cm_map.proofs.table.Table.len.Goals as goal

pub returns-clause-rising : goal.returns-clause-rising
returns-clause-rising g c = subst (Rises g.V.Numbered.number) c.self.view_is (rises g.V.Numbered.number c.self.inside.entries c.self.invariant c.len.ensures.sorted)
