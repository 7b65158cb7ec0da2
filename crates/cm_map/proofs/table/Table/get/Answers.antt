use Rattle.std.specs.Ordering.{nat_cmp}
use Rattle.std.proofs.Common.{◌==◌, ◌∙◌, ap, find}
use Rattle.core.specs.FinMap.Entries as entries
use Rattle.cm_map.proofs.Tables.{find-keyed}
use Rattle.cm_map.proofs.table.Table.get.Goals as goal

pub returns : goal.returns
returns g c = c.get.ensures ∙ (ap (entries.find nat_cmp c.args.number) c.self.invariant ∙ (find-keyed _ c.args.number _ ∙ ap (find (λ x. (g.V.Numbered.number x) == c.args.number)) c.self.view_is))
