use Rattle.std.proofs.Common.{ap, ◌∙◌}
use Rattle.core.specs.Ordering.{nat_cmp}
use Rattle.core.specs.Cmp.Lexicographic.{slice_cmp}
use Rattle.cm_map.specs.Buckets.{find_in}
use Rattle.cm_folder.proofs.names.Names.under.Goals as goal

pub returns : goal.returns
returns c = c.get.ensures ∙ ap (λ m. find_in nat_cmp (slice_cmp nat_cmp) m c.args.folder c.args.name.now) c.self.view_is
