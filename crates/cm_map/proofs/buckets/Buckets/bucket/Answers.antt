use Rattle.std.proofs.Common.{◌∙◌, ap}
use Rattle.core.specs.FinMap.Entries.{find}
use Rattle.cm_map.proofs.buckets.Buckets.bucket.Goals as goal

pub returns : goal.returns
returns g c = c.get.ensures ∙ ap (find g.K.Ord.cmp c.args.outer.now) c.self.view_is
