use Rattle.std.proofs.Common.{subst}
use Rattle.cm_map.specs.Sets.{IsRising}
use Rattle.cm_map.proofs.Keyed.{keys_rise}
use Rattle.cm_map.proofs.set.Set.iter.Goals as goal

pub returns-clause-rising : goal.returns-clause-rising
returns-clause-rising g c = subst (IsRising g.K.Ord.cmp) c.self.view_is (keys_rise g.K.Ord.cmp c.self.inside.entries c.iter.ensures.sorted)
