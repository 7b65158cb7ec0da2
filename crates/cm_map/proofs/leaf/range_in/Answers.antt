use Rattle.std.proofs.Common.{◌++◌, map, sym, ap, ◌∙◌}
use Rattle.std.specs.Arc.{arc_value}
use Rattle.cm_map.specs.Parts.{pointee}
use Rattle.cm_map.proofs.Ranging.{entries_between}
use Rattle.cm_map.proofs.leaf.range_in.Goals as goal

pub returns : goal.returns
returns g c = c.in_ok-push_within.ensures ∙ ap (λ l. map pointee c.args.out.now.items ++ l) (sym (entries_between g.K.Ord.cmp g.met.K.Ord.total c.args.least.now c.args.most.now (map arc_value c.args.xs.now) (map arc_value c.between-near.result.now) c.requires c.between-near.ensures))
