use Rattle.std.proofs.Common.{option_map}
use Rattle.std.specs.Arc.{arc_value}
use Rattle.cm_map.specs.Maps.{tree_entries, tail_entries}
use Rattle.cm_map.proofs.Parting.{sorted_right}
use Rattle.cm_map.proofs.map.Map.range.Goals as goal

pub tail_ranged-requires : goal.tail_ranged-requires
tail_ranged-requires g c = sorted_right g.K.Ord.cmp (tree_entries (option_map arc_value c.self.inside.body.tree)) (tail_entries (option_map arc_value c.self.inside.body.tail)) c.self.invariant.sorted
