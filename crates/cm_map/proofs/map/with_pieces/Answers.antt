use Rattle.std.proofs.Common.{[], ◌++◌, option_map, flat_map, T, subst}
use Rattle.std.specs.Arc.{arc_value}
use Rattle.core.specs.FinMap.Entries.{is_sorted}
use Rattle.cm_map.specs.Pieces.{blocks_of}
use Rattle.cm_map.specs.Blocks.{leaf_entries}
use Rattle.cm_map.specs.Maps.{tree_entries}
use Rattle.cm_map.proofs.Behind.{front_sorted}
use Rattle.cm_map.proofs.map.with_pieces.Goals as goal

pub with_leaf-requires-clause-sorted : goal.with_leaf-requires-clause-sorted
with_leaf-requires-clause-sorted g c =
    let tree = tree_entries (option_map arc_value c.args.tree.now) in
    front_sorted g.K.Ord.cmp tree (leaf_entries (arc_value c.in-Two.low)) (leaf_entries (arc_value c.in-Two.high) ++ [])
    (subst (λ p. T (is_sorted g.K.Ord.cmp (tree ++ flat_map leaf_entries (blocks_of p)))) c.in-Two.is c.requires.sorted)
