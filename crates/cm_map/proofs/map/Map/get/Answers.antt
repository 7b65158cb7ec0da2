use Rattle.std.proofs.Common.{option_map, sym, ap, ◌∙◌}
use Rattle.std.specs.Arc.{arc_value}
use Rattle.core.specs.FinMap.Entries.{find}
use Rattle.cm_map.specs.Maps.{tree_entries, tail_entries}
use Rattle.cm_map.proofs.Parting.{sorted_right}
use Rattle.cm_map.proofs.Behind.{find_behind, find_before}
use Rattle.cm_map.proofs.map.Map.get.Goals as goal

pub tail_found-requires : goal.tail_found-requires
tail_found-requires g c = sorted_right g.K.Ord.cmp (tree_entries (option_map arc_value c.self.inside.body.tree)) (tail_entries (option_map arc_value c.self.inside.body.tail)) c.self.invariant.sorted

pub returns-then-is_behind : goal.returns-then-is_behind
returns-then-is_behind g c =
    c.tail_found.ensures
    ∙ sym (find_behind g.K.Ord.cmp g.met.K.Ord.total c.args.key.now (tree_entries (option_map arc_value c.self.inside.body.tree)) (tail_entries (option_map arc_value c.self.inside.body.tail)) (c.is_behind.ensures.yes c.if-is_behind.true))
    ∙ ap (find g.K.Ord.cmp c.args.key.now) c.self.view_is

pub returns-else-is_behind : goal.returns-else-is_behind
returns-else-is_behind g c =
    c.tree_found.ensures
    ∙ sym (find_before g.K.Ord.cmp g.met.K.Ord.total c.args.key.now (tree_entries (option_map arc_value c.self.inside.body.tree)) (tail_entries (option_map arc_value c.self.inside.body.tail)) (c.is_behind.ensures.no c.if-is_behind.false))
    ∙ ap (find g.K.Ord.cmp c.args.key.now) c.self.view_is
