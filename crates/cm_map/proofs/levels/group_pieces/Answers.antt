use Rattle.std.proofs.Common.{map, sym, ap, subst, ◌∙◌}
use mathlib.Core.List.{map-append}
use Rattle.std.specs.Arc.{arc_value}
use Rattle.core.specs.List.{AllByRecursion}
use Rattle.cm_map.specs.Rows.{Spaced}
use Rattle.cm_map.proofs.Rowing.{all_left, all_right, spaced_left, spaced_right}
use Rattle.cm_map.proofs.levels.group_pieces.Goals as goal

pub group_of-requires-2-clause-whole : goal.group_of-requires-2-clause-whole
group_of-requires-2-clause-whole g c = all_left g.B.Block.whole (map arc_value c.in_ok-low.low.items) (map arc_value c.in_ok-low.high.items) (subst (AllByRecursion g.B.Block.whole) (sym (c.in_ok-low.ensures.items ∙ ap (map arc_value) c.deref.ensures.value)) c.requires.whole)

pub group_of-requires-2-clause-spaced : goal.group_of-requires-2-clause-spaced
group_of-requires-2-clause-spaced g c = spaced_left (map g.B.Block.count (map arc_value c.in_ok-low.low.items)) (map g.B.Block.count (map arc_value c.in_ok-low.high.items)) (subst Spaced (ap (map g.B.Block.count) (sym (c.in_ok-low.ensures.items ∙ ap (map arc_value) c.deref.ensures.value)) ∙ map-append g.B.Block.count (map arc_value c.in_ok-low.low.items) (map arc_value c.in_ok-low.high.items)) c.requires.spaced)

pub group_of-requires-3-clause-whole : goal.group_of-requires-3-clause-whole
group_of-requires-3-clause-whole g c = all_right g.B.Block.whole (map arc_value c.in_ok-low.low.items) (map arc_value c.in_ok-low.high.items) (subst (AllByRecursion g.B.Block.whole) (sym (c.in_ok-low.ensures.items ∙ ap (map arc_value) c.deref.ensures.value)) c.requires.whole)

pub group_of-requires-3-clause-spaced : goal.group_of-requires-3-clause-spaced
group_of-requires-3-clause-spaced g c = spaced_right (map g.B.Block.count (map arc_value c.in_ok-low.low.items)) (map g.B.Block.count (map arc_value c.in_ok-low.high.items)) (subst Spaced (ap (map g.B.Block.count) (sym (c.in_ok-low.ensures.items ∙ ap (map arc_value) c.deref.ensures.value)) ∙ map-append g.B.Block.count (map arc_value c.in_ok-low.low.items) (map arc_value c.in_ok-low.high.items)) c.requires.spaced)
