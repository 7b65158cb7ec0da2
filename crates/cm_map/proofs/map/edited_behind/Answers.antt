use Rattle.std.proofs.Common.{◌++◌, option_map, T, sym, ap, subst, ◌∙◌}
use Rattle.std.specs.Arc.{arc_value}
use Rattle.core.specs.FinMap.Entries.{is_sorted}
use Rattle.cm_map.specs.Maps.{tree_entries, tail_entries}
use Rattle.cm_map.proofs.Parting.{sorted_right}
use Rattle.cm_map.proofs.Rowing.{sorted_change}
use Rattle.cm_map.proofs.Behind.{change_behind}
use Rattle.cm_map.proofs.map.edited_behind.Goals as goal

pub tail_changed-requires-clause-sorted : goal.tail_changed-requires-clause-sorted
tail_changed-requires-clause-sorted g c = sorted_right g.K.Ord.cmp (tree_entries (option_map arc_value c.args.tree.now)) (tail_entries (option_map arc_value c.args.tail.now)) c.requires.sorted

pub with_pieces-requires-clause-sorted : goal.with_pieces-requires-clause-sorted
with_pieces-requires-clause-sorted g c =
    let R = g.K.Ord.cmp in
    let A = tree_entries (option_map arc_value c.args.tree.now) in
    let es = tail_entries (option_map arc_value c.args.tail.now) in
    let new = option_map arc_value c.args.new in
    subst (λ l. T (is_sorted R l)) (change_behind R g.met.K.Ord.total c.args.key.now new A es c.requires.behind ∙ ap (λ l. A ++ l) (sym c.in_ok-pieces.ensures.entries))
    (sorted_change R g.met.K.Ord.total c.args.key.now new (A ++ es) c.requires.sorted)

pub returns-clause-entries : goal.returns-clause-entries
returns-clause-entries g c =
    let A = tree_entries (option_map arc_value c.args.tree.now) in
    c.in_ok-parts.ensures.entries ∙ ap (λ l. A ++ l) c.in_ok-pieces.ensures.entries
    ∙ sym (change_behind g.K.Ord.cmp g.met.K.Ord.total c.args.key.now (option_map arc_value c.args.new) A (tail_entries (option_map arc_value c.args.tail.now)) c.requires.behind)
