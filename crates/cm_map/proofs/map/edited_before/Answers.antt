use Rattle.std.proofs.Common.{◌++◌, option_map, sym, ◌∙◌}
use Rattle.std.specs.Arc.{arc_value}
use Rattle.cm_map.specs.Maps.{tree_entries, tail_entries}
use Rattle.cm_map.proofs.Behind.{change_before}
use Rattle.cm_map.proofs.map.edited_before.Goals as goal

pub returns-clause-entries : goal.returns-clause-entries
returns-clause-entries g c =
    (λ i. c.in_ok-changed.ensures i ++ tail_entries (c.in_ok-same.ensures i))
    ∙ sym (change_before g.K.Ord.cmp g.met.K.Ord.total c.args.key.now (option_map arc_value c.args.new) (tree_entries (option_map arc_value c.args.tree.now)) (tail_entries (option_map arc_value c.args.tail.now)) c.requires.before)
