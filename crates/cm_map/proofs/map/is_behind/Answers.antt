use Rattle.std.proofs.Common.{◌≡◌, option_map, Some, is_gt, sym, ap, ◌∙◌, false, true}
use Rattle.std.specs.Arc.{arc_value}
use Rattle.cm_map.specs.Parts.{first_of}
use Rattle.cm_map.specs.Blocks.{leaf_first}
use Rattle.cm_map.specs.Maps.{tree_entries, tail_entries}
use Rattle.cm_map.proofs.Heads.{greater}
use Rattle.cm_map.proofs.Behind.{not_true, not_false, behind_head, before_head}
use Rattle.cm_map.proofs.map.is_behind.Goals as goal

pub returns-in-Some-clause-yes : goal.returns-in-Some-clause-yes
returns-in-Some-clause-yes g c e =
    let tail = option_map arc_value c.args.tail.now in
    let first : first_of (tail_entries tail) ≡ Some c.head.result.now = ap (λ t. first_of (tail_entries (option_map arc_value t))) c.in-Some.is ∙ ap leaf_first (sym c.deref.ensures) ∙ c.head.ensures in
    let low : is_gt (g.K.Ord.cmp c.head.result.now c.args.key.now) ≡ false = sym (c.is_gt.ensures ∙ ap is_gt c.cmp.ensures) ∙ not_true c.is_gt.result e in
    behind_head g.K.Ord.cmp g.met.K.Ord.total c.args.key.now (tree_entries (option_map arc_value c.args.tree.now)) (tail_entries tail) c.head.result.now c.requires.sorted first low

pub returns-in-Some-clause-no : goal.returns-in-Some-clause-no
returns-in-Some-clause-no g c e =
    let tail = option_map arc_value c.args.tail.now in
    let first : first_of (tail_entries tail) ≡ Some c.head.result.now = ap (λ t. first_of (tail_entries (option_map arc_value t))) c.in-Some.is ∙ ap leaf_first (sym c.deref.ensures) ∙ c.head.ensures in
    let high : is_gt (g.K.Ord.cmp c.head.result.now c.args.key.now) ≡ true = sym (c.is_gt.ensures ∙ ap is_gt c.cmp.ensures) ∙ not_false c.is_gt.result e in
    before_head g.K.Ord.cmp g.met.K.Ord.total c.args.key.now (tree_entries (option_map arc_value c.args.tree.now)) (tail_entries tail) c.head.result.now c.requires.sorted first (greater _ high)
