use Rattle.std.proofs.Common.{map, flat_map, option_map, T, sym, subst, ap, ◌∙◌}
use Rattle.std.specs.Arc.{arc_value}
use Rattle.core.specs.FinMap.Entries.{is_sorted}
use Rattle.cm_map.specs.Rows.{change}
use Rattle.cm_map.specs.Blocks.{limb_entries}
use Rattle.cm_map.proofs.Rowing.{sorted_change}
use Rattle.cm_map.proofs.tree.Tree.changed.Goals as goal

pub invariant_of-result : goal.invariant_of-result
invariant_of-result g c =
    let R = g.K.Ord.cmp in
    let new = option_map arc_value c.args.new in
    let e = c.in_ok-blocks.ensures.entries ∙ ap (λ l. change R c.args.key.now new (flat_map limb_entries (map arc_value l))) c.deref.ensures.value in
    record {
      whole = c.in_ok-blocks.ensures.whole;
      spaced = c.in_ok-blocks.ensures.spaced;
      sorted = subst (λ l. T (is_sorted R l)) (sym e) (sorted_change R g.met.K.Ord.total c.args.key.now new (flat_map limb_entries (map arc_value c.self.inside.blocks.items)) c.self.invariant.sorted);
    }
