use Rattle.std.proofs.Common.{◌∙◌, ap, map}
use Rattle.cm_map.specs.Parts.{pointee}
use Rattle.rd_order.specs.Keyed.{object_and_row}
use Rattle.rd_order.proofs.Listed.{in_order}
use Rattle.rd_order.proofs.ordered.ordered_by.Goals as goal

pub returns : goal.returns
returns c =
    c.in_ok-objects.ensures
    ∙ (ap (λ all. map (λ p. p.0) (map object_and_row all)) (c.deref.ensures.value ∙ c.in_ok-sorted.ensures)
    ∙ in_order c.args.state.now c.args.user.now c.args.filter.now c.args.keys.now (map pointee c.args.objects.now) c.in_ok-all.all.items c.in_ok-all.ensures)
