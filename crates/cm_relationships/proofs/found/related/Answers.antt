use Rattle.std.proofs.Common.{ap, ◌∙◌, ◌++◌, get_or}
use Rattle.std.specs.Option.{option_to_list}
use Rattle.cm_types.proofs.Lists.{filter_map_more}
use Rattle.cm_relationships.specs.Found.{related_at}
use Rattle.cm_relationships.proofs.found.related.Goals as goal

pub loop-m-preserved : goal.loop-m-preserved
loop-m-preserved c =
    let r = c.args.state.now in
    let u = c.args.user.now in
    let ms = c.args.numbers.now in
    let i = c.loop-m.m-index in
    c.in_ok-push_related.ensures
    ∙ (ap (λ ys. ys ++ option_to_list (related_at r u c.args.direction c.args.n (get_or ms i (record { 0 = 0 })))) c.loop-m.invariant
    ∙ filter_map_more (related_at r u c.args.direction c.args.n) ms i (record { 0 = 0 }) c.loop-m-test.true)
