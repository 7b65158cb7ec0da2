use Rattle.std.proofs.Common.{rules, ◌≡◌, Ok, sym, ap, ◌∙◌}
use Rattle.cm_types.specs.Changes.{judge_with_change}
use Rattle.wr_types.specs.UpdateType.{cost_update_type, refusal_update_type}
use Rattle.wr_types.proofs.Changing.{types_are}
use Rattle.wr_types.proofs.update_type.typed.Goals as goal

pub returns : goal.returns
returns c =
    let r = c.args.state.now in
    let q = c.args.call.now.definition in
    let passed : refusal_update_type r c.args.user.now (cost_update_type c.args.call.now) c.args.call.now ≡ Ok tt = search rules in
    (passed, types_are r.types q c.in_ok-types.types (ap (λ ts. judge_with_change ts q) (sym c.types.ensures) ∙ c.in_ok-types.ensures))
