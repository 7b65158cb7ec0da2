use Rattle.std.proofs.Common.{rules, ◌∙◌, ◌+◌, sym, ap}
use Rattle.std.specs.Prelude.{if◌then◌else◌}
use Rattle.rd_types.specs.Latest.{latest_in}
use Rattle.rd_types.proofs.Visible.{latest_more}
use Rattle.rd_types.proofs.latest.is_visible_at.Goals as goal

pub returns-in-Some : goal.returns-in-Some
returns-in-Some c =
    let r = c.args.state.now in
    let u = c.args.user.now in
    let before = c.args.before in
    latest_more r u before c.in-Some.event.now (search rules)
    ∙ ap (λ b. if b then before + 1 else latest_in r u before) (sym c.is_visible.ensures)
