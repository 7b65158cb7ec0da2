use Rattle.std.proofs.Common.{◌∙◌, sym}
use Rattle.state_rows.proofs.Tested.{one_tested}
use Rattle.state_rows.proofs.values.push_tested.Goals as goal

pub returns-in_ok-push : goal.returns-in_ok-push
returns-in_ok-push c =
    one_tested c.args.state.now c.args.search.now (record { user = c.search.inside.user.now; bound = c.search.inside.bound.now; versions = c.search.inside.versions }) c.args.x.now c.args.def.now c.in_ok-slot.field-0 c.args.all.now c.push.new.self
    c.search.view_is c.if-def.true (sym c.tests.ensures ∙ c.if-tests.true) c.in_ok-slot.ensures c.in_ok-push.ensures.ok
