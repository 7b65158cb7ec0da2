use Rattle.std.proofs.Common.{◌∙◌, sym}
use Rattle.state_rows.proofs.Tested.{no_row, a_row}
use Rattle.state_rows.proofs.row.row_if.Goals as goal

pub returns-then-not-is_row : goal.returns-then-not-is_row
returns-then-not-is_row c = no_row c.args.state.now c.args.search.now (record { user = c.search.inside.user.now; bound = c.search.inside.bound.now; versions = c.search.inside.versions }) c.args.x.now c.search.view_is (sym c.is_row.ensures ∙ c.if-not-is_row.true)

pub returns : goal.returns
returns c = a_row c.args.state.now c.args.search.now (record { user = c.search.inside.user.now; bound = c.search.inside.bound.now; versions = c.search.inside.versions }) c.args.x.now c.search.view_is c.in_ok-row.row (sym c.is_row.ensures ∙ c.if-not-is_row.false) c.in_ok-row.ensures
