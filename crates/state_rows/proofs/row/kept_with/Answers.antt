use Rattle.std.proofs.Common.{◌∙◌, map, sym}
use Rattle.cm_map.specs.Parts.{pointee}
use Rattle.state_rows.proofs.Tested.{not_kept, is_kept}
use Rattle.state_rows.proofs.row.kept_with.Goals as goal

pub returns-in_ok-values : goal.returns-in_ok-values
returns-in_ok-values c =
    is_kept c.args.state.now c.args.search.now (record { user = c.search.inside.user.now; bound = c.search.inside.bound.now; versions = c.search.inside.versions }) c.args.x.now c.search.view_is (map pointee c.args.defs.now) c.in_ok-tested.tested c.in_ok-row.row c.in_ok-tested.ensures c.in_ok-row.ensures
    c.in_ok-values.values (sym c.keeps.ensures ∙ c.if-keeps.true) c.in_ok-values.ensures

pub returns-else-keeps : goal.returns-else-keeps
returns-else-keeps c =
    not_kept c.args.state.now c.args.search.now (record { user = c.search.inside.user.now; bound = c.search.inside.bound.now; versions = c.search.inside.versions }) c.args.x.now c.search.view_is (map pointee c.args.defs.now) c.in_ok-tested.tested c.in_ok-row.row c.in_ok-tested.ensures c.in_ok-row.ensures
    (sym c.keeps.ensures ∙ c.if-keeps.false)
