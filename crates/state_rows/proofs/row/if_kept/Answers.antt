use Rattle.std.proofs.Common.{ap, ◌∙◌, map}
use Rattle.cm_map.specs.Parts.{pointee}
use Rattle.cm_types.specs.Types.{props_of}
use Rattle.row_store.specs.Rows.{if_kept, queryable_values, row_with}
use Rattle.state_rows.proofs.Parents.{all_shown}
use Rattle.state_rows.proofs.row.if_kept.Goals as goal

pub returns : goal.returns
returns c =
    let r = c.args.state.now in
    let u = c.args.search.now.user in
    let x = c.args.x.now in
    c.in_ok-row.ensures
    ∙ ap (λ ds. if_kept c.args.search.now.bound (row_with r u x (queryable_values r u x ds)))
    (ap (map pointee) c.deref.ensures.value ∙ (c.in_ok-defs.ensures ∙ all_shown (props_of r.types x.kind x.secondary)))
