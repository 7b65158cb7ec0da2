use Rattle.std.proofs.Common.{ap, ◌&&◌, ◌∙◌}
use Rattle.cmis_spec.specs.Access.{reads}
use Rattle.rd_trees.specs.ReadCheckedOut.{is_copy}
use Rattle.rd_trees.specs.Walks.{found_among}
use Rattle.rd_trees.proofs.DocumentTypes.{copies_found}
use Rattle.rd_trees.proofs.checked_out.copies.Goals as goal

pub returns : goal.returns
returns c =
    let r = c.args.state.now in
    let u = c.args.user.now in
    let folder = c.args.folder in
    c.in_ok-all.ensures
    ∙ (ap (found_among (λ y. is_copy r folder y && reads r u y) r) (c.as_slice.ensures ∙ c.in_ok-documents.ensures)
    ∙ copies_found r u folder c.step-step.ensures.well)
