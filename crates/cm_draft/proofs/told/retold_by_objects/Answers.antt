use Rattle.std.proofs.Common.{◌∙◌}
use Rattle.cm_folder.specs.Filings.{retold}
use Rattle.cm_state.specs.Told.{folder_by, name_by, entries_of}
use Rattle.cm_draft.proofs.Entries.{object_agrees, filed_told}
use Rattle.cm_draft.proofs.told.retold_by_objects.Goals as goal

pub returns : goal.returns
returns c =
    let r = c.args.parts.now in
    let xs = c.args.objects.now in
    c.in_ok-filing.ensures
    ∙ ((λ i. retold (entries_of r) c.args.n (folder_by r.types xs c.args.n) (name_by (c.series_of.ensures i) xs c.args.n))
    ∙ filed_told r.types r.series r.objects r.series xs c.args.n (λ m o. object_agrees r.types r.series r.objects xs m (c.requires.others m o)) r.filed)
