use Rattle.std.proofs.Common.{◌∙◌}
use Rattle.cm_folder.specs.Filings.{retold}
use Rattle.cm_state.specs.Told.{folder_by, name_by, entries_of}
use Rattle.cm_draft.proofs.Entries.{series_agrees, filed_told}
use Rattle.cm_draft.proofs.told.retold_by_series.Goals as goal

pub returns : goal.returns
returns c =
    let r = c.args.parts.now in
    let ss = c.args.series.now in
    c.in_ok-filing.ensures
    ∙ ((λ i. retold (entries_of r) c.args.n (folder_by r.types (c.objects_of.ensures i) c.args.n) (name_by ss (c.objects_of.ensures i) c.args.n))
    ∙ filed_told r.types r.series r.objects ss r.objects c.args.n (λ m o. series_agrees r.types r.series r.objects ss m (c.requires.others m o)) r.filed)
