use Rattle.std.proofs.Common.{filter, not, ◌&&◌, ap, ◌∙◌}
use Rattle.cmis_spec.specs.Repository.{same}
use Rattle.cm_folder.specs.Filings.{unfiled}
use Rattle.cm_state.specs.Told.{entries_of}
use Rattle.cm_draft.proofs.Entries.{filed_less}
use Rattle.cm_draft.proofs.Changed.{pairs_told, pairs_filed}
use Rattle.cm_draft.proofs.draft.Draft.without_pair.Goals as goal

pub put_filing-requires : goal.put_filing-requires
put_filing-requires c =
    let r = c.args.self in
    record {
      told = pairs_told r c.in-Ok.filing (filter (λ p. not (same p.folder c.args.folder && same p.child c.args.child)) r.filed)
          (c.in-Ok.ensures ∙ (ap (λ es. unfiled es c.args.folder c.args.child) (c.filing_of.ensures ∙ ap entries_of c.parts.ensures)
          ∙ filed_less r.types r.series r.objects c.args.folder c.args.child r.filed));
    }

pub returns-in-Ok : goal.returns-in-Ok
returns-in-Ok c =
    let r = c.args.self in
    c.put_filing.ensures ∙ pairs_filed r c.in-Ok.filing (filter (λ p. not (same p.folder c.args.folder && same p.child c.args.child)) r.filed)
    (c.in-Ok.ensures ∙ (ap (λ es. unfiled es c.args.folder c.args.child) (c.filing_of.ensures ∙ ap entries_of c.parts.ensures)
    ∙ filed_less r.types r.series r.objects c.args.folder c.args.child r.filed))
