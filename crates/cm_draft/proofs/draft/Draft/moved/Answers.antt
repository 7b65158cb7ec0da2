use Rattle.std.proofs.Common.{map, ap, ◌∙◌}
use Rattle.cmis_spec.specs.Changes.{refiled}
use Rattle.cm_folder.specs.Filings.{shifted}
use Rattle.cm_state.specs.Told.{entries_of}
use Rattle.cm_draft.proofs.Entries.{filed_moved}
use Rattle.cm_draft.proofs.Changed.{pairs_told, pairs_filed}
use Rattle.cm_draft.proofs.draft.Draft.moved.Goals as goal

pub put_filing-requires : goal.put_filing-requires
put_filing-requires c =
    let r = c.args.self in
    record {
      told = pairs_told r c.in-Ok.filing (map (refiled c.args.child c.args.source c.args.target) r.filed)
          (c.in-Ok.ensures ∙ (ap (λ es. shifted es c.args.child c.args.source c.args.target) (c.filing_of.ensures ∙ ap entries_of c.parts.ensures)
          ∙ filed_moved r.types r.series r.objects c.args.child c.args.source c.args.target r.filed));
    }

pub returns-in-Ok : goal.returns-in-Ok
returns-in-Ok c =
    let r = c.args.self in
    c.put_filing.ensures ∙ pairs_filed r c.in-Ok.filing (map (refiled c.args.child c.args.source c.args.target) r.filed)
    (c.in-Ok.ensures ∙ (ap (λ es. shifted es c.args.child c.args.source c.args.target) (c.filing_of.ensures ∙ ap entries_of c.parts.ensures)
    ∙ filed_moved r.types r.series r.objects c.args.child c.args.source c.args.target r.filed))
