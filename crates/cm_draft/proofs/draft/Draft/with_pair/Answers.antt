use Rattle.std.proofs.Common.{◌++◌, ◌∷◌, [], ap, ◌∙◌}
use Rattle.cmis_spec.specs.Repository.{Repository}
use Rattle.cm_folder.specs.Filings.{filed_with}
use Rattle.cm_state.specs.Told.{entry_by, entries_of}
use Rattle.cm_draft.proofs.Entries.{filed_more}
use Rattle.cm_draft.proofs.Changed.{pairs_told, pairs_filed}
use Rattle.cm_draft.proofs.draft.Draft.with_pair.Goals as goal

pub put_filing-requires : goal.put_filing-requires
put_filing-requires c =
    let r = c.args.self in
    record {
      told = pairs_told r c.in-Ok.filing (r.filed ++ record { folder = c.args.folder; child = c.args.child } ∷ [])
          (c.in-Ok.ensures ∙ (ap (λ (q : Repository). filed_with (entries_of q) (entry_by q.types q.series q.objects (record { folder = c.args.folder; child = c.args.child }))) c.parts.ensures
          ∙ filed_more r.types r.series r.objects r.filed (record { folder = c.args.folder; child = c.args.child })));
    }

pub returns-in-Ok : goal.returns-in-Ok
returns-in-Ok c =
    let r = c.args.self in
    c.put_filing.ensures ∙ pairs_filed r c.in-Ok.filing (r.filed ++ record { folder = c.args.folder; child = c.args.child } ∷ [])
    (c.in-Ok.ensures ∙ (ap (λ (q : Repository). filed_with (entries_of q) (entry_by q.types q.series q.objects (record { folder = c.args.folder; child = c.args.child }))) c.parts.ensures
    ∙ filed_more r.types r.series r.objects r.filed (record { folder = c.args.folder; child = c.args.child })))
