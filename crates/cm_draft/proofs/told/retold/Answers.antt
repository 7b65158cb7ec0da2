use Rattle.std.proofs.Common.{refl, sym, ◌∙◌}
use Rattle.cm_folder.specs.Filings.{retold}
use Rattle.cm_state.specs.Told.{entries_of}
use Rattle.cm_draft.proofs.Entries.{filed_told}
use Rattle.cm_draft.proofs.told.retold.Goals as goal

pub returns-then-tells_the_same : goal.returns-then-tells_the_same
returns-then-tells_the_same c =
    let r = c.args.parts.now in
    let same = c.if-tells_the_same.ensures in
    c.in_ok-same.ensures ∙ c.filing_of.ensures
    ∙ sym (filed_told r.types r.series r.objects r.series r.objects c.args.n (λ m _. record { folder = refl; name = refl }) r.filed)
    ∙ (λ i. retold (entries_of r) c.args.n (same.folder refl i) (same.name refl i))
