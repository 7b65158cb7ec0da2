use Rattle.std.proofs.Common.{◌∙◌, sym, ap, Some, None, if◌then◌else◌, option_copied}
use Rattle.rd_version.proofs.Renditions.{found_of}
use Rattle.rd_version.proofs.content.rendition_of.Goals as goal

pub returns-then-is_of : goal.returns-then-is_of
returns-then-is_of c =
    let d = c.in-Some.rendition.now in
    ap (λ b. if b then Some d else None) (sym c.if-is_of.true ∙ c.is_of.ensures)
    ∙ found_of c.args.state.now c.args.x.now c.args.number (Some d) c.step-step.ensures.well (ap option_copied (sym c.in-Some.is) ∙ c.rendition.ensures)

pub returns-else-is_of : goal.returns-else-is_of
returns-else-is_of c =
    let d = c.in-Some.rendition.now in
    ap (λ b. if b then Some d else None) (sym c.if-is_of.false ∙ c.is_of.ensures)
    ∙ found_of c.args.state.now c.args.x.now c.args.number (Some d) c.step-step.ensures.well (ap option_copied (sym c.in-Some.is) ∙ c.rendition.ensures)

pub returns-in-None : goal.returns-in-None
returns-in-None c = found_of c.args.state.now c.args.x.now c.args.number None c.step-step.ensures.well (ap option_copied (sym c.in-None.is) ∙ c.rendition.ensures)
