use Rattle.std.proofs.Common.{◌∷◌, filter, ap, ◌∙◌}
use Rattle.cm_removal.specs.Steps.{is_tie}
use Rattle.cm_removal.proofs.Tied.{ties_are}
use Rattle.cm_removal.proofs.ties.ties_of.Goals as goal

pub returns : goal.returns
returns c =
    let r = c.args.state.now in
    ap (λ l. c.args.n ∷ l) (c.in_ok-all.ensures ∙ (ap (filter (is_tie r)) (c.as_slice.ensures ∙ c.in_ok-tied.ensures) ∙ ties_are r c.step-well.ensures.well c.args.n))
