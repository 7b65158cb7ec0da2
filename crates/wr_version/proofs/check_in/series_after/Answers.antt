use Rattle.std.proofs.Common.{option_copied, sym, ap, ◌∙◌}
use Rattle.wr_version.proofs.Joined.{labels_fit}
use Rattle.wr_version.proofs.check_in.series_after.Goals as goal

pub label_after-label-requires-clause-major : goal.label_after-label-requires-clause-major
label_after-label-requires-clause-major c =
    (labels_fit c.args.state.now c.args.x.now c.unwrap-series.result.now c.step-step.ensures.well (sym c.series_of.ensures ∙ ap option_copied c.unwrap-series.ensures) c.requires.room).0

pub label_after-label-requires-clause-minor : goal.label_after-label-requires-clause-minor
label_after-label-requires-clause-minor c =
    (labels_fit c.args.state.now c.args.x.now c.unwrap-series.result.now c.step-step.ensures.well (sym c.series_of.ensures ∙ ap option_copied c.unwrap-series.ensures) c.requires.room).1
