use Rattle.std.proofs.Common.{option_copied, sym, ap, ◌∙◌}
use Rattle.cm_base.specs.declared.cause.Cause.TheVariants as causes
use Rattle.wr_rules.proofs.Found.{addressed_there}
use Rattle.wr_filing.proofs.Moving.{some_of}
use Rattle.wr_filing.proofs.move_object.judge.Goals as goal

pub judge_move-requires : goal.judge_move-requires
judge_move-requires c =
    let found = sym c.addressed.ensures ∙ ap option_copied (some_of c.addressed.result causes.NotFound c.in_ok-x.x (sym c.in_ok-x.ensures.value)) in
    record { there = addressed_there c.args.state.now c.args.user.now c.args.call.now.place c.in_ok-x.x.now c.step-step.ensures.well.numbers found }
