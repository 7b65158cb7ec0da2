use Rattle.std.proofs.Common.{sym}
use Rattle.wr_filing.proofs.Entry.{entry_no_root}
use Rattle.wr_filing.proofs.Moving.{source_ok}
use Rattle.wr_filing.proofs.move_object.judge_move.Goals as goal

pub judge_other_target-requires : goal.judge_other_target-requires
judge_other_target-requires c =
    let ok = source_ok c.args.state.now c.args.user.now c.args.x.now c.args.source.now c.args.target.now (sym c.in_ok-judge_source.ensures) in
    record { no_root = entry_no_root c.args.state.now c.args.x.now c.step-step.ensures.well c.requires.there ok.0; filed = ok.1 }
