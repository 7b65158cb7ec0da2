use Rattle.wr_change.proofs.Updating.{found_right}
use Rattle.wr_change.proofs.update.judge_one.Goals as goal

pub returns-clause-right : goal.returns-clause-right
returns-clause-right c = found_right c.args.state.now c.args.user.now c.args.moment c.args.call.now c.in_ok-x.x.now c.step-step.ensures.well.numbers c.in_ok-x.ensures.1 c.in_ok-x.ensures.0
