use Rattle.std.specs.Prelude.{◌++◌}
use Rattle.http_reply.proofs.Sends.{failed_first, failed_second}
use Rattle.keep_status.proofs.sending.send_three.Goals as goal

pub returns-in-Err-send_two-clause-front : goal.returns-in-Err-send_two-clause-front
returns-in-Err-send_two-clause-front g c = failed_second _ _ _ c.args.first.now (c.args.second.now ++ c.args.third.now) c.in-Ok.ensures.ok c.in-Err-send_two.ensures.front

pub returns-in-Err-clause-front : goal.returns-in-Err-clause-front
returns-in-Err-clause-front g c = failed_first _ _ c.args.first.now (c.args.second.now ++ c.args.third.now) c.in-Err.ensures.front
