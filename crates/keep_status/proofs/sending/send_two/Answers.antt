use Rattle.http_reply.proofs.Sends.{failed_first, failed_second}
use Rattle.keep_status.proofs.sending.send_two.Goals as goal

pub returns-in-Err-send-clause-front : goal.returns-in-Err-send-clause-front
returns-in-Err-send-clause-front g c = failed_second _ _ _ c.args.first.now c.args.second.now c.in-Ok.ensures.ok c.in-Err-send.ensures.front

pub returns-in-Err-clause-front : goal.returns-in-Err-clause-front
returns-in-Err-clause-front g c = failed_first _ _ c.args.first.now c.args.second.now c.in-Err.ensures.front
