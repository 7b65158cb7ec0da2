use Rattle.http_reply.proofs.Sends.{failed_first, failed_second}
use Rattle.http_reply.proofs.reply.send_both.Goals as goal

pub returns-in-Err-send_body-clause-front : goal.returns-in-Err-send_body-clause-front
returns-in-Err-send_body-clause-front g c = failed_second _ _ _ c.args.head.now c.args.body.now c.in-Ok.ensures.ok c.in-Err-send_body.ensures.front

pub returns-in-Err-clause-front : goal.returns-in-Err-clause-front
returns-in-Err-clause-front g c = failed_first _ _ c.args.head.now c.args.body.now c.in-Err.ensures.front
