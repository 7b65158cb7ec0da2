use Rattle.std.proofs.Common.{subst, sym, ◌≡◌, ◌∙◌, ap, length, take, drop, OnErr, Ok, Err}
use Rattle.http_reply.specs.Sent.{TookFront}
use Rattle.http_reply.proofs.Extents.{front_due}
use Rattle.http_reply.proofs.extent.send_part.Goals.{in-Ok-send, in-Err-send}
use Rattle.http_reply.proofs.extent.send_part.Goals as goal

pub returns-clause-front : goal.returns-clause-front
returns-clause-front g c =
    let due = take (length c.args.room.now) (drop c.args.from c.args.extent.now) in
    let Front = TookFront (g.K.Sink.told c.args.sink.now) (g.K.Sink.told c.send.new.sink) in
    elim c.match-send.branch [
      | in-Ok-send w ↦ subst (λ r. OnErr r (Front due)) (sym w.result-is) tt
      | in-Err-send w ↦ subst (λ r. OnErr r (Front due)) (sym w.result-is)
          (front_due (g.K.Sink.told c.args.sink.now) (g.K.Sink.told c.send.new.sink) c.read.new.room due c.tells-known.result c.tells-known.ensures w.in-Err-send.ensures.front c.in-Ok.ensures)
    ]
