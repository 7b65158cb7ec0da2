use Rattle.std.proofs.Common.{◌∙◌, ◌≡◌, ◌-◌, arith, length-take-le, length-append, length-drop, length, take}
use Rattle.http_reply.proofs.Extents.{sent_more, lost_part}
use Rattle.http_reply.proofs.extent.send_extent.Goals as goal

pub loop-done-preserved : goal.loop-done-preserved
loop-done-preserved g c =
    let n = c.next_of-count.result in
    let room = c.loop-done.room in
    let cut : length (take n room) ≡ n = length-take-le n room (omega (arith, c.loop-done.invariant.3, c.next_of-count.ensures.fits)) in (
      omega (arith, c.next_of-count.ensures.within, c.loop-done-test.true),
      sent_more _ _ _ c.args.extent.now c.loop-done.done _ n cut c.loop-done.invariant.1 c.in-Ok.ensures.ok,
      c.in-Ok.ensures.aside ∙ c.loop-done.invariant.2,
      length-append c.send_part.new.room _ ∙ omega (arith, c.send_part.auto.room, cut, length-drop n room, c.loop-done.invariant.3, c.next_of-count.ensures.fits),
    )

pub returns-in-Err-clause-front : goal.returns-in-Err-clause-front
returns-in-Err-clause-front g c = lost_part _ _ _ c.args.extent.now c.loop-done.done _ c.loop-done.invariant.1 c.in-Err.ensures.front
