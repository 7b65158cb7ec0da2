use Rattle.std.proofs.Common.{◌≡◌, ◌≤◌, ◌-◌, length, take}
use Rattle.outside.specs.Outside.{Took}
use Rattle.http_reply.specs.Sent.{Offers}
use Rattle.http_reply.proofs.sending.send.Given as goal

abbrev pub invariant-loop-done : goal.invariant-loop-done
invariant-loop-done g l =
    (l.done ≤ length l.piece) × Took (g.K.Sink.told l.fn.sink) (g.K.Sink.told l.sink) (take l.done l.piece)
    × (g.K.Sink.aside l.sink ≡ g.K.Sink.aside l.fn.sink)
    × Offers (g.K.Sink.offered l.fn.sink) (g.K.Sink.offered l.sink) l.piece

abbrev pub decreases-loop-done : goal.decreases-loop-done
decreases-loop-done g l = length l.piece - l.done
