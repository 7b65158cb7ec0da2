use Rattle.std.proofs.Common.{◌≡◌, ◌≤◌, ◌-◌, length, take}
use Rattle.outside.specs.Outside.{Took}
use Rattle.http_reply.proofs.extent.send_extent.Given as goal

abbrev pub invariant-loop-done : goal.invariant-loop-done
invariant-loop-done g l =
    (l.done ≤ length l.extent) × Took (g.K.Sink.told l.fn.sink) (g.K.Sink.told l.sink) (take l.done l.extent)
    × (g.K.Sink.aside l.sink ≡ g.K.Sink.aside l.fn.sink)
    × (length l.room ≡ 16384)

abbrev pub decreases-loop-done : goal.decreases-loop-done
decreases-loop-done g l = length l.extent - l.done
