use Rattle.std.proofs.Common.{◌+◌, ◌-◌}
use Rattle.schedule_lines.specs.Limits.{most_lines}
use Rattle.schedule_run.proofs.Going.{Going}
use Rattle.schedule_run.proofs.run.run_lines.Given as goal

abbrev pub invariant-lines : goal.invariant-lines
invariant-lines g l =
    Going (record { next = g.P.Kind.Machine.next; answer = g.P.Kind.Machine.answer; number = g.P.Kind.Machine.number }) g.P.Scripted.asks
    l.fn.core (g.S.Source.told l.fn.source) (g.K.Sink.told l.fn.sink) l.reader l.core (g.S.Source.told l.source) (g.K.Sink.told l.sink)

abbrev pub decreases-lines : goal.decreases-lines
decreases-lines g l = most_lines + 1 - l.reader.number
