use Rattle.std.proofs.Common.{subst}
use Rattle.schedule_run.specs.Runs.{Performs}
use Rattle.schedule_run.proofs.step.perform.Goals as goal

pub returns-in-Ok : goal.returns-in-Ok
returns-in-Ok g c =
    subst (λ e. Performs (record { next = g.P.Kind.Machine.next; answer = g.P.Kind.Machine.answer; number = g.P.Kind.Machine.number }) g.P.Scripted.asks c.args.step.session e
    c.args.core.now c.write_line.new.core (g.K.Sink.told c.args.sink.now) (g.K.Sink.told c.write_line.new.sink) c.write_line.result)
    c.in-Ok.ensures c.write_line.ensures
