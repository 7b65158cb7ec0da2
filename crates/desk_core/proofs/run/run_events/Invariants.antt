use Rattle.std.proofs.Common.{◌≡◌, ◌++◌}
use Rattle.desk_core.specs.Interleaving.{run, answers}
use Rattle.desk_core.proofs.run.run_events.Given as goal

abbrev pub invariant-loop-event : goal.invariant-loop-event
invariant-loop-event g l = record {
  dones : l.dones ≡ answers (record { next = g.M.Machine.next; answer = g.M.Machine.answer; number = g.M.Machine.number }) l.fn.core l.yielded;
  world : l.core ≡ run (record { next = g.M.Machine.next; answer = g.M.Machine.answer; number = g.M.Machine.number }) l.fn.core l.yielded;
  events : l.yielded ++ l.event-iterator.rest.items ≡ l.fn.events;
}
