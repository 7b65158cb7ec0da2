use Rattle.std.proofs.Common.{◌++◌, ◌∷◌, [], sym, refl}
use Rattle.desk_core.specs.Interleaving.{Rules}
use Rattle.desk_core.proofs.Runs.{both-more, one-moves, on_err}
use Rattle.desk_core.proofs.run.run_events.Goals as goal

pub loop-event-preserved : goal.loop-event-preserved
loop-event-preserved g c =
    let m : Rules _ _ _ _ _ = record { next = g.M.Machine.next; answer = g.M.Machine.answer; number = g.M.Machine.number } in
    let both = both-more m _ _ _ _ _ _ c.in-Some.event _ c.loop-event.invariant.dones c.loop-event.invariant.world c.in_ok-done.ensures.told c.in_ok-done.ensures.world c.in_ok-push.ensures.ok in
    record {
      dones = both.0;
      world = both.1;
      events = one-moves c.loop-event.yielded c.loop-event.event-iterator.rest.items c.next.new.self.rest.items c.args.events c.in-Some.event c.loop-event.invariant.events c.in-Some.ensures.steps.0;
    }

pub returns-in_err-push-clause-memory : goal.returns-in_err-push-clause-memory
returns-in_err-push-clause-memory g c =
    let m : Rules _ _ _ _ _ = record { next = g.M.Machine.next; answer = g.M.Machine.answer; number = g.M.Machine.number } in
    let both = both-more m _ _ _ _ _ _ c.in-Some.event _ c.loop-event.invariant.dones c.loop-event.invariant.world c.in_ok-done.ensures.told c.in_ok-done.ensures.world refl in
    let moves = one-moves c.loop-event.yielded c.loop-event.event-iterator.rest.items c.next.new.self.rest.items c.args.events c.in-Some.event c.loop-event.invariant.events c.in-Some.ensures.steps.0 in
    on_err c.from_residual-in_err-push.result _ (c.loop-event.yielded ++ c.in-Some.event ∷ [], c.next.new.self.rest.items, sym moves, both.1)
