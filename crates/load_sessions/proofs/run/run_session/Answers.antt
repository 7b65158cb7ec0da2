use Rattle.std.specs.Prelude.{Some, [], if◌then◌else◌}
use Rattle.std.proofs.Common.{ap, ◌∙◌}
use Rattle.talk.specs.Served.{wire_of}
use Rattle.load_sessions.proofs.Leading.{leading}
use Rattle.load_sessions.proofs.run.run_session.Goals as goal

pub returns-then-is_final : goal.returns-then-is_final
returns-then-is_final g c =
    leading (record { next = g.M.Machine.next; answer = g.M.Machine.answer; number = g.M.Machine.number; call = g.M.Served.call; wire = wire_of g.M.Served.user g.M.Served.least g.M.Served.closes })
    c.args.opening c.args.users.now c.args.numbers.now _ _ _ _ _ _ c.in_ok-ended.ended.last _
    c.in_ok-ended.ensures.ran
    (ap Some c.in_ok-clock.ensures)
    (ap (λ s. Some (if s.ended then [] else s.left)) c.in_ok-link.ensures.source ∙ ap Some (c.deref.ensures.value ∙ c.in_ok-input.ensures))
    (c.is_final.ensures c.if-is_final.true)
    c.in_ok-ended.ensures.opening
