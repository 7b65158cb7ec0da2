use denote.Param.Send.{sendable}
use Rattle.std.proofs.Common.{subst}
use Rattle.desk_model.specs.declared.keeper.Nowhere.{Nowhere}
use Rattle.cmis_spec.specs.Repository.{Repository}
use Rattle.desk_serve.specs.Sessions.{Closed}
use Rattle.cmis_program.specs.Kinds.{kind_of}
use Rattle.cmis_program.specs.Alike.{RepliesOfSeen}
use Rattle.cmis_runs.proofs.AllKept.{all_kept}
use Rattle.cmis_program.proofs.Moments.{of_first_word}
use Rattle.share_laws.proofs.Crosses.{State-send, State-sync}
use Rattle.cmis_runs.proofs.many.serve.Goals as goal

pub returns-in-Ok-clause-served : goal.returns-in-Ok-clause-served
returns-in-Ok-clause-served g c = record {
  root = c.moment_of_word-root.result;
  begins = of_first_word _ _ _ _ c.moment_of_word-root.ensures.value c.now.ensures.word;
  sure = c.in-Ok.ensures.closed.sure;
  closed = subst (λ (o : Repository). Closed (record { kind = (kind_of g.P.Face.Machine.next g.P.Face.Machine.answer g.P.Face.Machine.number g.P.Face.Served.call g.P.Face.Served.user g.P.Face.Served.least g.P.Face.Served.closes); source = g.H.Link.Source.told; sink = g.H.Link.Sink.told; faults = λ (k : Nowhere). 0; users = c.args.asked.users; links = g.H.Host.left c.args.host.now }) o c.in-Ok.closing.last c.in-Ok.ensures.closed.sure c.in-Ok.closing.ended)
      c.in_ok-opening.ensures c.in-Ok.ensures.closed.closed;
  kept = all_kept _ _ _ _ _ c.in-Ok.ensures.closed.closed c.nowhere_keeps_all.ensures;
  alike = subst (RepliesOfSeen (kind_of g.P.Face.Machine.next g.P.Face.Machine.answer g.P.Face.Machine.number g.P.Face.Served.call g.P.Face.Served.user g.P.Face.Served.least g.P.Face.Served.closes)) c.in_ok-opening.ensures (c.replies_of_seen.ensures c.in_ok-opening.opening c.step-step.ensures.well);
}

pub serve-requires-send-M-State : goal.serve-requires-send-M-State
serve-requires-send-M-State g c = search (State-send, sendable) depth 40

pub serve-requires-sync-M-State : goal.serve-requires-sync-M-State
serve-requires-sync-M-State g c = search (State-sync, sendable) depth 40
