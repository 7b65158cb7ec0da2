use Rattle.std.proofs.Common.{◌≡◌, ◌<◌}
use Rattle.talk.specs.Served.{wire_of}
use Rattle.talk.proofs.WireLaws.{GrammarLaws}
use Rattle.talk.proofs.SoFar.{SoFar, steps_left}
use Rattle.talk.specs.Requests.{most_requests}
use Rattle.talk.proofs.session.talk.Given as goal

abbrev pub invariant-steps : goal.invariant-steps
invariant-steps g l = record {
  laws : GrammarLaws;
  aside : g.D.Desk.aside l.desk ≡ g.D.Desk.aside l.fn.desk;
  place : g.D.Desk.place l.pass ≡ g.D.Desk.place l.fn.pass;
  is_of : g.D.Desk.is_of l.desk l.pass;
  few : l.count < most_requests;
  stands_for : g.L.Link.stands_for l.link ≡ g.L.Link.stands_for l.fn.link;
  so_far : SoFar (record { next = g.D.Kind.Machine.next; answer = g.D.Kind.Machine.answer; number = g.D.Kind.Machine.number; call = g.D.Kind.Served.call; wire = wire_of g.D.Kind.Served.user g.D.Kind.Served.least g.D.Kind.Served.closes })
      l.users (g.D.Desk.known l.fn.pass) (g.D.Desk.words l.fn.desk) (g.L.Source.told l.fn.link) (g.L.Sink.told l.fn.link)
      (record { known = g.D.Desk.known l.pass; sure = g.D.Desk.sure l.pass; words = g.D.Desk.words l.desk; count = l.count }) l.buffer.answered l.buffer.bytes (g.L.Source.told l.link) (g.L.Sink.told l.link);
}

abbrev pub decreases-steps : goal.decreases-steps
decreases-steps g l = steps_left l.count l.buffer.answered
