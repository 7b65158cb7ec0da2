use Rattle.std.proofs.Common.{◌∙◌, sym, ap}
use Rattle.journal_replay.specs.Recorded.{Replay}
use Rattle.journal_replay.specs.Replayed.{reading_of}
use Rattle.journal_start.proofs.Beginning.{same_begins}
use Rattle.journal_start.proofs.begin.begin_judged.Goals as goal

pub returns-in-Same-clause-begins : goal.returns-in-Same-clause-begins
returns-in-Same-clause-begins g c t old before stood stands good =
    let reading = reading_of g.F.JournalCode.root_codec g.F.JournalCode.record_codec g.M.Restarts.opening g.M.Machine.next g.M.Restarts.adopt in
    let judged = g.R.PeopleRule.judged in
    let is = ap (λ (r : Replay _ _). judged r.people c.args.root.people) (sym c.so_far.view_is) ∙ (sym c.judge.ensures ∙ c.in-Same.is) in
    same_begins reading c.args.root judged c.args.so_far before old (g.K.Disk.told c.args.journal.disk).file.seen stood stands good is

pub returns-in-Changed-clause-begins : goal.returns-in-Changed-clause-begins
returns-in-Changed-clause-begins g c t old before stood stands good =
    let judged = g.R.PeopleRule.judged in
    let is = ap (λ (r : Replay _ _). judged r.people c.args.root.people) (sym c.so_far.view_is) ∙ (sym c.judge.ensures ∙ c.in-Changed.is) in
    c.begin_changed.ensures.begins t judged old before is stood stands good

pub returns-in-Refused-clause-stops : goal.returns-in-Refused-clause-stops
returns-in-Refused-clause-stops g c t old before stood good = record {
  replay = c.args.so_far;
  stands = record { payloads = before; stands = stood; replays = good };
  people_are = sym (ap (λ (r : Replay _ _). r.people) c.so_far.view_is);
  refused = sym c.judge.ensures ∙ c.in-Refused.is;
}
