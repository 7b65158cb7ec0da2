use Rattle.journal_replay.specs.Replayed.{reading_of}
use Rattle.journal_start.specs.declared.meeting.Meeting.TheVariants.{Same, Changed}
use Rattle.journal_laws.proofs.Left.{goes_on}
use Rattle.journal_laws.proofs.runs.next_run_goes_on.Goals as goal

pub returns-clause-same : goal.returns-clause-same
returns-clause-same g c read judged root later under others old begun now old' begun' state state' offset offset' sure h unkept only absorbs run legal kept may next same =
    let reading = reading_of g.F.JournalCode.root_codec g.F.JournalCode.record_codec g.M.Restarts.opening g.M.Machine.next g.M.Restarts.adopt in
    goes_on reading judged root under old begun now state offset run others absorbs Same later.people state' h sure old'.file.seen
    (λ r stands met. (c.run_begins_with_replay.ensures.same judged later others old' begun' state' offset' r stands next met).0) same
    unkept (c.run_leaves_replay.ensures read judged root under old begun now state offset sure h unkept only run legal kept) may

pub returns-clause-changed : goal.returns-clause-changed
returns-clause-changed g c read judged root later under others old begun now old' begun' state state' offset offset' sure h unkept only absorbs run legal kept may next other =
    let reading = reading_of g.F.JournalCode.root_codec g.F.JournalCode.record_codec g.M.Restarts.opening g.M.Machine.next g.M.Restarts.adopt in
    goes_on reading judged root under old begun now state offset run (λ s. others (g.M.Restarts.adopt s later.people)) absorbs Changed later.people state' h sure old'.file.seen
    (λ r stands met. (c.run_begins_with_replay.ensures.changed judged later others old' begun' state' offset' r stands next met).0) other
    unkept (c.run_leaves_replay.ensures read judged root under old begun now state offset sure h unkept only run legal kept) may
