use Rattle.std.proofs.Common.{◌++◌, subst, sym, arith, inr}
use Rattle.disk.specs.Crashes.{LeavesSince}
use Rattle.journal_file.specs.Records.{StandsFor, IsBeforeOrAfter}
use Rattle.journal_file.specs.Told.{JournalTold}
use Rattle.journal_file.proofs.One.{rests_after_those}
use Rattle.journal_file.proofs.journal.Journal.put_frame.Goals as goal

pub invariant_of-result : goal.invariant_of-result
invariant_of-result g c = (
  omega (arith, c.in-Ok.ensures.ends, c.requires.long),
  λ t.
      let rests = c.self.invariant.1 t in
      (rests.0 ++ c.requires.frame.0, c.in-Ok.ensures.rests t rests.0 c.requires.frame.0 rests.1 c.requires.frame.1),
)

pub returns-in-Ok-clause-any_moment : goal.returns-in-Ok-clause-any_moment
returns-in-Ok-clause-any_moment g c t before new stands is =
    let told = g.K.Disk.told in
    let rests = c.self.invariant.1 t in
    let here = rests_after_those before rests.0 c.self.inside.gate (told c.self.inside.disk).file rests.1 (subst (λ (j : JournalTold g.row.K.Denot). StandsFor before (told j.disk).file.seen) (sym c.self.view_is) stands) in
    subst (λ (j : JournalTold g.row.K.Denot). LeavesSince (IsBeforeOrAfter before new) (told j.disk) (told c.append.new.disk)) c.self.view_is (c.append.ensures.any_moment t before new here is)

pub returns-in-Ok-clause-stands : goal.returns-in-Ok-clause-stands
returns-in-Ok-clause-stands g c t before new stands is =
    let told = g.K.Disk.told in
    let rests = c.self.invariant.1 t in
    let here = rests_after_those before rests.0 c.self.inside.gate (told c.self.inside.disk).file rests.1 (subst (λ (j : JournalTold g.row.K.Denot). StandsFor before (told j.disk).file.seen) (sym c.self.view_is) stands) in
    inr (c.in-Ok.ensures.rests t before new here is).is_closed

pub returns-in-Err-clause-any_moment : goal.returns-in-Err-clause-any_moment
returns-in-Err-clause-any_moment g c t before new stands is =
    let told = g.K.Disk.told in
    let rests = c.self.invariant.1 t in
    let here = rests_after_those before rests.0 c.self.inside.gate (told c.self.inside.disk).file rests.1 (subst (λ (j : JournalTold g.row.K.Denot). StandsFor before (told j.disk).file.seen) (sym c.self.view_is) stands) in
    subst (λ (j : JournalTold g.row.K.Denot). LeavesSince (IsBeforeOrAfter before new) (told j.disk) (told c.append.new.disk)) c.self.view_is (c.append.ensures.any_moment t before new here is)
