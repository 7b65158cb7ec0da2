use Rattle.std.proofs.Common.{ℕ, List, IfOk, IfErr, subst}
use Rattle.disk.specs.Disks.{FileTold}
use Rattle.disk.specs.Crashes.{LeavesSince}
use Rattle.journal_file.specs.Records.{IsAsBefore}
use Rattle.journal_replay.specs.Replayed.{reading_of}
use Rattle.journal_start.specs.Starting.{IsLeftByStart}
use Rattle.journal_runs.specs.Begins.{StopsRun, disk_of_run}
use Rattle.journal_runs.proofs.Begun.{all_before, untouched_before, since_same}
use Rattle.journal_runs.proofs.beginning.begin.Goals as goal

pub returns-in-Ok-clause-begun : goal.returns-in-Ok-clause-begun
returns-in-Ok-clause-begun g c t =
    let reading = reading_of g.F.JournalCode.root_codec g.F.JournalCode.record_codec g.M.Restarts.opening g.M.Machine.next g.M.Restarts.adopt in
    let told = g.K.Disk.told in
    all_before reading g.R.PeopleRule.judged c.args.root told (g.L.LimitsOf.under c.args.limits) (told c.args.disk) (told c.begin.new.self) c.begin_opened.result (c.begin.ensures.file t) (c.begin_opened.ensures.begun t)

pub returns-in-Ok-clause-stops : goal.returns-in-Ok-clause-stops
returns-in-Ok-clause-stops g c t =
    let reading = reading_of g.F.JournalCode.root_codec g.F.JournalCode.record_codec g.M.Restarts.opening g.M.Machine.next g.M.Restarts.adopt in
    let told = g.K.Disk.told in
    subst (λ (f : FileTold). IfErr c.begin_opened.result (λ x. StopsRun reading g.R.PeopleRule.judged c.args.root f.seen (told x.1).file.seen x.0)) (c.begin.ensures.file t).file (c.begin_opened.ensures.stops t)

pub returns-in-Ok-clause-any_moment : goal.returns-in-Ok-clause-any_moment
returns-in-Ok-clause-any_moment g c t =
    let reading = reading_of g.F.JournalCode.root_codec g.F.JournalCode.record_codec g.M.Restarts.opening g.M.Machine.next g.M.Restarts.adopt in
    let told = g.K.Disk.told in
    since_same (λ (file : List ℕ). IsLeftByStart reading c.args.root file) (told c.args.disk) (told c.begin.new.self) (told (disk_of_run c.begin_opened.result)) (c.begin.ensures.file t) (c.begin_opened.ensures.any_moment t)

pub returns-in-Ok-clause-untouched : goal.returns-in-Ok-clause-untouched
returns-in-Ok-clause-untouched g c t =
    let told = g.K.Disk.told in
    untouched_before told (told c.args.disk) (told c.begin.new.self) c.begin_opened.result (c.begin.ensures.file t) (c.begin_opened.ensures.untouched t)
