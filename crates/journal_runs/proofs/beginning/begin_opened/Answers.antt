use Rattle.std.proofs.Common.{sym, subst}
use Rattle.outside.specs.Outside.{Rose}
use Rattle.disk.specs.Crashes.{LeavesSince}
use Rattle.journal_file.specs.Records.{IsAsBefore}
use Rattle.journal_replay.specs.Replayed.{reading_of}
use Rattle.journal_start.specs.Starting.{IsLeftByStart}
use Rattle.journal_runs.proofs.Begun.{opened_begun, opened_stops, stop_is, untouched_where, no_fault_where}
use Rattle.journal_runs.proofs.beginning.begin_opened.Goals as goal

pub returns-in-Ok-clause-begun : goal.returns-in-Ok-clause-begun
returns-in-Ok-clause-begun g c t =
    let reading = reading_of g.F.JournalCode.root_codec g.F.JournalCode.record_codec g.M.Restarts.opening g.M.Machine.next g.M.Restarts.adopt in
    let told = g.K.Disk.told in
    opened_begun reading g.R.PeopleRule.judged c.args.root told (g.L.LimitsOf.under c.args.limits) (told c.args.disk) c.in-Ok.started c.begin_over.result c.begin_over.ensures.disk
    (c.in-Ok.ensures.begins t) (c.in-Ok.ensures.any_moment t) c.begin_over.ensures.state c.begin_over.ensures.offset

pub returns-in-Ok-clause-stops : goal.returns-in-Ok-clause-stops
returns-in-Ok-clause-stops g c t =
    let reading = reading_of g.F.JournalCode.root_codec g.F.JournalCode.record_codec g.M.Restarts.opening g.M.Machine.next g.M.Restarts.adopt in
    let told = g.K.Disk.told in
    opened_stops reading g.R.PeopleRule.judged c.args.root told (g.L.LimitsOf.under c.args.limits) (told c.args.disk) c.in-Ok.started c.begin_over.result c.begin_over.ensures.disk
    (c.in-Ok.ensures.begins t) c.begin_over.ensures.stops

pub returns-in-Ok-clause-any_moment : goal.returns-in-Ok-clause-any_moment
returns-in-Ok-clause-any_moment g c t =
    let reading = reading_of g.F.JournalCode.root_codec g.F.JournalCode.record_codec g.M.Restarts.opening g.M.Machine.next g.M.Restarts.adopt in
    let told = g.K.Disk.told in
    subst (λ (d : g.row.K.Denot). LeavesSince (IsLeftByStart reading c.args.root (told c.args.disk).file.seen) (told c.args.disk) (told d)) (sym c.begin_over.ensures.disk) (c.in-Ok.ensures.any_moment t)

pub returns-in-Ok-clause-untouched : goal.returns-in-Ok-clause-untouched
returns-in-Ok-clause-untouched g c t =
    let told = g.K.Disk.told in
    untouched_where (λ (d : g.row.K.Denot). LeavesSince (IsAsBefore (told c.args.disk).file.seen) (told c.args.disk) (told d)) c.in-Ok.started.so_far.sessions c.begin_over.result c.begin_over.ensures.stops

pub returns-in-Ok-clause-fault : goal.returns-in-Ok-clause-fault
returns-in-Ok-clause-fault g c =
    let told = g.K.Disk.told in
    no_fault_where (λ (d : g.row.K.Denot). Rose (told c.args.disk).faults (told d).faults) c.in-Ok.started.so_far.sessions c.begin_over.result c.begin_over.ensures.stops

pub returns-in-Err-clause-fault : goal.returns-in-Err-clause-fault
returns-in-Err-clause-fault g c is = c.in-Err.ensures.fault (stop_is c.in-Err.stop _ is)
