use Rattle.std.proofs.Common.{subst}
use Rattle.std.specs.Prelude.{Ok}
use Rattle.disk.specs.Crashes.{LeavesSince}
use Rattle.journal_file.specs.Records.{IsAsBefore}
use Rattle.journal_replay.specs.declared.begun.Begun.{Begun}
use Rattle.journal_replay.specs.Replayed.{reading_of}
use Rattle.journal_replay.specs.Starts.{StartsWith, disk_started}
use Rattle.journal_start.proofs.Beginning.{moments_join, moments_same}
use Rattle.journal_start.specs.Starting.{disk_begun}
use Rattle.journal_start.proofs.begin.begin_journal.Goals as goal

pub returns-in-Empty-clause-begins : goal.returns-in-Empty-clause-begins
returns-in-Empty-clause-begins g c t =
    let reading = reading_of g.F.JournalCode.root_codec g.F.JournalCode.record_codec g.M.Restarts.opening g.M.Machine.next g.M.Restarts.adopt in
    let told = g.K.Disk.told in
    let old = (told c.args.disk).file.seen in
    c.begin_fresh.ensures.begins t g.R.PeopleRule.judged old
    (subst (λ (b : Begun _ _). StartsWith reading b old) c.in-Empty.is (c.in-Ok.ensures.starts t))
    (subst (λ (b : Begun _ _). StartsWith reading b (told (disk_started (Ok b))).file.seen) c.in-Empty.is (c.in-Ok.ensures.seen t))

pub returns-in-Empty-clause-any_moment : goal.returns-in-Empty-clause-any_moment
returns-in-Empty-clause-any_moment g c t =
    let reading = reading_of g.F.JournalCode.root_codec g.F.JournalCode.record_codec g.M.Restarts.opening g.M.Machine.next g.M.Restarts.adopt in
    let told = g.K.Disk.told in
    let old = (told c.args.disk).file.seen in
    let read = subst (λ (b : Begun _ _). LeavesSince (IsAsBefore old) (told c.args.disk) (told (disk_started (Ok b)))) c.in-Empty.is (c.in-Ok.ensures.any_moment t) in
    moments_join reading c.args.root old (told c.args.disk) (told c.in-Empty.journal.disk) (told (disk_begun c.begin_fresh.result)) read
    (c.begin_fresh.ensures.any_moment t old
    (subst (λ (b : Begun _ _). StartsWith reading b old) c.in-Empty.is (c.in-Ok.ensures.starts t))
    (subst (λ (b : Begun _ _). StartsWith reading b (told (disk_started (Ok b))).file.seen) c.in-Empty.is (c.in-Ok.ensures.seen t)))

pub returns-in-Replayed-clause-begins : goal.returns-in-Replayed-clause-begins
returns-in-Replayed-clause-begins g c t =
    let reading = reading_of g.F.JournalCode.root_codec g.F.JournalCode.record_codec g.M.Restarts.opening g.M.Machine.next g.M.Restarts.adopt in
    let told = g.K.Disk.told in
    let old = (told c.args.disk).file.seen in
    let start = subst (λ (b : Begun _ _). StartsWith reading b old) c.in-Replayed.is (c.in-Ok.ensures.starts t) in
    let same = subst (λ (b : Begun _ _). IsAsBefore old (told (disk_started (Ok b))).file.seen) c.in-Replayed.is (c.in-Ok.ensures.as_before t) in
    let now = c.as_before.ensures.stands start.payloads old (told c.in-Replayed.journal.disk).file.seen start.stands same in
    c.begin_judged.ensures.begins t old start.payloads start.stands now start.replays

pub returns-in-Replayed-clause-stops : goal.returns-in-Replayed-clause-stops
returns-in-Replayed-clause-stops g c t =
    let reading = reading_of g.F.JournalCode.root_codec g.F.JournalCode.record_codec g.M.Restarts.opening g.M.Machine.next g.M.Restarts.adopt in
    let told = g.K.Disk.told in
    let old = (told c.args.disk).file.seen in
    let start = subst (λ (b : Begun _ _). StartsWith reading b old) c.in-Replayed.is (c.in-Ok.ensures.starts t) in
    c.begin_judged.ensures.stops t old start.payloads start.stands start.replays

pub returns-in-Replayed-clause-any_moment : goal.returns-in-Replayed-clause-any_moment
returns-in-Replayed-clause-any_moment g c t =
    let reading = reading_of g.F.JournalCode.root_codec g.F.JournalCode.record_codec g.M.Restarts.opening g.M.Machine.next g.M.Restarts.adopt in
    let told = g.K.Disk.told in
    let old = (told c.args.disk).file.seen in
    let start = subst (λ (b : Begun _ _). StartsWith reading b old) c.in-Replayed.is (c.in-Ok.ensures.starts t) in
    let same = subst (λ (b : Begun _ _). IsAsBefore old (told (disk_started (Ok b))).file.seen) c.in-Replayed.is (c.in-Ok.ensures.as_before t) in
    let now = c.as_before.ensures.stands start.payloads old (told c.in-Replayed.journal.disk).file.seen start.stands same in
    let read = subst (λ (b : Begun _ _). LeavesSince (IsAsBefore old) (told c.args.disk) (told (disk_started (Ok b)))) c.in-Replayed.is (c.in-Ok.ensures.any_moment t) in
    moments_join reading c.args.root old (told c.args.disk) (told c.in-Replayed.journal.disk) (told (disk_begun c.begin_judged.result)) read
    (c.begin_judged.ensures.any_moment t old start.payloads start.stands now start.replays)

pub returns-in-Err-clause-any_moment : goal.returns-in-Err-clause-any_moment
returns-in-Err-clause-any_moment g c t =
    let reading = reading_of g.F.JournalCode.root_codec g.F.JournalCode.record_codec g.M.Restarts.opening g.M.Machine.next g.M.Restarts.adopt in
    let told = g.K.Disk.told in
    moments_same reading c.args.root (told c.args.disk).file.seen (told c.args.disk) (told c.in-Err.disk) (c.in-Err.ensures.any_moment t)
