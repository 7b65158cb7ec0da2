use Rattle.std.proofs.Common.{◌≤◌, List, ℕ, [], ◌∷◌, ◌++◌, subst, sym, ap, ◌∙◌, arith, Ok}
use Rattle.disk.specs.Disks.{FileTold}
use Rattle.journal_file.specs.declared.opening.Next.{Next}
use Rattle.journal_file.specs.declared.opening.Next.TheVariants.{Payload}
use Rattle.journal_file.specs.declared.open_stop.OpenStop.{OpenStop}
use Rattle.journal_file.specs.Nexts.{GoesOn, disk_next}
use Rattle.journal_replay.specs.Recorded.{Replay}
use Rattle.journal_replay.specs.Replayed.{reading_of, Replays, IsStoppedBehind}
use Rattle.journal_replay.specs.Starts.{StopsAt, stop_behind}
use Rattle.journal_replay.specs.declared.start_stop.StartStop.{StartStop}
use Rattle.journal_replay.proofs.Starting.{still_same, stops_behind, stops_reading, same_now, read_on}
use Rattle.journal_replay.proofs.begun.replay_rest.Goals as goal

pub returns-in-Err-next-clause-stops : goal.returns-in-Err-next-clause-stops
returns-in-Err-next-clause-stops g c t =
    let reading = reading_of g.F.JournalCode.root_codec g.F.JournalCode.record_codec g.M.Restarts.opening g.M.Machine.next g.M.Restarts.adopt in
    let file = (g.K.Disk.told c.records.opening.disk).file.seen in
    let b = c.records.invariant.begins t in
    let read = c.in-Payload in
    let more = subst (λ (x : Next _). GoesOn b.payloads file x) read.is (c.in-Ok.ensures.next t b.payloads b.begins) in
    let stopped = subst (λ (bytes : List ℕ). IsStoppedBehind reading c.records.so_far bytes c.in-Err-next.stop) c.deref.ensures.value c.in-Err-next.ensures.stopped in
    subst (λ (f : FileTold). StopsAt reading f.seen c.in-Err-next.stop) (c.records.invariant.file t).file
    (stops_behind reading file read.bytes.items c.records.opening.place read.rest.place c.records.so_far c.in-Err-next.stop b more stopped)

pub records-preserved : goal.records-preserved
records-preserved g c =
    let reading = reading_of g.F.JournalCode.root_codec g.F.JournalCode.record_codec g.M.Restarts.opening g.M.Machine.next g.M.Restarts.adopt in
    let old = g.K.Disk.told c.records.opening.disk in
    let read = c.in-Payload in
    let this = Payload read.field-0 read.bytes read.rest in
    record {
      begins = λ t.
          let b = c.records.invariant.begins t in
          record {
            payloads = b.payloads ++ read.bytes.items ∷ [];
            begins = read_on OpenStop g.K.Disk.told b.payloads old c.in-Ok.item this (c.in-Ok.ensures.next t b.payloads b.begins) read.is (c.in-Ok.ensures.file t);
            replays = subst (λ (bytes : List ℕ). Replays reading (b.payloads ++ bytes ∷ []) c.in-Ok-next.more) c.deref.ensures.value (c.in-Ok-next.ensures.replays b.payloads b.replays);
          };
      file = λ t. still_same (g.K.Disk.told c.args.opening.disk) old (g.K.Disk.told read.rest.disk) (c.records.invariant.file t)
          (same_now OpenStop g.K.Disk.told old c.in-Ok.item this read.is (c.in-Ok.ensures.file t));
      stands_for = ap (λ (x : Next _). g.K.Disk.stands_for (disk_next {E = OpenStop} (Ok x))) (sym read.is) ∙ (c.in-Ok.ensures.stands_for ∙ c.records.invariant.stands_for);
      later = omega (c.records.invariant.later, subst (λ (x : Next _). old.faults ≤ (g.K.Disk.told (disk_next {E = OpenStop} (Ok x))).faults) read.is c.in-Ok.ensures.later, arith);
    }

pub returns-in-Err-clause-stops : goal.returns-in-Err-clause-stops
returns-in-Err-clause-stops g c t =
    let reading = reading_of g.F.JournalCode.root_codec g.F.JournalCode.record_codec g.M.Restarts.opening g.M.Machine.next g.M.Restarts.adopt in
    let file = (g.K.Disk.told c.records.opening.disk).file.seen in
    let b = c.records.invariant.begins t in
    let stop_is = c.stop_at.ensures ∙ ap (λ (replay : Replay _ _). stop_behind c.in-Err.stop replay.entries) c.so_far.view_is in
    subst (λ (f : FileTold). StopsAt reading f.seen c.stop_at.result) (c.records.invariant.file t).file
    (subst (λ (stop : StartStop). StopsAt reading file stop) (sym stop_is)
    (stops_reading reading file b.payloads c.records.so_far c.in-Err.stop b.replays (c.in-Err.ensures.damaged t b.payloads b.begins)))
