use Rattle.std.proofs.Common.{List, ℕ, [], ◌∷◌, subst}
use Rattle.journal_file.specs.declared.opening.Next.{Next}
use Rattle.journal_file.specs.declared.opening.Next.TheVariants.{Payload}
use Rattle.journal_file.specs.declared.open_stop.OpenStop.{OpenStop}
use Rattle.journal_file.specs.Nexts.{GoesOn}
use Rattle.journal_replay.specs.Replayed.{reading_of, Replays}
use Rattle.journal_replay.proofs.Starting.{none_stand, read_on}
use Rattle.journal_replay.proofs.begun.begun_at.Goals as goal

pub replay_rest-requires : goal.replay_rest-requires
replay_rest-requires g c t =
    let reading = reading_of g.F.JournalCode.root_codec g.F.JournalCode.record_codec g.M.Restarts.opening g.M.Machine.next g.M.Restarts.adopt in
    let old = g.K.Disk.told c.args.opening.disk in
    let read = c.in-Payload in
    record {
      payloads = read.bytes.items ∷ [];
      begins = read_on OpenStop g.K.Disk.told [] old c.in-Ok.item (Payload read.field-0 read.bytes read.rest) (c.in-Ok.ensures.next t [] (c.requires t)) read.is (c.in-Ok.ensures.file t);
      replays = subst (λ (bytes : List ℕ). Replays reading (bytes ∷ []) c.in-Ok-first.so_far) c.deref.ensures.value c.in-Ok-first.ensures.replays;
    }

pub returns-in-Ok-clause-starts : goal.returns-in-Ok-clause-starts
returns-in-Ok-clause-starts g c t =
    let file = (g.K.Disk.told c.args.opening.disk).file.seen in
    none_stand file c.in-End.journal.end (subst (λ (x : Next _). GoesOn [] file x) c.in-End.is (c.in-Ok.ensures.next t [] (c.requires t)))
