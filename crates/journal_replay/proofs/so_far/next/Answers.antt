use Rattle.std.proofs.Common.{subst}
use Rattle.byte_codec.specs.Payloads.{Encodes}
use Rattle.journal_replay.specs.declared.record.Record.{Record}
use Rattle.journal_replay.specs.declared.record.Record.TheVariants.{Changed}
use Rattle.journal_replay.specs.Replayed.{reading_of}
use Rattle.journal_replay.specs.OneMore.{one_more}
use Rattle.journal_replay.proofs.Replaying.{entry_taken, entry_refused}
use Rattle.journal_replay.proofs.so_far.next.Goals as goal

pub returns-in-Ok-Written-clause-replays : goal.returns-in-Ok-Written-clause-replays
returns-in-Ok-Written-clause-replays g c before so =
    let codec = g.F.JournalCode.record_codec in
    let is = subst (λ (r : Record _ _). Encodes codec r c.args.bytes.now) c.in-Ok-Written.field-0-is c.in-Ok-Written.ensures in
    entry_taken (reading_of g.F.JournalCode.root_codec codec g.M.Restarts.opening g.M.Machine.next g.M.Restarts.adopt) before c.args.so_far c.args.bytes.now c.in-Ok-Written.entry c.with_entry.result is c.with_entry.ensures.sound c.with_entry.ensures.went so

pub returns-in-Ok-Written-clause-stopped : goal.returns-in-Ok-Written-clause-stopped
returns-in-Ok-Written-clause-stopped g c =
    let codec = g.F.JournalCode.record_codec in
    let is = subst (λ (r : Record _ _). Encodes codec r c.args.bytes.now) c.in-Ok-Written.field-0-is c.in-Ok-Written.ensures in
    entry_refused (reading_of g.F.JournalCode.root_codec codec g.M.Restarts.opening g.M.Machine.next g.M.Restarts.adopt) c.args.so_far c.args.bytes.now c.in-Ok-Written.entry c.with_entry.result is c.with_entry.ensures.refused

pub returns-in-Ok-clause-replays : goal.returns-in-Ok-clause-replays
returns-in-Ok-clause-replays g c before so =
    let codec = g.F.JournalCode.record_codec in
    let is = subst (λ (r : Record _ _). Encodes codec r c.args.bytes.now) c.in-Ok-Changed.field-0-is c.in-Ok-Changed.ensures in
    one_more (reading_of g.F.JournalCode.root_codec codec g.M.Restarts.opening g.M.Machine.next g.M.Restarts.adopt) before c.args.so_far c.in-Ok.so_far c.args.bytes.now (Changed c.in-Ok-Changed.people) is tt c.in-Ok.ensures so
