use Rattle.std.proofs.Common.{ℕ, List, IfOk, Result, Ok, Err, inr, sym, subst}
use Rattle.disk.specs.Disks.{FileTold, DiskTold, IsUnchanged}
use Rattle.journal_file.specs.Records.{StandsFor, IsAsBefore, IsClosedAfter, IsClosedAt}
use Rattle.journal_file.specs.Told.{JournalTold}
use Rattle.journal_file.specs.Journals.{disk_opened}
use Rattle.journal_file.proofs.One.{stood_before}
use Rattle.journal_file.proofs.journal.Journal.open.Goals as goal

-- where the file stayed as it was once it was ready, it stands for the payloads, and so did the file before
both_stand : {K E : Type 0} (told : K → DiskTold) (before : List ℕ) (now : DiskTold) (result : Result (JournalTold K × List (List ℕ)) (E × K)) → IsAsBefore before now.file.seen
    → IfOk result (λ x. IsClosedAt x.1 x.0.end now.file.seen) → IsUnchanged now (told (disk_opened result))
    → IfOk result (λ x. StandsFor x.1 before × StandsFor x.1 (told x.0.disk).file.seen)
both_stand told before now (Ok x) same closed unchanged = (
  stood_before x.1 before now.file.seen (inr closed.is_closed) same,
  inr (subst (λ (f : FileTold). IsClosedAfter x.1 f.seen) (sym unchanged.file) closed.is_closed),
)
both_stand told before now (Err x) same closed unchanged = tt

pub returns-in-Ok-clause-stands : goal.returns-in-Ok-clause-stands
returns-in-Ok-clause-stands g c t =
    let told = g.K.Disk.told in
    both_stand told (told c.args.disk).file.seen (told c.in-Ok.opening.disk) c.open_whole.result (c.in-Ok.ensures.as_before t) (c.open_whole.ensures.closed t (c.in-Ok.ensures.begins t)) (c.open_whole.ensures.file t)
