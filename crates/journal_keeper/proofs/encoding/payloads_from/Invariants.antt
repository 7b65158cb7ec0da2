use Rattle.std.proofs.Common.{◌≡◌, ◌-◌, ◌≤◌, ◌++◌, drop, length}
use Rattle.journal_keeper.specs.Recorded.{payloads, HaveCodes}
use Rattle.journal_keeper.proofs.encoding.payloads_from.Given as goal

abbrev pub invariant-places : goal.invariant-places
invariant-places g l = record {
  within : l.place ≤ length l.version.journal;
  are : l.all ++ payloads g.F.EntryCode.codec l.offset (drop l.place l.version.journal) ≡ payloads g.F.EntryCode.codec l.offset (drop l.from l.version.journal);
  have_codes : HaveCodes g.F.EntryCode.codec l.offset (drop l.place l.version.journal) → HaveCodes g.F.EntryCode.codec l.offset (drop l.from l.version.journal);
}

abbrev pub decreases-places : goal.decreases-places
decreases-places g l = length l.version.journal - l.place
