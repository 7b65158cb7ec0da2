use Rattle.std.proofs.Common.{rules, sym, subst}
use Rattle.disk.specs.Disks.{Torn}
use Rattle.crash_disk.specs.CrashDisks.{CrashDiskTold}
use Rattle.crash_disk.proofs.crash_disk.CrashDisk.tear.Goals as goal

pub returns-clause-ok : goal.returns-clause-ok
returns-clause-ok c = rw (← c.self.view_is) record {
  seen = subst (λ (d : CrashDiskTold). Torn c.args.at c.args.len c.self.inside.file.seen d.disk.file.seen) (sym c.in_ok-go_on.ensures.ok) c.in_ok-next.ensures.torn;
  synced = search rules;
  written = search rules;
  past = search rules;
}
