use Rattle.std.proofs.Common.{◌≡◌}
use Rattle.rd_log.specs.EventsIn.{events_in}
use Rattle.rd_log.specs.ReadChanges.{changes_reply}
use Rattle.rd_log.proofs.changes.gathered.Given as goal

abbrev pub invariant-loop-before : goal.invariant-loop-before
invariant-loop-before l = l.reply ≡ changes_reply l.q (events_in l.state l.user l.q.token l.before)
