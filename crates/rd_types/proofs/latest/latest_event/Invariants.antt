use Rattle.std.proofs.Common.{◌≡◌, ◌-◌}
use Rattle.rd_types.specs.Latest.{latest_in}
use Rattle.rd_types.proofs.latest.latest_event.Given as goal

abbrev pub invariant-loop-i : goal.invariant-loop-i
invariant-loop-i l = latest_in l.state l.user l.count ≡ latest_in l.state l.user (l.count - l.i)
