use Rattle.std.specs.Prelude.{◌≡◌, ◌≤◌}
use Rattle.std.specs.List.{range_with_len}
use Rattle.load_sessions.proofs.numbers.numbers.Given as goal

abbrev pub invariant-loop-i : goal.invariant-loop-i
invariant-loop-i l = (l.all.items ≡ range_with_len l.first l.i) × (l.i ≤ l.count)
