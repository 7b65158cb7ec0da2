use Rattle.std.proofs.Common.{◌≡◌, ◌++◌}
use Rattle.ql_bind.proofs.select.append.Given as goal

abbrev pub invariant-loop-column : goal.invariant-loop-column
invariant-loop-column l = l.all ≡ l.initial.all ++ l.yielded
