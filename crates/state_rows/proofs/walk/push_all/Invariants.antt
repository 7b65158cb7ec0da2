use Rattle.std.proofs.Common.{◌≡◌, ◌++◌, take}
use Rattle.state_rows.proofs.walk.push_all.Given as goal

abbrev pub invariant-loop-number : goal.invariant-loop-number
invariant-loop-number l = l.all ≡ l.initial.all ++ take l.number-index l.number-items
