use Rattle.std.proofs.Common.{◌≡◌, map, take}
use Rattle.cm_removal.specs.Steps.{entry_at}
use Rattle.cm_removal.proofs.entries.entries_at.Given as goal

abbrev pub invariant-loop-n : goal.invariant-loop-n
invariant-loop-n l = l.all ≡ map (entry_at l.state) (take l.n-index l.numbers)
