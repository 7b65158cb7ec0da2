use Rattle.std.proofs.Common.{◌≡◌, filter, take}
use Rattle.cm_removal.specs.Steps.{is_tie}
use Rattle.cm_removal.proofs.ties.ties.Given as goal

abbrev pub invariant-loop-n : goal.invariant-loop-n
invariant-loop-n l = l.all ≡ filter (is_tie l.state) (take l.n-index l.numbers)
