use Rattle.std.proofs.Common.{◌≡◌, ◌++◌, take}
use Rattle.cm_removal.proofs.ties.joined.Given as goal

abbrev pub invariant-loop-n : goal.invariant-loop-n
invariant-loop-n l = l.both ≡ l.initial.both ++ take l.n-index l.more
