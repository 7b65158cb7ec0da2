use Rattle.std.proofs.Common.{◌≡◌, not, filter, take}
use Rattle.std.specs.List.{list_any}
use Rattle.cm_removal.specs.Steps.{is_pair_of}
use Rattle.cm_removal.proofs.entries.without_pairs.Given as goal

abbrev pub invariant-loop-n : goal.invariant-loop-n
invariant-loop-n l = l.left ≡ record l.initial.left { filed = filter (λ p. not (list_any (is_pair_of l.state p) (take l.n-index l.leaving))) l.initial.left.filed }
