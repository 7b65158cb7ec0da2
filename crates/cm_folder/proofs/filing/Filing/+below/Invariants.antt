use Rattle.std.proofs.Common.{◌≡◌, ◌+◌, ◌*◌, ◌&&◌, map}
use Rattle.std.specs.List.{list_any}
use Rattle.cm_map.specs.Parts.{pointee}
use Rattle.cm_folder.specs.Depths.{is_first_in, has_far}
use Rattle.cm_folder.proofs.filing.Filing.+below.Given as goal

abbrev pub decreases-has_far : goal.decreases-has_far
decreases-has_far l = l.levels * 2

abbrev pub decreases-has_far_among : goal.decreases-has_far_among
decreases-has_far_among l = l.levels * 2 + 1

abbrev pub invariant-has_far_among-loop-entry : goal.invariant-has_far_among-loop-entry
invariant-has_far_among-loop-entry l = l.found ≡ list_any (λ e. is_first_in l.self l.folder e.1 && has_far l.levels l.self l.target l.moved e.1) (map pointee l.yielded)
