use Rattle.std.proofs.Common.{◌≡◌, map}
use Rattle.cm_map.specs.Parts.{pointee}
use Rattle.cm_map.specs.Sets.{key_of}
use Rattle.wr_delete_tree.proofs.tree.numbers_of.Given as goal

abbrev pub invariant-loop-entry : goal.invariant-loop-entry
invariant-loop-entry l = l.numbers ≡ map (λ k. record { 0 = k }) (map key_of (map pointee l.yielded))
