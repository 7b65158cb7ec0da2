use Rattle.std.proofs.Common.{◌≡◌, map}
use Rattle.std.specs.List.{list_any}
use Rattle.cm_map.specs.Parts.{pointee}
use Rattle.cmis_spec.specs.Removal.{among}
use Rattle.wr_delete_tree.proofs.left.any_among.Given as goal

abbrev pub invariant-loop-entry : goal.invariant-loop-entry
invariant-loop-entry l = l.any ≡ list_any (λ e. among l.tree e.1) (map pointee l.yielded)
