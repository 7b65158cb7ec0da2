use Rattle.std.proofs.Common.{◌≡◌, filter, map}
use Rattle.cm_map.specs.Parts.{pointee}
use Rattle.cmis_spec.specs.Removal.{among}
use Rattle.wr_delete_tree.proofs.treated.kept.Given as goal

abbrev pub invariant-loop-entry : goal.invariant-loop-entry
invariant-loop-entry l = l.all ≡ filter (among l.tree) (map (λ e. e.1) (map pointee l.yielded))
