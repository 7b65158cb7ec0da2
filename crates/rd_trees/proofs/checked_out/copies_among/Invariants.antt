use Rattle.std.proofs.Common.{◌≡◌, ◌&&◌, map, take}
use Rattle.cm_map.specs.Parts.{pointee}
use Rattle.cmis_spec.specs.Access.{reads}
use Rattle.rd_trees.specs.ReadCheckedOut.{is_copy}
use Rattle.rd_trees.specs.Walks.{found_among}
use Rattle.rd_trees.proofs.checked_out.copies_among.Given as goal

abbrev pub invariant-loop-number : goal.invariant-loop-number
invariant-loop-number l = map pointee l.all.items ≡ found_among (λ y. is_copy l.state l.folder y && reads l.state l.user y) l.state (take l.number-index l.numbers)
