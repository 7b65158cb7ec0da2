use Rattle.std.proofs.Common.{◌≡◌, map, take}
use Rattle.cm_map.specs.Parts.{pointee}
use Rattle.rd_trees.specs.Walks.{document_types}
use Rattle.rd_trees.proofs.documents.document_types.Given as goal

abbrev pub invariant-loop-def : goal.invariant-loop-def
invariant-loop-def l = l.all ≡ document_types (map pointee (take l.def-index l.types))
