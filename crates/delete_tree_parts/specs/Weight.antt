-- The weight of a deleteTree.
use Rattle.std.specs.Prelude.{ℕ}
use Rattle.call_parts.specs.Versions.{weight_with}
use Rattle.call_parts.specs.Weight.{texts_of_place}
use Rattle.delete_tree_parts.specs.declared.writes.DeleteTree.{DeleteTree}

abbrev pub weight_of_delete_tree : DeleteTree → ℕ
weight_of_delete_tree call = weight_with (texts_of_place call.place) 0
