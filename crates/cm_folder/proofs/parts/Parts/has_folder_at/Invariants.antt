use Rattle.std.proofs.Common.{◌≡◌, map}
use Rattle.std.specs.List.{list_any}
use Rattle.cm_map.specs.Parts.{pointee}
use Rattle.cm_folder.specs.Places.{is_folder_at}
use Rattle.cm_folder.proofs.parts.Parts.has_folder_at.Given as goal

abbrev pub invariant-loop-entry : goal.invariant-loop-entry
invariant-loop-entry l = l.found ≡ list_any (λ e. is_folder_at l.self.entries e.0) (map pointee l.yielded)
