use Rattle.std.proofs.Common.{◌≡◌, option_map, map}
use Rattle.std.specs.List.{find as find_by}
use Rattle.cm_map.specs.Parts.{pointee}
use Rattle.cmis_spec.specs.Repository.{same}
use Rattle.cm_folder.proofs.parts.place_of.Given as goal

abbrev pub invariant-loop-entry : goal.invariant-loop-entry
invariant-loop-entry l = l.found ≡ option_map (λ e. e.0) (find_by (λ e. same e.1 l.folder) (map pointee l.yielded))
