use Rattle.std.proofs.Common.{◌≡◌, take}
use Rattle.std.specs.List.{flat_map}
use Rattle.cmis_spec.specs.Repository.{folders_up}
use Rattle.state_rows.proofs.folders.all_above.Given as goal

abbrev pub invariant-loop-folder : goal.invariant-loop-folder
invariant-loop-folder l = l.all ≡ flat_map (folders_up l.state) (take l.folder-index l.folders)
