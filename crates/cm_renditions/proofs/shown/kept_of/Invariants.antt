use Rattle.std.proofs.Common.{◌≡◌, map, take}
use Rattle.std.specs.Prelude.{filter}
use Rattle.cm_map.specs.Parts.{pointee}
use Rattle.cm_renditions.specs.Shown.{is_kept}
use Rattle.cm_renditions.proofs.shown.kept_of.Given as goal

abbrev pub invariant-loop-rendition : goal.invariant-loop-rendition
invariant-loop-rendition l = map pointee l.all.items ≡ filter (is_kept l.which) (map pointee (take l.rendition-index l.renditions))
