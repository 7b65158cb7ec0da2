use Rattle.std.proofs.Common.{◌≡◌, map, take}
use Rattle.cm_map.specs.Parts.{pointee}
use Rattle.cm_renditions.specs.Shown.{shown_rendition}
use Rattle.cm_renditions.proofs.shown.each_shown.Given as goal

abbrev pub invariant-loop-rendition : goal.invariant-loop-rendition
invariant-loop-rendition l = l.all ≡ map shown_rendition (map pointee (take l.rendition-index l.renditions))
