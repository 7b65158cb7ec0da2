use Rattle.std.proofs.Common.{◌≡◌, take, map}
use Rattle.cm_map.specs.Parts.{pointee}
use Rattle.cmis_spec.specs.Values.{values_kept}
use Rattle.cm_rules.proofs.kept.values_kept.Given as goal

abbrev pub invariant-loop-def : goal.invariant-loop-def
invariant-loop-def l = l.kept ≡ values_kept l.call (map pointee (take l.def-index l.defs)) l.old l.given
