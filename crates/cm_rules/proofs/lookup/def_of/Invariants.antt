use Rattle.std.proofs.Common.{◌≡◌, drop, map}
use Rattle.cm_map.specs.Parts.{pointee}
use Rattle.cm_types.specs.Properties.{def_of}
use Rattle.cm_rules.proofs.lookup.def_of.Given as goal

abbrev pub invariant-loop-def : goal.invariant-loop-def
invariant-loop-def l = def_of (map pointee l.defs) l.id ≡ def_of (map pointee (drop l.def-index l.defs)) l.id
