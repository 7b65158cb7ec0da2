use Rattle.std.proofs.Common.{◌≡◌, drop, map}
use Rattle.cm_map.specs.Parts.{pointee}
use Rattle.cm_base.specs.Judged.{first_cause}
use Rattle.cm_types.specs.Properties.{missing_cause}
use Rattle.cm_rules.proofs.kept.judge_missing.Given as goal

abbrev pub invariant-loop-def : goal.invariant-loop-def
invariant-loop-def l = first_cause (missing_cause l.call l.old l.given) (map pointee l.defs) ≡ first_cause (missing_cause l.call l.old l.given) (map pointee (drop l.def-index l.defs))
