use Rattle.std.proofs.Common.{◌≡◌, drop, map}
use Rattle.cm_map.specs.Parts.{pointee}
use Rattle.cm_base.specs.Judged.{first_cause}
use Rattle.cm_types.specs.Properties.{given_cause}
use Rattle.cm_rules.proofs.fault.judge_given.Given as goal

abbrev pub invariant-loop-one : goal.invariant-loop-one
invariant-loop-one l = first_cause (given_cause l.call (map pointee l.defs)) l.given ≡ first_cause (given_cause l.call (map pointee l.defs)) (drop l.one-index l.given)
