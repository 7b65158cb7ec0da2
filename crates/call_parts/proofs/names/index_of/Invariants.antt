use Rattle.std.proofs.Common.{take}
use Rattle.std.specs.BTreeMap.{get_by_text}
use Rattle.call_parts.specs.Names.{FindsNames}
use Rattle.call_parts.proofs.names.index_of.Given as goal

abbrev pub invariant-loop-i : goal.invariant-loop-i
invariant-loop-i l = FindsNames (get_by_text l.index) (take l.i l.list)
