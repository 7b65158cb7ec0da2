use Rattle.std.proofs.Common.{take}
use Rattle.std.specs.BTreeMap.{get_by_text}
use Rattle.form_args.specs.Index.{FindsFirst}
use Rattle.form_args.proofs.pairs.places_of.Given as goal

abbrev pub invariant-loop-i : goal.invariant-loop-i
invariant-loop-i l = FindsFirst (get_by_text l.places) (take l.i l.list)
