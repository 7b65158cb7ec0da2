use Rattle.std.proofs.Common.{◌≡◌, take}
use Rattle.form_args.specs.Properties.{givens_from}
use Rattle.form_args.proofs.properties.givens.Given as goal

abbrev pub invariant-loop-i : goal.invariant-loop-i
invariant-loop-i l = l.givens.items ≡ givens_from l.pairs 0 (take l.i l.ids)
