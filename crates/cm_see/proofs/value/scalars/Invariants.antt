use Rattle.std.proofs.Common.{◌≡◌, map, take}
use Rattle.cm_base.specs.declared.value.Scalar.TheVariants.{Words}
use Rattle.cm_see.proofs.value.scalars.Given as goal

abbrev pub invariant-loop-text : goal.invariant-loop-text
invariant-loop-text l = l.all ≡ map Words (take l.text-index l.texts)
