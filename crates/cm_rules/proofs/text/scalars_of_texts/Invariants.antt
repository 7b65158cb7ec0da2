use Rattle.std.proofs.Common.{◌≡◌, take}
use Rattle.cm_types.specs.Properties.{scalars_of_texts}
use Rattle.cm_rules.proofs.text.scalars_of_texts.Given as goal

abbrev pub invariant-loop-text : goal.invariant-loop-text
invariant-loop-text l = l.all ≡ scalars_of_texts l.kind (take l.text-index l.texts)
