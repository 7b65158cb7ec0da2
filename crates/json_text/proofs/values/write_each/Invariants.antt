use Rattle.std.proofs.Common.{◌≡◌, ◌++◌, map, take}
use Rattle.json_text.specs.Tokens.{each_tokens}
use Rattle.json_text.specs.Values.{scalar_data}
use Rattle.json_text.proofs.values.write_each.Given as goal

abbrev pub invariant-loop-scalar : goal.invariant-loop-scalar
invariant-loop-scalar l = l.out ≡ l.initial.out ++ each_tokens (map scalar_data (take l.scalar-index l.scalars))
