use Rattle.std.specs.List.{range_with_len}
use Rattle.std.proofs.Common.{ap, ◌∙◌, arith}
use Rattle.load_sessions.proofs.numbers.numbers.Goals as goal

pub returns : goal.returns
returns c = c.loop-i.invariant.0 ∙ ap (range_with_len c.args.first) (omega (arith, c.loop-i.invariant.1, c.loop-i-test.false))
