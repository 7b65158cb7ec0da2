use Rattle.std.proofs.Common.{arith}
use Rattle.cm_state.proofs.Numbers.{rising_more}
use Rattle.state_rows.proofs.rising.are_rising.Goals as goal

pub loop-number-preserved : goal.loop-number-preserved
loop-number-preserved c = rising_more c.args.numbers.now c.loop-number.number-index (record { 0 = 0 }) c.loop-number.least
    c.loop-number-test.true c.loop-number.invariant.0 c.loop-number.invariant.1 (omega (arith, c.if-number-least.false))
