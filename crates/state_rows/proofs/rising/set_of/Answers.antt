use Rattle.std.proofs.Common.{ap, ◌∙◌, is_some}
use Rattle.core.specs.Ordering.{nat_cmp}
use Rattle.core.specs.FinMap.Entries.{find}
use Rattle.state_rows.proofs.Sets.{set_more}
use Rattle.state_rows.proofs.rising.set_of.Goals as goal

pub loop-number-preserved : goal.loop-number-preserved
loop-number-preserved c n = ap (λ m. is_some (find nat_cmp n m)) c.in_ok-all.ensures
    ∙ set_more c.args.numbers.now c.loop-number.number-index (record { 0 = 0 }) c.loop-number.all c.loop-number-test.true c.loop-number.invariant n
