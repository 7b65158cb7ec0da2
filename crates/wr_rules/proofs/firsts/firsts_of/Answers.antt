use Rattle.std.proofs.Common.{◌<◌, length, arith}
use Rattle.wr_rules.proofs.Distinct.{distinct_next}
use Rattle.wr_rules.proofs.firsts.firsts_of.Goals as goal

pub loop-text-preserved : goal.loop-text-preserved
loop-text-preserved c =
    let lt : c.loop-text.text-index < length c.args.texts.now = omega arith in
    let e = distinct_next c.args.texts.now c.loop-text.text-index c.text-item.result lt in
    cc (e, c.in_ok-firsts.ensures, c.loop-text.invariant, c.text-item.is)
