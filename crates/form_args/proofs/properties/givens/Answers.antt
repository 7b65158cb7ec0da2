use Rattle.std.proofs.Common.{arith, rules}
use Rattle.form_args.proofs.Listing.{givens_next}
use Rattle.form_args.proofs.properties.givens.Goals as goal

pub loop-i-preserved : goal.loop-i-preserved
loop-i-preserved c =
    let next = givens_next c.args.pairs.now c.args.ids.now c.loop-i.i c.index-ids-i.result c.loop-i.givens.items (omega arith) c.loop-i.invariant in
    search rules
