use Rattle.std.proofs.Common.{arith, rules}
use Rattle.form_args.proofs.Listing.{aces_next}
use Rattle.form_args.proofs.entries.aces_by.Goals as goal

pub loop-i-preserved : goal.loop-i-preserved
loop-i-preserved c =
    let next = aces_next c.args.pairs.now c.args.permission.now c.args.principals.now c.loop-i.i c.index-principals-i.result c.loop-i.aces.items (omega arith) c.loop-i.invariant in
    search rules
