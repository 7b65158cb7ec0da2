use Rattle.std.proofs.Common.{arith, rules}
use Rattle.bind_writes.proofs.Listing.{objects_next}
use Rattle.bind_writes.proofs.bulk_objects.objects.Goals as goal

pub loop-i-preserved : goal.loop-i-preserved
loop-i-preserved c =
    let next = objects_next c.args.pairs.now c.args.ids.now c.loop-i.i c.index-ids-i.result c.loop-i.all.items (omega arith) c.loop-i.invariant in
    search rules
