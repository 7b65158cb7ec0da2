use Rattle.std.proofs.Common.{◌<◌, length}
use Rattle.cmis_spec.specs.Access.{read_at}
use Rattle.cm_types.proofs.Lists.{filter_map_more}
use Rattle.rd_lists.proofs.number.read_among.Goals as goal

pub loop-n-preserved : goal.loop-n-preserved
loop-n-preserved c =
    let lt : c.loop-n.n-index < length c.args.numbers.now = c.loop-n-test.true in
    let e = filter_map_more (read_at c.args.state.now c.args.user.now) c.args.numbers.now c.loop-n.n-index (record { 0 = 0 }) lt in
    cc (e, c.in_ok-add_read.ensures, c.loop-n.invariant)
