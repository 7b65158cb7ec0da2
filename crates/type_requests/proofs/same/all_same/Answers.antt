use Rattle.std.proofs.Common.{◌≡◌, ◌<◌, length, arith, rules}
use Rattle.type_requests.proofs.Pointwise.{all_more}
use Rattle.type_requests.proofs.same.all_same.Goals as goal

pub loop-i-preserved : goal.loop-i-preserved
loop-i-preserved g c =
    let same : length c.args.a.now ≡ length c.args.b.now = search rules in
    let lt : c.loop-i.i < length c.args.a.now = omega arith in
    let e = all_more g.T.Same.same c.args.a.now c.args.b.now c.loop-i.i c.index-a-i.result c.index-b-i.result same lt in
    cc (e, c.same-here.ensures, c.both-same.ensures)
