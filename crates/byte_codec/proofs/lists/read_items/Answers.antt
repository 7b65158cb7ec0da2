use Rattle.std.proofs.Common.{◌≡◌, ◌-◌, ◌+◌, List, sym, subst}
use Rattle.std.proofs.lemmas.Result.{err_from_is_err_and}
use Rattle.byte_codec.specs.Runs.{items_reads}
use Rattle.byte_codec.proofs.ItemLaws.{with_front, begins, goes_on, ends, is_done}
use Rattle.byte_codec.proofs.lists.read_items.Goals as goal

pub returns-in_err-item : goal.returns-in_err-item
returns-in_err-item g c =
    let p = err_from_is_err_and c.from_residual.result c.from_residual.ensures.1 in
    rw (p.1, p.2) (ends g.T.Coded.codec c.in_err-item.field-0.0 c.loop.items c.args.count c.loop.counter c.loop.from (items_reads g.T.Coded.codec c.args.count c.args.from.now) c.loop-test.true c.in_err-item.ensures c.loop.invariant)

pub loop-preserved : goal.loop-preserved
loop-preserved g c =
    let all = items_reads g.T.Coded.codec c.args.count c.args.from.now in
    subst (λ (xs : List g.row.T.Denot). with_front xs (items_reads g.T.Coded.codec (c.args.count - (c.loop.counter + 1)) c.read.new.from) ≡ all) (sym c.in_ok-push.ensures.ok)
    (goes_on g.T.Coded.codec c.loop.items c.args.count c.loop.counter c.loop.from c.in_ok-item.item c.read.new.from all c.loop-test.true c.in_ok-item.ensures c.loop.invariant)

pub returns : goal.returns
returns g c = is_done g.T.Coded.codec c.loop.items c.args.count c.loop.counter c.loop.from (items_reads g.T.Coded.codec c.args.count c.args.from.now) c.loop-test.false c.loop.invariant
