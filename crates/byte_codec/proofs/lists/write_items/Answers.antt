use Rattle.std.proofs.Common.{◌∙◌, ap, sym, subst, ◌++◌, ◌∷◌, [], List, take, arith}
use Rattle.std.proofs.lemmas.List.{take_more}
use Rattle.byte_codec.specs.Runs.{ItemsWritten}
use Rattle.byte_codec.proofs.ItemLaws.{none_written, one_more}
use Rattle.byte_codec.proofs.lists.write_items.Goals as goal

pub loop-item-init : goal.loop-item-init
loop-item-init g c = none_written g.T.Coded.codec c.args.out.now.items

pub loop-item-preserved : goal.loop-item-preserved
loop-item-preserved g c =
    let i = c.loop-item.item-index in
    let front : List g.row.T.Denot = take i c.args.items.now in
    let w = one_more g.T.Coded.codec front c.item-item.result c.args.out.now.items c.loop-item.out.items c.write.new.out.items c.loop-item.invariant c.in_ok-write.ensures in
    subst (λ (xs : List g.row.T.Denot). ItemsWritten g.T.Coded.codec xs c.args.out.now.items c.write.new.out.items)
    (sym (take_more c.args.items.now i c.item-item.result (omega (arith, c.loop-item-test.true)) ∙ ap (λ (y : g.row.T.Denot). front ++ y ∷ []) (sym c.item-item.is))) w
