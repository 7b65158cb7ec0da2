use Rattle.std.proofs.Common.{◌∙◌, ap, ◌++◌, arith}
use Rattle.cm_base.specs.Whole.{whole}
use Rattle.cm_base.proofs.Wholes.{whole-more}
use Rattle.cm_base.proofs.pieces.add_all.Goals as goal

pub loop-piece-preserved : goal.loop-piece-preserved
loop-piece-preserved c =
    c.in_ok-add.ensures ∙ ap (λ p. whole c.loop-piece.list.items ++ p) c.piece-item.is
    ∙ whole-more (whole c.loop-piece.list.items) (whole c.args.list.now.items) c.args.pieces.now c.loop-piece.piece-index c.piece-item.result (omega (arith, c.loop-piece-test.true)) c.loop-piece.invariant
