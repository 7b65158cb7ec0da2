use Rattle.std.proofs.Common.{◌+◌, ◌<◌, ◌++◌, ◌^◌, length, [], sym, ap, subst, ◌∙◌, arith}
use Rattle.cm_base.proofs.Wholes.{whole-more}
use Rattle.wr_content.proofs.Wholes.{more_fits}
use Rattle.wr_content.proofs.pieces.shared.Goals as goal

pub with_piece-requires : goal.with_piece-requires
with_piece-requires c = record {
  fits = subst (λ p. length c.loop-piece.all + length p < 2 ^ 64) (sym c.piece-item.is)
      (more_fits c.loop-piece.all c.args.pieces.now c.loop-piece.piece-index c.piece-item.result (omega (arith, c.loop-piece-test.true)) c.loop-piece.invariant c.requires.fits);
}

pub loop-piece-preserved : goal.loop-piece-preserved
loop-piece-preserved c =
    c.in_ok-all.ensures ∙ ap (λ p. c.loop-piece.all ++ p) c.piece-item.is
    ∙ whole-more c.loop-piece.all [] c.args.pieces.now c.loop-piece.piece-index c.piece-item.result (omega (arith, c.loop-piece-test.true)) c.loop-piece.invariant
