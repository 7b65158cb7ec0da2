use Rattle.std.proofs.Common.{◌≡◌, sym, subst, ap, ◌∙◌, false, is_gt, Greater, IsSome, arith}
use Rattle.std.specs.Arc.{arc_value}
use Rattle.cm_map.proofs.Heads.{head_at, all_at, if_some, greater}
use Rattle.cm_map.proofs.places.place.Goals as goal

pub head-requires : goal.head-requires
head-requires g c = subst (λ b. IsSome (g.B.Headed.first b)) (sym c.deref.ensures) (all_at (λ b. IsSome (g.B.Headed.first b)) arc_value c.args.xs.now _ c.index-xs-mid.result c.requires.heads (omega arith) c.index-xs-mid.is)

pub loop-hi-preserved-then-is_gt : goal.loop-hi-preserved-then-is_gt
loop-hi-preserved-then-is_gt g c = record {
  apart = omega arith;
  within = omega arith;
  low = c.loop-hi.invariant.low;
  high = head_at _ arc_value c.args.xs.now _ c.index-xs-mid.result (omega arith) c.index-xs-mid.is
      (if_some (λ x. g.K.Ord.cmp x c.args.key.now ≡ Greater) (g.B.Headed.first (arc_value c.index-xs-mid.result)) c.head.result.now (ap g.B.Headed.first (sym c.deref.ensures) ∙ c.head.ensures) (sym c.cmp.ensures ∙ greater _ (sym c.is_gt.ensures ∙ c.if-is_gt.true)));
}

pub loop-hi-preserved : goal.loop-hi-preserved
loop-hi-preserved g c = record {
  apart = omega arith;
  within = omega arith;
  low = λ _. head_at _ arc_value c.args.xs.now _ c.index-xs-mid.result (omega arith) c.index-xs-mid.is
      (if_some (λ x. is_gt (g.K.Ord.cmp x c.args.key.now) ≡ false) (g.B.Headed.first (arc_value c.index-xs-mid.result)) c.head.result.now (ap g.B.Headed.first (sym c.deref.ensures) ∙ c.head.ensures) (ap is_gt (sym c.cmp.ensures) ∙ sym c.is_gt.ensures ∙ c.if-is_gt.false));
  high = c.loop-hi.invariant.high;
}
