use Rattle.std.proofs.Common.{◌≡◌, ◌-◌, ◌<◌, ◌≤◌, false, map, length, drop, is_gt, Greater, IfSome}
use Rattle.std.specs.Arc.{arc_value}
use Rattle.cm_map.specs.Parts.{HeadIs}
use Rattle.cm_map.proofs.places.place.Given as goal

abbrev pub invariant-loop-hi : goal.invariant-loop-hi
invariant-loop-hi g l = record {
  apart : l.lo < l.hi;
  within : l.hi ≤ length l.xs;
  low : 0 < l.lo → HeadIs (λ b. IfSome (g.B.Headed.first b) (λ x. is_gt (g.K.Ord.cmp x l.key) ≡ false)) (drop l.lo (map arc_value l.xs));
  high : HeadIs (λ b. IfSome (g.B.Headed.first b) (λ x. g.K.Ord.cmp x l.key ≡ Greater)) (drop l.hi (map arc_value l.xs));
}

abbrev pub decreases-loop-hi : goal.decreases-loop-hi
decreases-loop-hi g l = l.hi - l.lo
