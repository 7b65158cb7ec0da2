use Rattle.std.proofs.Common.{rules, ◌-◌, ◌<◌, length, sym, subst, IsSome, arith}
use Rattle.std.specs.Arc.{arc_value}
use Rattle.cm_map.proofs.Heads.{all_at}
use Rattle.cm_map.proofs.places.cut.Goals as goal

pub head-requires : goal.head-requires
head-requires g c =
    let some : 0 < length c.args.xs.now = search rules in
    let last : length c.args.xs.now - 1 < length c.args.xs.now = omega (arith, some) in
    subst (λ b. IsSome (g.B.Headed.first b)) (sym c.deref.ensures) (all_at (λ b. IsSome (g.B.Headed.first b)) arc_value c.args.xs.now _ c.index-xs-xs.result c.requires.heads last c.index-xs-xs.is)
