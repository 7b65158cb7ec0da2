use Rattle.std.proofs.Common.{◌≡◌, ◌<◌, ◌+◌, map, length, take, drop, Greater, IfSome, IsSome, sym, subst}
use Rattle.std.specs.Arc.{arc_value}
use Rattle.core.specs.List.{AllByRecursion}
use Rattle.std.proofs.lemmas.List.{take_rest}
use Rattle.cm_map.specs.Parts.{HeadIs, IsBetween}
use Rattle.cm_map.proofs.Ranging.{rest_heads, two_places}
use Rattle.cm_map.proofs.places.between.Goals as goal

pub place-last-requires-clause-heads : goal.place-last-requires-clause-heads
place-last-requires-clause-heads g c =
    subst (λ l. AllByRecursion (λ b. IsSome (g.B.Headed.first b)) (map arc_value l)) (sym (take_rest c.args.xs.now c.place-from.result))
    (rest_heads arc_value g.B.Headed.first c.args.xs.now c.place-from.result c.requires.heads)

pub returns : goal.returns
returns g c =
    let from = c.place-from.result in
    let last = c.place-last.result in
    let e = take_rest c.args.xs.now from in
    subst (λ l. IsBetween g.B.Headed.first g.K.Ord.cmp c.args.least.now c.args.most.now (map arc_value c.args.xs.now) (map arc_value (take (last + 1) l))) (sym e)
    (two_places arc_value g.B.Headed.first g.K.Ord.cmp c.args.least.now c.args.most.now c.args.xs.now from last c.place-from.ensures.in_range
    (subst (λ l. last < length l) e c.place-last.ensures.in_range)
    c.place-from.ensures.low
    (subst (λ l. HeadIs (λ b. IfSome (g.B.Headed.first b) (λ x. g.K.Ord.cmp x c.args.most.now ≡ Greater)) (drop (last + 1) (map arc_value l))) e c.place-last.ensures.high))
