use Rattle.std.proofs.Common.{◌≡◌, ◌==◌, map, filter, sym, ap, subst, ◌∙◌}
use Rattle.std.specs.List.{list_any}
use Rattle.core.specs.Ordering.{nat_cmp}
use Rattle.cm_map.specs.Parts.{pointee, within}
use Rattle.cm_map.specs.Sets.{IsRising}
use Rattle.cm_objects.specs.Pairs.{ids_of, pair_order}
use Rattle.cm_objects.proofs.Pairing.{range_same, ids_have, ids_rise}
use Rattle.cm_objects.proofs.index.Index.of_key.Goals as goal

pub returns-clause-ids : goal.returns-clause-ids
returns-clause-ids c =
    let k = c.args.key.now in
    let least : c.in_ok-copied.field-0 ≡ k = c.in_ok-copied.ensures in
    let most : c.in_ok-copied-2.field-0 ≡ k = c.in_ok-copied-2.ensures in
    c.in_ok-ids.ensures ∙ ap (λ l. map (λ p. p.1) (map pointee l)) c.deref.ensures.value
    ∙ ap (map (λ p. p.1)) c.in_ok-pairs.ensures
    ∙ (λ i. map (λ p. p.1) (filter (within pair_order (least i, record { 0 = 0 }) (most i, record { 0 = 18446744073709551615 })) c.self.inside.pairs))
    ∙ ap (map (λ p. p.1)) (range_same k c.self.inside.pairs c.self.invariant)
    ∙ ap (ids_of k) c.self.view_is

pub returns-clause-rising : goal.returns-clause-rising
returns-clause-rising c = subst (IsRising (λ x y. nat_cmp x.0 y.0)) (sym (returns-clause-ids c)) (ids_rise c.args.key.now c.args.self.now (subst (IsRising pair_order) c.self.view_is c.len-count.ensures.rising))

pub returns-clause-has : goal.returns-clause-has
returns-clause-has c x = ap (list_any (λ y. x.0 == y.0)) (returns-clause-ids c) ∙ ids_have c.args.key.now x c.args.self.now
