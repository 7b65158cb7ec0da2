use Rattle.std.proofs.Common.{rules, ◌≡◌, ◌+◌, ◌-◌, ◌<◌, ◌≤◌, ◌++◌, ◌∷◌, [], map, length, take, drop, sym, ap, subst, ◌∙◌, arith, take-append-drop}
use Rattle.std.specs.Arc.{arc_value}
use Rattle.core.specs.List.{AllByRecursion}
use Rattle.std.proofs.lemmas.List.{drop-map, take_rest, length-map}
use Rattle.cm_map.proofs.Heads.{all_at, read_map}
use Rattle.cm_map.specs.Rows.{Spaced}
use Rattle.cm_map.specs.Sizes.{full, few}
use Rattle.cm_map.proofs.Rowing.{all_left, all_right, all_both, map_push, meet_rows, merge_rows}
use Rattle.cm_map.proofs.row.joined.Goals as goal

pub overflow_add-size : goal.overflow_add-size
overflow_add-size g c =
    let f = all_right g.B.Block.whole (map arc_value c.pop.new.self.items) (arc_value c.in-Some.first ∷ []) (subst (AllByRecursion g.B.Block.whole) (map_push arc_value c.args.left.items c.pop.new.self.items c.in-Some.first c.in-Some.ensures.items) c.requires.left_whole) in
    let lt : 0 < length c.args.right.now = search rules in
    let s = all_at g.B.Block.whole arc_value c.args.right.now 0 c.index-right-0.result c.requires.right_whole lt c.index-right-0.is in
    let a : g.B.Block.count (arc_value c.in-Some.first) ≤ full = (g.met.B.Block.heads (arc_value c.in-Some.first) f.0).3 in
    let b : g.B.Block.count (arc_value c.index-right-0.result) ≤ full = (g.met.B.Block.heads (arc_value c.index-right-0.result) s).3 in
    let e1 : c.size.result ≡ g.B.Block.count (arc_value c.in-Some.first) = c.size.ensures ∙ ap g.B.Block.count c.deref.ensures in
    let e2 : c.size-in-Some.result ≡ g.B.Block.count (arc_value c.index-right-0.result) = c.size-in-Some.ensures ∙ ap g.B.Block.count c.deref-in-Some.ensures in
    let sum : c.size.result + c.size-in-Some.result ≤ full + full = omega (arith, a, b, e1, e2) in
    search rules

pub join-requires-clause-one : goal.join-requires-clause-one
join-requires-clause-one g c =
    subst g.B.Block.whole (sym c.deref-else-size-gt-FEW.ensures) (all_right g.B.Block.whole (map arc_value c.pop.new.self.items) (arc_value c.in-Some.first ∷ []) (subst (AllByRecursion g.B.Block.whole) (map_push arc_value c.args.left.items c.pop.new.self.items c.in-Some.first c.in-Some.ensures.items) c.requires.left_whole)).0

pub returns-in_ok-push_all-in-Some-clause-spaced : goal.returns-in_ok-push_all-in-Some-clause-spaced
returns-in_ok-push_all-in-Some-clause-spaced g c =
    let L = map arc_value c.pop.new.self.items in
    let lv = map_push arc_value c.args.left.items c.pop.new.self.items c.in-Some.first c.in-Some.ensures.items in
    let pv = map_push arc_value c.push.new.self.items c.pop.new.self.items c.in-Some.first c.in_ok-push-in-Some.ensures.items in
    let ov = c.in_ok-push_all-in-Some.ensures ∙ ap (λ l. l ++ map arc_value c.args.right.now) pv in
    let lt : 0 < length c.args.right.now = search rules in
    let e1 : c.size.result ≡ g.B.Block.count (arc_value c.in-Some.first) = c.size.ensures ∙ ap g.B.Block.count c.deref.ensures in
    let e2 : c.size-in-Some.result ≡ g.B.Block.count (arc_value c.index-right-0.result) = c.size-in-Some.ensures ∙ ap g.B.Block.count c.deref-in-Some.ensures in
    let more : few < g.B.Block.count (arc_value c.in-Some.first) + g.B.Block.count (arc_value c.index-right-0.result) = omega (arith, e1, e2, c.if-size-gt-FEW.true) in
    subst (λ l. Spaced (map g.B.Block.count l)) (sym ov)
    (meet_rows g.B.Block.count (map arc_value c.args.left.items) L (arc_value c.in-Some.first) (map arc_value c.args.right.now) (arc_value c.index-right-0.result) lv (simp length-map lt) (read_map arc_value c.args.right.now 0 c.index-right-0.result c.index-right-0.is) c.requires.left_spaced c.requires.right_spaced more)

pub returns-in_ok-push_all-in-Some-2-clause-whole : goal.returns-in_ok-push_all-in-Some-2-clause-whole
returns-in_ok-push_all-in-Some-2-clause-whole g c =
    let P = g.B.Block.whole in
    let L = map arc_value c.pop.new.self.items in
    let rest = take (length c.args.right.now - 1) (drop 1 c.args.right.now) in
    let lw = all_left P L (arc_value c.in-Some.first ∷ []) (subst (AllByRecursion P) (map_push arc_value c.args.left.items c.pop.new.self.items c.in-Some.first c.in-Some.ensures.items) c.requires.left_whole) in
    let pv = map_push arc_value c.push-else-size-gt-FEW.new.self.items c.pop.new.self.items c.in_ok-both-in-Some.both c.in_ok-push-in-Some-2.ensures.items in
    let ov = c.in_ok-push_all-in-Some-2.ensures ∙ ap (λ l. l ++ map arc_value rest) pv in
    let rest_whole = all_right P (take 1 (map arc_value c.args.right.now)) (drop 1 (map arc_value c.args.right.now)) (subst (AllByRecursion P) (sym (take-append-drop 1 (map arc_value c.args.right.now))) c.requires.right_whole) in
    let re = ap (map arc_value) (take_rest c.args.right.now 1) ∙ sym (drop-map arc_value 1 c.args.right.now) in
    subst (AllByRecursion P) (sym ov) (all_both P (L ++ arc_value c.in_ok-both-in-Some.both ∷ []) (map arc_value rest) (all_both P L (arc_value c.in_ok-both-in-Some.both ∷ []) lw (c.in_ok-both-in-Some.ensures.whole, tt)) (subst (AllByRecursion P) (sym re) rest_whole))

pub returns-in_ok-push_all-in-Some-2-clause-spaced : goal.returns-in_ok-push_all-in-Some-2-clause-spaced
returns-in_ok-push_all-in-Some-2-clause-spaced g c =
    let L = map arc_value c.pop.new.self.items in
    let rest = take (length c.args.right.now - 1) (drop 1 c.args.right.now) in
    let lv = map_push arc_value c.args.left.items c.pop.new.self.items c.in-Some.first c.in-Some.ensures.items in
    let pv = map_push arc_value c.push-else-size-gt-FEW.new.self.items c.pop.new.self.items c.in_ok-both-in-Some.both c.in_ok-push-in-Some-2.ensures.items in
    let re = ap (map arc_value) (take_rest c.args.right.now 1) ∙ sym (drop-map arc_value 1 c.args.right.now) in
    let ov = c.in_ok-push_all-in-Some-2.ensures ∙ (λ i. pv i ++ re i) in
    let lt : 0 < length c.args.right.now = search rules in
    let b = arc_value c.in_ok-both-in-Some.both in
    let m : g.B.Block.count (arc_value c.in-Some.first) ≤ g.B.Block.count b = subst (λ x. g.B.Block.count x ≤ g.B.Block.count b) c.deref-else-size-gt-FEW.ensures c.in_ok-both-in-Some.ensures.first in
    let n : g.B.Block.count (arc_value c.index-right-0.result) ≤ g.B.Block.count b = subst (λ x. g.B.Block.count x ≤ g.B.Block.count b) c.deref-else-size-gt-FEW-2.ensures c.in_ok-both-in-Some.ensures.second in
    let small : g.B.Block.count b ≤ few = c.in_ok-both-in-Some.ensures.small in
    subst (λ l. Spaced (map g.B.Block.count l)) (sym ov)
    (merge_rows g.B.Block.count (map arc_value c.args.left.items) L (arc_value c.in-Some.first) (map arc_value c.args.right.now) (arc_value c.index-right-0.result) lv (simp length-map lt) (read_map arc_value c.args.right.now 0 c.index-right-0.result c.index-right-0.is) c.requires.left_spaced c.requires.right_spaced b m n (omega (arith, small)))
