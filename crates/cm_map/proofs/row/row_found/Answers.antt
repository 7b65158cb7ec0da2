use Rattle.std.proofs.Common.{◌+◌, map, take, drop, T, sym, ap, subst, ◌∙◌, flat_map}
use Rattle.std.specs.Arc.{arc_value}
use Rattle.core.specs.FinMap.Entries.{find, is_sorted}
use Rattle.std.proofs.lemmas.List.{length-map}
use Rattle.cm_map.proofs.Heads.{all_at, read_map}
use Rattle.cm_map.proofs.Rowing.{all_map, block_sorted, row_parted, flat_split, find_mid}
use Rattle.cm_map.proofs.row.row_found.Goals as goal

pub found-requires-clause-whole : goal.found-requires-clause-whole
found-requires-clause-whole g c = subst g.B.Block.whole (sym c.deref-inner.ensures) (all_at g.B.Block.whole arc_value c.args.xs.now c.place-i.result c.index-xs-i.result c.requires.whole c.place-i.ensures.in_range c.index-xs-i.is)

pub found-requires-clause-sorted : goal.found-requires-clause-sorted
found-requires-clause-sorted g c = subst (λ b. T (is_sorted g.K.Ord.cmp (g.B.Block.entries b))) (sym c.deref-inner.ensures) (block_sorted g.K.Ord.cmp g.met.K.Ord.total c.args.key.now g.B.Block.entries g.B.Headed.first (map arc_value c.args.xs.now) c.place-i.result (arc_value c.index-xs-i.result) (all_map g.B.Block.whole _ (λ b w. let h = g.met.B.Block.heads b w in (h.0, h.1)) (map arc_value c.args.xs.now) c.requires.whole) c.requires.sorted (simp length-map c.place-i.ensures.in_range) (read_map arc_value c.args.xs.now c.place-i.result c.index-xs-i.result c.index-xs-i.is) c.place-i.ensures.low c.place-i.ensures.high)

pub returns : goal.returns
returns g c =
    let f = g.B.Block.entries in
    let bs = map arc_value c.args.xs.now in
    let i = c.place-i.result in
    let b = arc_value c.index-xs-i.result in
    let p = row_parted g.K.Ord.cmp g.met.K.Ord.total c.args.key.now g.B.Block.entries g.B.Headed.first (map arc_value c.args.xs.now) c.place-i.result (arc_value c.index-xs-i.result) (all_map g.B.Block.whole _ (λ b w. let h = g.met.B.Block.heads b w in (h.0, h.1)) (map arc_value c.args.xs.now) c.requires.whole) c.requires.sorted (simp length-map c.place-i.ensures.in_range) (read_map arc_value c.args.xs.now c.place-i.result c.index-xs-i.result c.index-xs-i.is) c.place-i.ensures.low c.place-i.ensures.high in
    c.found.ensures ∙ ap (λ b. find g.K.Ord.cmp c.args.key.now (f b)) c.deref-inner.ensures
    ∙ sym (find_mid g.K.Ord.cmp g.met.K.Ord.total c.args.key.now (flat_map f (take i bs)) (f b) (flat_map f (drop (i + 1) bs)) p.below p.above)
    ∙ ap (find g.K.Ord.cmp c.args.key.now) (sym (flat_split g.K.Ord.cmp g.met.K.Ord.total c.args.key.now g.B.Block.entries g.B.Headed.first (map arc_value c.args.xs.now) c.place-i.result (arc_value c.index-xs-i.result) (all_map g.B.Block.whole _ (λ b w. let h = g.met.B.Block.heads b w in (h.0, h.1)) (map arc_value c.args.xs.now) c.requires.whole) c.requires.sorted (simp length-map c.place-i.ensures.in_range) (read_map arc_value c.args.xs.now c.place-i.result c.index-xs-i.result c.index-xs-i.is) c.place-i.ensures.low c.place-i.ensures.high))
