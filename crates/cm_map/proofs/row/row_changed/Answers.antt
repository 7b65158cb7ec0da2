use Rattle.std.proofs.Common.{◌+◌, ◌++◌, map, take, drop, T, sym, ap, subst, ◌∙◌, flat_map, option_map}
use Rattle.std.specs.Arc.{arc_value}
use Rattle.core.specs.FinMap.Entries.{is_sorted}
use Rattle.std.proofs.lemmas.List.{length-map}
use Rattle.cm_map.proofs.Heads.{all_at, read_map}
use Rattle.cm_map.specs.Rows.{change}
use Rattle.cm_map.proofs.Rowing.{all_map, block_sorted, row_parted, flat_split, change_mid}
use Rattle.cm_map.proofs.row.row_changed.Goals as goal

pub changed-requires-clause-whole : goal.changed-requires-clause-whole
changed-requires-clause-whole g c = subst g.B.Block.whole (sym c.deref.ensures) (all_at g.B.Block.whole arc_value c.args.xs.now c.place-i.result c.index-xs-i.result c.requires.whole c.place-i.ensures.in_range c.index-xs-i.is)

pub changed-requires-clause-sorted : goal.changed-requires-clause-sorted
changed-requires-clause-sorted g c =
    let bs = map arc_value c.args.xs.now in
    let heads = all_map g.B.Block.whole _ (λ b w. let h = g.met.B.Block.heads b w in (h.0, h.1)) bs c.requires.whole in
    subst (λ b. T (is_sorted g.K.Ord.cmp (g.B.Block.entries b))) (sym c.deref.ensures)
    (block_sorted g.K.Ord.cmp g.met.K.Ord.total c.args.key.now g.B.Block.entries g.B.Headed.first bs c.place-i.result (arc_value c.index-xs-i.result) heads c.requires.sorted (simp length-map c.place-i.ensures.in_range) (read_map arc_value c.args.xs.now c.place-i.result c.index-xs-i.result c.index-xs-i.is) c.place-i.ensures.low c.place-i.ensures.high)

pub returns-clause-entries : goal.returns-clause-entries
returns-clause-entries g c =
    let f = g.B.Block.entries in
    let bs = map arc_value c.args.xs.now in
    let i = c.place-i.result in
    let b = arc_value c.index-xs-i.result in
    let new = option_map arc_value c.args.new in
    let heads = all_map g.B.Block.whole _ (λ b w. let h = g.met.B.Block.heads b w in (h.0, h.1)) bs c.requires.whole in
    let p = row_parted g.K.Ord.cmp g.met.K.Ord.total c.args.key.now f g.B.Headed.first bs i b heads c.requires.sorted (simp length-map c.place-i.ensures.in_range) (read_map arc_value c.args.xs.now i c.index-xs-i.result c.index-xs-i.is) c.place-i.ensures.low c.place-i.ensures.high in
    let fs = flat_split g.K.Ord.cmp g.met.K.Ord.total c.args.key.now f g.B.Headed.first bs i b heads c.requires.sorted (simp length-map c.place-i.ensures.in_range) (read_map arc_value c.args.xs.now i c.index-xs-i.result c.index-xs-i.is) c.place-i.ensures.low c.place-i.ensures.high in
    let cm = change_mid g.K.Ord.cmp g.met.K.Ord.total c.args.key.now new (flat_map f (take i bs)) (f b) (flat_map f (drop (i + 1) bs)) p.below p.above in
    let FA = flat_map f (take i bs) in
    let FC = flat_map f (drop (i + 1) bs) in
    c.in_ok-row.ensures.entries
    ∙ ap (λ l. FA ++ (l ++ FC)) (c.in_ok-pieces.ensures.entries ∙ ap (λ b. change g.K.Ord.cmp c.args.key.now new (f b)) c.deref.ensures)
    ∙ sym cm
    ∙ ap (change g.K.Ord.cmp c.args.key.now new) (sym fs)
