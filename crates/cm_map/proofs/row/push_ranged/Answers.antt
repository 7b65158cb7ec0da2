use Rattle.std.proofs.Common.{T, sym, subst, map}
use Rattle.std.specs.Arc.{arc_value}
use Rattle.core.specs.FinMap.Entries.{is_sorted}
use Rattle.std.proofs.lemmas.List.{length-map}
use Rattle.cm_map.proofs.Heads.{all_at, read_map}
use Rattle.cm_map.proofs.Rowing.{sorted_at}
use Rattle.cm_map.proofs.row.push_ranged.Goals as goal

pub ranged-requires-clause-whole : goal.ranged-requires-clause-whole
ranged-requires-clause-whole g c = subst g.B.Block.whole (sym c.deref-inner.ensures) (all_at g.B.Block.whole arc_value c.args.xs.now c.loop-x.x-index c.x-item.result c.requires.whole c.loop-x-test.true c.x-item.is)

pub ranged-requires-clause-sorted : goal.ranged-requires-clause-sorted
ranged-requires-clause-sorted g c =
    subst (λ b. T (is_sorted g.K.Ord.cmp (g.B.Block.entries b))) (sym c.deref-inner.ensures)
    (sorted_at g.K.Ord.cmp g.B.Block.entries (map arc_value c.args.xs.now) c.loop-x.x-index (arc_value c.x-item.result) c.requires.sorted (simp length-map c.loop-x-test.true) (read_map arc_value c.args.xs.now c.loop-x.x-index c.x-item.result c.x-item.is))
