use Rattle.std.proofs.Common.{◌≡◌, sym, ap, ◌∙◌, Some, map, arith}
use Rattle.std.specs.Arc.{arc_value}
use Rattle.core.specs.FinMap.Entries.{find}
use Rattle.std.proofs.lemmas.List.{length-map}
use Rattle.cm_map.proofs.Heads.{head_in, read_map}
use Rattle.cm_map.proofs.leaf.find_in.Goals as goal

pub returns-then-from-to : goal.returns-then-from-to
returns-then-from-to g c =
    ap (λ (e : g.row.K.Denot × g.row.V.Denot). Some e.1) c.deref.ensures
    ∙ sym (head_in (λ e. find g.K.Ord.cmp c.args.key.now (map arc_value c.args.xs.now) ≡ Some e.1) (map arc_value c.args.xs.now) _ (arc_value c.index-xs-from.result) (simp length-map (omega arith)) (read_map arc_value c.args.xs.now _ c.index-xs-from.result c.index-xs-from.is) (c.gap-from.ensures.found c.if-from-to.true))
