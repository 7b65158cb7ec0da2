use Rattle.std.proofs.Common.{◌≡◌, map, sym, ap, ◌∙◌, Some}
use Rattle.std.specs.Arc.{arc_value}
use Rattle.core.specs.FinMap.Entries.{find}
use Rattle.std.proofs.lemmas.List.{length-map}
use Rattle.cm_map.proofs.Heads.{read_map, head_at}
use Rattle.cm_map.proofs.Parting.{at_less, at_equal, at_greater}
use Rattle.cm_map.proofs.leaf.gap.Goals as goal

pub returns-in-Less-clause-puts : goal.returns-in-Less-clause-puts
returns-in-Less-clause-puts g c = let h = at_less g.K.Ord.cmp g.met.K.Ord.total g.met.K.Key.exact c.args.key.now (map arc_value c.args.xs.now) c.place-i.result (arc_value c.index-xs-i.result) c.requires (simp length-map c.place-i.ensures.in_range) (read_map arc_value c.args.xs.now c.place-i.result c.index-xs-i.result c.index-xs-i.is) c.place-i.ensures.low c.place-i.ensures.high (ap (λ (e : g.row.K.Denot × g.row.V.Denot). g.K.Ord.cmp c.args.key.now e.0) (sym c.deref.ensures) ∙ sym c.in-Less.ensures) in h.puts

pub returns-in-Less-clause-removes : goal.returns-in-Less-clause-removes
returns-in-Less-clause-removes g c = let h = at_less g.K.Ord.cmp g.met.K.Ord.total g.met.K.Key.exact c.args.key.now (map arc_value c.args.xs.now) c.place-i.result (arc_value c.index-xs-i.result) c.requires (simp length-map c.place-i.ensures.in_range) (read_map arc_value c.args.xs.now c.place-i.result c.index-xs-i.result c.index-xs-i.is) c.place-i.ensures.low c.place-i.ensures.high (ap (λ (e : g.row.K.Denot × g.row.V.Denot). g.K.Ord.cmp c.args.key.now e.0) (sym c.deref.ensures) ∙ sym c.in-Less.ensures) in h.removes

pub returns-in-Less-clause-absent : goal.returns-in-Less-clause-absent
returns-in-Less-clause-absent g c = let h = at_less g.K.Ord.cmp g.met.K.Ord.total g.met.K.Key.exact c.args.key.now (map arc_value c.args.xs.now) c.place-i.result (arc_value c.index-xs-i.result) c.requires (simp length-map c.place-i.ensures.in_range) (read_map arc_value c.args.xs.now c.place-i.result c.index-xs-i.result c.index-xs-i.is) c.place-i.ensures.low c.place-i.ensures.high (ap (λ (e : g.row.K.Denot × g.row.V.Denot). g.K.Ord.cmp c.args.key.now e.0) (sym c.deref.ensures) ∙ sym c.in-Less.ensures) in λ _. h.absent

pub returns-in-Equal-clause-puts : goal.returns-in-Equal-clause-puts
returns-in-Equal-clause-puts g c = let h = at_equal g.K.Ord.cmp g.met.K.Ord.total g.met.K.Key.exact c.args.key.now (map arc_value c.args.xs.now) c.place-i.result (arc_value c.index-xs-i.result) c.requires (simp length-map c.place-i.ensures.in_range) (read_map arc_value c.args.xs.now c.place-i.result c.index-xs-i.result c.index-xs-i.is) c.place-i.ensures.low c.place-i.ensures.high (ap (λ (e : g.row.K.Denot × g.row.V.Denot). g.K.Ord.cmp c.args.key.now e.0) (sym c.deref.ensures) ∙ sym c.in-Equal.ensures) in h.puts

pub returns-in-Equal-clause-removes : goal.returns-in-Equal-clause-removes
returns-in-Equal-clause-removes g c = let h = at_equal g.K.Ord.cmp g.met.K.Ord.total g.met.K.Key.exact c.args.key.now (map arc_value c.args.xs.now) c.place-i.result (arc_value c.index-xs-i.result) c.requires (simp length-map c.place-i.ensures.in_range) (read_map arc_value c.args.xs.now c.place-i.result c.index-xs-i.result c.index-xs-i.is) c.place-i.ensures.low c.place-i.ensures.high (ap (λ (e : g.row.K.Denot × g.row.V.Denot). g.K.Ord.cmp c.args.key.now e.0) (sym c.deref.ensures) ∙ sym c.in-Equal.ensures) in h.removes

pub returns-in-Equal-clause-found : goal.returns-in-Equal-clause-found
returns-in-Equal-clause-found g c = let h = at_equal g.K.Ord.cmp g.met.K.Ord.total g.met.K.Key.exact c.args.key.now (map arc_value c.args.xs.now) c.place-i.result (arc_value c.index-xs-i.result) c.requires (simp length-map c.place-i.ensures.in_range) (read_map arc_value c.args.xs.now c.place-i.result c.index-xs-i.result c.index-xs-i.is) c.place-i.ensures.low c.place-i.ensures.high (ap (λ (e : g.row.K.Denot × g.row.V.Denot). g.K.Ord.cmp c.args.key.now e.0) (sym c.deref.ensures) ∙ sym c.in-Equal.ensures) in λ _. head_at (λ e. find g.K.Ord.cmp c.args.key.now (map arc_value c.args.xs.now) ≡ Some e.1) arc_value c.args.xs.now c.place-i.result c.index-xs-i.result c.place-i.ensures.in_range c.index-xs-i.is h.found

pub returns-in-Greater-clause-puts : goal.returns-in-Greater-clause-puts
returns-in-Greater-clause-puts g c = let h = at_greater g.K.Ord.cmp g.met.K.Ord.total g.met.K.Key.exact c.args.key.now (map arc_value c.args.xs.now) c.place-i.result (arc_value c.index-xs-i.result) c.requires (simp length-map c.place-i.ensures.in_range) (read_map arc_value c.args.xs.now c.place-i.result c.index-xs-i.result c.index-xs-i.is) c.place-i.ensures.low c.place-i.ensures.high (ap (λ (e : g.row.K.Denot × g.row.V.Denot). g.K.Ord.cmp c.args.key.now e.0) (sym c.deref.ensures) ∙ sym c.in-Greater.ensures) in h.puts

pub returns-in-Greater-clause-removes : goal.returns-in-Greater-clause-removes
returns-in-Greater-clause-removes g c = let h = at_greater g.K.Ord.cmp g.met.K.Ord.total g.met.K.Key.exact c.args.key.now (map arc_value c.args.xs.now) c.place-i.result (arc_value c.index-xs-i.result) c.requires (simp length-map c.place-i.ensures.in_range) (read_map arc_value c.args.xs.now c.place-i.result c.index-xs-i.result c.index-xs-i.is) c.place-i.ensures.low c.place-i.ensures.high (ap (λ (e : g.row.K.Denot × g.row.V.Denot). g.K.Ord.cmp c.args.key.now e.0) (sym c.deref.ensures) ∙ sym c.in-Greater.ensures) in h.removes

pub returns-in-Greater-clause-absent : goal.returns-in-Greater-clause-absent
returns-in-Greater-clause-absent g c = let h = at_greater g.K.Ord.cmp g.met.K.Ord.total g.met.K.Key.exact c.args.key.now (map arc_value c.args.xs.now) c.place-i.result (arc_value c.index-xs-i.result) c.requires (simp length-map c.place-i.ensures.in_range) (read_map arc_value c.args.xs.now c.place-i.result c.index-xs-i.result c.index-xs-i.is) c.place-i.ensures.low c.place-i.ensures.high (ap (λ (e : g.row.K.Denot × g.row.V.Denot). g.K.Ord.cmp c.args.key.now e.0) (sym c.deref.ensures) ∙ sym c.in-Greater.ensures) in λ _. h.absent
