use Rattle.std.proofs.Common.{arith, ◌≡◌, ◌∙◌, ◌+◌, ◌++◌, ◌∷◌, [], ◌-◌, map, take, append-nil, sym, ap}
use Rattle.cm_map.specs.Parts.{pointee}
use Rattle.cm_types.specs.Types.{longest_chain, subtypes}
use Rattle.type_tree.specs.Trees.{rows_of}
use Rattle.type_tree.proofs.Grouping.{level_more, no_rows, shown_more}
use Rattle.type_tree.proofs.rows.+add_rows.Goals as goal
use Rattle.type_tree.proofs.rows.+add_rows.Goals.{in-Some+in_ok-add_rows-in-Some, in-None}

pub overflow_add-level : goal.overflow_add-level
unfolding longest_chain
overflow_add-level t c = omega arith

pub loop-def-preserved : goal.loop-def-preserved
loop-def-preserved t c =
    let levels = c.args.levels in
    let level = c.args.level in
    let types = c.args.forest.now in
    let d = c.def-item.result in
    let shown : map pointee (take (c.loop-def.def-index + 1) c.args.tops.now) ≡ map pointee (take c.loop-def.def-index c.args.tops.now) ++ d.now ∷ [] =
    shown_more c.args.tops.now c.loop-def.def-index d c.loop-def-test.true c.def-item.is in
    let below : c.match-subtypes.rows ≡ c.add_row.new.rows ++ rows_of (levels - 1) types (level + 1) (subtypes types d.now.id) =
    elim c.match-subtypes.branch [
      | in-Some+in_ok-add_rows-in-Some w ↦ w.rows-is ∙ (w.in_ok-add_rows-in-Some.ensures ∙ ap (λ ts. c.add_row.new.rows ++ rows_of (levels - 1) types (level + 1) ts) (ap (map pointee) w.deref.ensures.value ∙ w.in-Some.ensures))
      | in-None w ↦ w.rows-is ∙ (sym (append-nil c.add_row.new.rows) ∙ ap (λ all. c.add_row.new.rows ++ all) (sym (no_rows (levels - 1) types (level + 1)) ∙ ap (λ ts. rows_of (levels - 1) types (level + 1) ts) w.in-None.ensures))
    ] in
    level_more levels level types c.args.rows.now c.loop-def.rows c.add_row.new.rows c.match-subtypes.rows (map pointee (take c.loop-def.def-index c.args.tops.now)) d.now
    c.if-levels-eq0.false c.loop-def.invariant c.in_ok-add_row.ensures below
    ∙ ap (λ ts. c.args.rows.now ++ rows_of levels types level ts) (sym shown)
