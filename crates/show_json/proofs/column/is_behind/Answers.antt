use Rattle.std.proofs.Common.{◌≡◌, ◌++◌, ◌∷◌, [], sym, subst, ◌∙◌}
use Rattle.show_json.specs.Ordered.{AreRising, placed}
use Rattle.show_json.specs.Columns.{id_of}
use Rattle.show_json.proofs.Rising.{greater, placed_behind}
use Rattle.show_json.proofs.column.is_behind.Goals as goal

pub returns-in-Some : goal.returns-in-Some
returns-in-Some c h =
    let x = c.args.column.now in
    let split = c.in-Some.ensures.cases.0 in
    subst (λ l. placed id_of x l ≡ l ++ x ∷ []) (sym split)
    (placed_behind id_of _ c.in-Some.last.now x (subst (AreRising id_of) split c.requires.rising) (sym c.order.ensures ∙ greater c.order.result (sym c.is_gt.ensures ∙ h)))
