use Rattle.std.proofs.Common.{◌||◌, not, false, unwrap_or, option_map, sym, ap, ◌∙◌}
use Rattle.std.specs.List.{list_any}
use Rattle.cmis_spec.specs.Removal.{among}
use Rattle.cm_removal.proofs.Lefts.{has_left_is}
use Rattle.cm_removal.proofs.kept.has_left.Goals as goal

pub returns-then-any_left : goal.returns-then-any_left
returns-then-any_left c =
    let g = among c.args.gone.now in
    let s = c.args.series.now in
    c.if-any_left.true ∙ sym (has_left_is g s ∙ ap (λ b. b || unwrap_or (option_map (λ w. not (g w.copy)) s.working) false)
    (ap (list_any (λ v. not (g v.object))) (sym c.as_slice.ensures) ∙ (sym c.any_left.ensures ∙ c.if-any_left.true)))

pub returns-else-any_left : goal.returns-else-any_left
returns-else-any_left c =
    let g = among c.args.gone.now in
    let s = c.args.series.now in
    c.copy_left.ensures ∙ sym (has_left_is g s ∙ ap (λ b. b || unwrap_or (option_map (λ w. not (g w.copy)) s.working) false)
    (ap (list_any (λ v. not (g v.object))) (sym c.as_slice.ensures) ∙ (sym c.any_left.ensures ∙ c.if-any_left.false)))
