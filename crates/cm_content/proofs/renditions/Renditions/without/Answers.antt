use Rattle.std.proofs.Common.{◌==◌, not, filter, sym, ap, subst, ◌∙◌}
use Rattle.cm_content.specs.Indexed.{IsIndexOf}
use Rattle.cm_content.proofs.renditions.Renditions.without.Goals as goal

pub invariant_of-result : goal.invariant_of-result
invariant_of-result c =
    subst (λ l. IsIndexOf l c.in_ok-by_document.by_document) (ap (filter (λ d. not (d.id.0 == c.args.number))) (sym c.self.view_is) ∙ sym c.in_ok-table.ensures) c.in_ok-by_document.ensures
