use Rattle.std.proofs.Common.{◌<◌, ◌++◌, ◌∷◌, [], All, sym, ap, subst, ◌∙◌}
use Rattle.cm_content.proofs.Indexing.{index_last}
use Rattle.cm_content.proofs.renditions.Renditions.with_last.Goals as goal

pub invariant_of-result : goal.invariant_of-result
invariant_of-result c =
    let s = c.self.inside in
    index_last s.table c.in_ok-table.table c.args.rendition s.by_document c.in_ok-by_document.by_document c.self.invariant
    (subst (All (λ d. d.id.0 < c.args.rendition.id.0)) (sym c.self.view_is) c.requires.above) c.in_ok-table.ensures c.in_ok-by_document.ensures.found
