use Rattle.std.proofs.Common.{◌==◌, not, filter, option_copied, sym, ap, subst, ◌∙◌}
use Rattle.cm_content.specs.Indexed.{IsIndexOf}
use Rattle.cm_content.proofs.Indexing.{index_without, index_stays}
use Rattle.cm_content.proofs.renditions.Renditions.index_without.Goals as goal

pub returns-in_ok-index-in-Some : goal.returns-in_ok-index-in-Some
returns-in_ok-index-in-Some c =
    let s = c.self.inside in
    subst (λ l. IsIndexOf (filter (λ d. not (d.id.0 == c.args.number)) l) c.in_ok-index-in-Some.index) c.self.view_is
    (index_without c.args.number s.table c.in-Some.rendition.now s.by_document c.in_ok-index-in-Some.index c.self.invariant (sym c.get.ensures ∙ ap option_copied c.in-Some.is) c.in_ok-index-in-Some.ensures.found)

pub returns-in_ok-index-in-None : goal.returns-in_ok-index-in-None
returns-in_ok-index-in-None c =
    let s = c.self.inside in
    subst (λ l. IsIndexOf (filter (λ d. not (d.id.0 == c.args.number)) l) c.in_ok-index-in-None.index) c.self.view_is
    (index_stays c.args.number s.table s.by_document c.in_ok-index-in-None.index c.self.invariant (sym c.get.ensures ∙ ap option_copied c.in-None.is) c.in_ok-index-in-None.ensures)
