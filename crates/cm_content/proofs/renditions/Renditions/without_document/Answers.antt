use Rattle.std.proofs.Common.{◌==◌, not, map, filter, option_copied, sym, ap, subst, ◌∙◌}
use Rattle.std.specs.List.{list_any}
use Rattle.cmis_spec.specs.Repository.{same}
use Rattle.cm_content.proofs.Indexing.{document_gone, all_pass}
use Rattle.cm_content.proofs.renditions.Renditions.without_document.Goals as goal

pub returns-in_ok-left-in-Some : goal.returns-in_ok-left-in-Some
returns-in_ok-left-in-Some c =
    let s = c.self.inside in
    c.in_ok-left-in-Some.ensures
    ∙ (ap (λ l. filter (λ d. not (list_any (λ q. d.id.0 == q) l)) c.args.self.now) (c.deref.ensures.value ∙ c.in_ok-gone-in-Some.ensures.value)
    ∙ (ap (filter (λ d. not (list_any (λ q. d.id.0 == q) (map (λ e. e.0) c.in-Some.numbers.now)))) (sym c.self.view_is)
    ∙ (document_gone c.args.document s.table s.by_document c.self.invariant c.len-rising.ensures.rising _ (ap option_copied (sym c.in-Some.is) ∙ c.bucket.ensures) c.in_ok-gone-in-Some.ensures.sorted
    ∙ ap (filter (λ d. not (same d.of c.args.document))) c.self.view_is)))

pub returns-in_ok-left-in-None : goal.returns-in_ok-left-in-None
returns-in_ok-left-in-None c =
    let s = c.self.inside in
    c.in_ok-left-in-None.ensures
    ∙ (sym c.self.view_is
    ∙ (sym (all_pass s.table)
    ∙ (document_gone c.args.document s.table s.by_document c.self.invariant c.len-rising.ensures.rising _ (ap option_copied (sym c.in-None.is) ∙ c.bucket.ensures) tt
    ∙ ap (filter (λ d. not (same d.of c.args.document))) c.self.view_is)))
