use Rattle.std.proofs.Common.{◌==◌, filter, filter_map, find, map, option_copied, sym, ap, ◌∙◌}
use Rattle.cm_map.specs.Parts.{pointee}
use Rattle.cmis_spec.specs.Repository.{same}
use Rattle.cm_content.proofs.Indexing.{document_found}
use Rattle.cm_content.proofs.renditions.Renditions.of_document.Goals as goal

pub returns-in_ok-all-in-Some : goal.returns-in_ok-all-in-Some
returns-in_ok-all-in-Some c =
    let s = c.self.inside in
    c.in_ok-all-in-Some.ensures.value
    ∙ (ap (λ l. filter_map (λ e. find (λ d. d.id.0 == e.0) l) c.in-Some.numbers.now) (sym c.self.view_is)
    ∙ (document_found c.args.document s.table s.by_document c.self.invariant c.len-rising.ensures.rising _ (ap option_copied (sym c.in-Some.is) ∙ c.bucket.ensures) c.in_ok-all-in-Some.ensures.sorted
    ∙ ap (filter (λ d. same d.of c.args.document)) c.self.view_is))

pub returns-in-None : goal.returns-in-None
returns-in-None c =
    let s = c.self.inside in
    ap (map pointee) c.new.ensures.items
    ∙ (document_found c.args.document s.table s.by_document c.self.invariant c.len-rising.ensures.rising _ (ap option_copied (sym c.in-None.is) ∙ c.bucket.ensures) tt
    ∙ ap (filter (λ d. same d.of c.args.document)) c.self.view_is)
