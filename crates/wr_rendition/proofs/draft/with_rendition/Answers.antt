use Rattle.std.proofs.Common.{ap, sym, subst, ◌∙◌, ◌+◌, ◌<◌, All}
use Rattle.cmis_spec.specs.Repository.{Repository}
use Rattle.cm_state.specs.Kept.{repository_of}
use Rattle.wr_rendition.specs.AddRendition.{with_rendition}
use Rattle.wr_rendition.proofs.Parts.{beside_parts}
use Rattle.wr_rendition.proofs.draft.with_rendition.Goals as goal

pub invariant_of-result : goal.invariant_of-result
invariant_of-result c = beside_parts c.parts.inside c.in_ok-lists.lists (c.parts.inside.next + 1) (ap (λ l. l.objects) c.in_ok-lists.ensures) (ap (λ l. l.series) c.in_ok-lists.ensures) c.parts.invariant

pub returns : goal.returns
returns c = ap (λ l. repository_of (record c.parts.inside { lists = l; next = c.parts.inside.next + 1 })) c.in_ok-lists.ensures
    ∙ ap (λ (r : Repository). with_rendition r c.args.rendition) (c.parts.view_is ∙ c.draft.view_is)

pub lists_with-requires : goal.lists_with-requires
lists_with-requires c = record { above = subst (λ r. All (λ d. d.id.0 < c.args.rendition.id.0) r.renditions) (sym (c.parts.view_is ∙ c.draft.view_is)) c.requires.above }
