use Rattle.std.proofs.Common.{ap, ◌∙◌}
use Rattle.cmis_spec.specs.Repository.{Repository}
use Rattle.cm_state.specs.Kept.{repository_of}
use Rattle.cm_draft.proofs.Changed.{beside_parts}
use Rattle.cm_draft.proofs.made.put_renditions.Goals as goal

pub invariant_of-result : goal.invariant_of-result
invariant_of-result c =
    beside_parts c.parts.inside c.with_renditions-lists.result (ap (λ l. l.objects) c.with_renditions-lists.ensures) (ap (λ l. l.series) c.with_renditions-lists.ensures) c.parts.invariant

pub returns : goal.returns
returns c =
    ap (λ l. repository_of (record c.parts.inside { lists = l })) c.with_renditions-lists.ensures
    ∙ ap (λ (r : Repository). record r { renditions = c.args.renditions }) (c.parts.view_is ∙ c.draft.view_is)
