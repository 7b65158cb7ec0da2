use Rattle.std.proofs.Common.{ap, ◌∙◌}
use Rattle.cmis_spec.specs.Repository.{Repository}
use Rattle.cm_state.specs.Kept.{repository_of}
use Rattle.cm_people.proofs.Others.{beside_log}
use Rattle.cm_people.proofs.adopt.with_log.Goals as goal

pub invariant_of-result : goal.invariant_of-result
invariant_of-result c =
    beside_log c.parts.inside c.with_log-lists.result (ap (λ l. l.objects) c.with_log-lists.ensures) (ap (λ l. l.series) c.with_log-lists.ensures) c.parts.invariant

pub returns : goal.returns
returns c =
    ap (λ l. repository_of (record c.parts.inside { lists = l })) c.with_log-lists.ensures
    ∙ ap (λ (r : Repository). record r { log = c.args.log }) c.parts.view_is
