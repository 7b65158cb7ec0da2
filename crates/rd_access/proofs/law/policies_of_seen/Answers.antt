use Rattle.std.proofs.Common.{ap}
use Rattle.std.specs.Prelude.{◌&&◌}
use Rattle.std.specs.List.{list_any}
use Rattle.cm_base.specs.declared.cause.Cause.TheVariants as causes
use Rattle.call_parts.specs.declared.readings.PropertyFilter.TheVariants as filters
use Rattle.cmis_spec.specs.Repository.{same}
use Rattle.cmis_spec.specs.Access.{policies_of}
use Rattle.cm_see.specs.Addressed.{addressed}
use Rattle.cm_see.proofs.Answers.{addressed_alike, answer_alike}
use Rattle.cm_see.proofs.Worlds.{AreAlike}
use Rattle.rd_lists.specs.Listed.{objects_reply}
use Rattle.rd_lists.proofs.Among.{numbered_alike, objects_alike, passing_here}
use Rattle.rd_access.proofs.law.policies_of_seen.Goals as goal

pub returns : goal.returns
returns c r u q w other v e =
    let a : AreAlike r other u = record { well = w; other_well = v; alike = e } in
    answer_alike r other u causes.NotFound (addressed r u q.place) (addressed other u q.place)
    (λ x. objects_reply r u filters.All q.succinct (policies_of r u x.id))
    (λ x. objects_reply other u filters.All q.succinct (policies_of other u x.id))
    (addressed_alike r other u q.place a)
    (λ x h. objects_alike r other u a filters.All q.succinct (policies_of r u x.id) (policies_of other u x.id)
    (numbered_alike r other u a (policies_of r u x.id) (policies_of other u x.id)
    (passing_here r u (λ p. list_any (λ a. same a.policy p.id && same a.object x.id) r.applied) w.numbers)
    (passing_here other u (λ p. list_any (λ a. same a.policy p.id && same a.object x.id) other.applied) v.numbers)
    (ap (λ o. o.policies) h.alike)))
