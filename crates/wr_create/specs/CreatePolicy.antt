-- createPolicy (CMIS 1.1, section 2.2.4.5): when it is refused, what it makes of the repository, and what it answers.
use Rattle.std.specs.Prelude.{ℕ, List, None, is_some}
use Rattle.cm_base.specs.declared.number.Moment.{Moment}
use Rattle.cm_base.specs.declared.cause.Cause.TheVariants as causes
use Rattle.cm_base.specs.Judged.{Judged, ◌>>=◌, ◌>>◌, refuse, find_or, first_cause}
use Rattle.cm_types.specs.declared.definition.TypeDef.{TypeDef}
use Rattle.cm_types.specs.declared.definition.BaseType.TheVariants as bases
use Rattle.cm_types.specs.Types.{type_in}
use Rattle.call_parts.specs.declared.replies.ObjectReply.{ObjectReply}
use Rattle.create_parts.specs.declared.writes.CreatePolicy.{CreatePolicy}
use Rattle.create_parts.specs.Weight.{weight_of_create_policy}
use Rattle.cmis_spec.specs.Repository.{Repository}
use Rattle.wr_rules.specs.Rules.{judge_storage, unknown_type, unread_cause, has_other_policy}
use Rattle.wr_rules.specs.Wanted.{Wanted, wanted_in}
use Rattle.wr_object.specs.CreateDocument.{may_not_make}
use Rattle.wr_create.specs.declared.making.NewObject.{NewObject}
use Rattle.wr_create.specs.Making.{judge_addressed, judge_type, is_uncontrollable, judge_request, cost_of_making, made_by, after_making, reply_of_making}

abbrev pub cost_create_policy : Repository → CreatePolicy → ℕ
cost_create_policy r call = cost_of_making r (weight_of_create_policy call) call.object.properties

-- ---- the refusal

-- once its type is found; a policy is filed nowhere, so nothing may be addressed
abbrev pub judge_policy : Repository → List ℕ → CreatePolicy → Wanted → TypeDef → Judged (Unit {0})
judge_policy r u call wanted kind = do
  refuse causes.Denied (may_not_make r u None)
  refuse causes.WrongKind (has_other_policy r u call.object.policies)
  refuse causes.NotFileable (is_some call.place)
  judge_type r.types bases.Policy wanted kind
  refuse causes.NotControllable (is_uncontrollable kind call.object)
  judge_request wanted call.object call.object.properties

-- of what the properties say
abbrev pub refusal_of_policy : Repository → List ℕ → ℕ → CreatePolicy → Wanted → Judged (Unit {0})
refusal_of_policy r u cost call wanted = do
  judge_storage r cost
  judge_addressed r u call.place
  first_cause (unread_cause r u) call.object.policies
  kind ← find_or causes.TypeNotFound (type_in r.types wanted.kind)
  first_cause (unknown_type r.types) wanted.secondary
  judge_policy r u call wanted kind

abbrev pub refusal_create_policy : Repository → List ℕ → ℕ → CreatePolicy → Judged (Unit {0})
refusal_create_policy r u cost call = refusal_of_policy r u cost call (wanted_in r.types call.object.properties)

-- ---- the repository after it, and the reply

abbrev pub policy_made : Repository → List ℕ → Moment → CreatePolicy → NewObject
policy_made r u m call = made_by r u m call.object call.object.properties None

abbrev pub after_create_policy : Repository → List ℕ → Moment → ℕ → CreatePolicy → Repository
after_create_policy r u m cost call = after_making r cost (policy_made r u m call)

abbrev pub acknowledgement_create_policy : Repository → List ℕ → Moment → ℕ → CreatePolicy → ObjectReply
acknowledgement_create_policy r u m cost call = reply_of_making r cost u call.succinct (policy_made r u m call)
