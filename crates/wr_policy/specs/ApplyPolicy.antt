-- applyPolicy (CMIS 1.1, section 2.2.9.1): when it is refused, what it makes of the repository, and what it answers.
use Rattle.std.specs.Prelude.{ℕ, Bool, false, not, if◌then◌else◌, List, [], ◌∷◌, unwrap_or, option_map}
use Rattle.cm_base.specs.declared.number.Oid.{Oid}
use Rattle.cm_base.specs.declared.number.Moment.{Moment}
use Rattle.cm_base.specs.declared.object.Object.{Object}
use Rattle.cm_base.specs.declared.access.Level.TheVariants as levels
use Rattle.cm_base.specs.declared.log.ChangeKind.TheVariants as changes
use Rattle.cm_base.specs.declared.cause.Cause.TheVariants as causes
use Rattle.cm_base.specs.Judged.{Judged, ◌>>=◌, ◌>>◌, refuse, find_or}
use Rattle.cm_types.specs.declared.definition.BaseType.TheVariants as bases
use Rattle.call_parts.specs.declared.readings.PropertyFilter.TheVariants as filters
use Rattle.call_parts.specs.declared.replies.ObjectReply.{ObjectReply}
use Rattle.policy_parts.specs.declared.writes.ApplyPolicy.{ApplyPolicy}
use Rattle.policy_parts.specs.Weight.{weight_of_apply_policy}
use Rattle.cm_see.specs.Addressed.{addressed}
use Rattle.cm_see.specs.Shown.{shown_object}
use Rattle.cmis_spec.specs.Repository.{Repository, root_folder, is_a, type_of}
use Rattle.cmis_spec.specs.Access.{lacks, read_named}
use Rattle.cmis_spec.specs.Changes.{stepped, noted}
use Rattle.cmis_spec.specs.Documents.{with_policies}
use Rattle.wr_rules.specs.Rules.{judge_storage}
use Rattle.cm_state.specs.Looks.{is_applied}
use Rattle.wr_policy.specs.Applied.{number_or_root}

abbrev pub cost_apply_policy : ApplyPolicy → ℕ
cost_apply_policy call = weight_of_apply_policy call

-- ---- the refusal

-- policies are not applied to objects of its type
abbrev pub takes_no_policy : Repository → Object → Bool
takes_no_policy r x = unwrap_or (option_map (λ t. not t.controllable_policy) (type_of r x)) false

-- the caller may write in the object, and the policy is one that its type takes
abbrev pub judge_application : Repository → List ℕ → Object → Object → Judged (Unit {0})
judge_application r u x policy = do
  refuse causes.Denied (lacks r u levels.Write x)
  refuse causes.WrongKind (not (is_a r bases.Policy policy))
  refuse causes.NotControllable (takes_no_policy r x)

abbrev pub refusal_apply_policy : Repository → List ℕ → ℕ → ApplyPolicy → Judged (Unit {0})
refusal_apply_policy r u cost call = do
  judge_storage r cost
  x ← find_or causes.NotFound (addressed r u call.place)
  policy ← find_or causes.NotFound (read_named r u call.policy)
  judge_application r u x policy

-- ---- the repository after it

-- the policy on the object; where it is there already nothing changes but the step
abbrev pub applied_to : Repository → Moment → ℕ → Oid → Oid → Repository
applied_to r m cost policy object =
    if is_applied r policy object then stepped r cost
    else noted (stepped (with_policies r object (policy ∷ [])) cost) changes.Updated object m []

abbrev pub after_apply_policy_of : Repository → List ℕ → Moment → ℕ → ApplyPolicy → Object → Repository
after_apply_policy_of r u m cost call x = applied_to r m cost (number_or_root (read_named r u call.policy)) x.id

abbrev pub after_apply_policy : Repository → List ℕ → Moment → ℕ → ApplyPolicy → Repository
after_apply_policy r u m cost call = unwrap_or (option_map (after_apply_policy_of r u m cost call) (addressed r u call.place)) r

-- ---- the reply

-- the object as the caller sees it after the step; where nothing is addressed the call is refused, and a root stands for it
abbrev pub acknowledgement_apply_policy : Repository → List ℕ → Moment → ℕ → ApplyPolicy → ObjectReply
acknowledgement_apply_policy r u m cost call = record {
  object = shown_object (after_apply_policy r u m cost call) u filters.All call.succinct (unwrap_or (addressed r u call.place) (root_folder u m r.step));
  created = false;
}
