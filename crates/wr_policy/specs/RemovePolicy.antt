-- removePolicy (CMIS 1.1, section 2.2.9.2): when it is refused, and what it makes of the repository. Its reply is empty.
use Rattle.std.specs.Prelude.{ℕ, not, if◌then◌else◌, List, [], unwrap_or, option_map}
use Rattle.cm_base.specs.declared.number.Oid.{Oid}
use Rattle.cm_base.specs.declared.number.Moment.{Moment}
use Rattle.cm_base.specs.declared.object.Object.{Object}
use Rattle.cm_base.specs.declared.access.Level.TheVariants as levels
use Rattle.cm_base.specs.declared.log.ChangeKind.TheVariants as changes
use Rattle.cm_base.specs.declared.cause.Cause.TheVariants as causes
use Rattle.cm_base.specs.Judged.{Judged, ◌>>=◌, ◌>>◌, refuse, find_or}
use Rattle.cm_types.specs.declared.definition.BaseType.TheVariants as bases
use Rattle.policy_parts.specs.declared.writes.RemovePolicy.{RemovePolicy}
use Rattle.policy_parts.specs.Weight.{weight_of_remove_policy}
use Rattle.cm_see.specs.Addressed.{addressed}
use Rattle.cmis_spec.specs.Repository.{Repository, is_a}
use Rattle.cmis_spec.specs.Access.{lacks, read_named}
use Rattle.cmis_spec.specs.Changes.{stepped, noted}
use Rattle.wr_rules.specs.Rules.{judge_storage}
use Rattle.cm_state.specs.Looks.{is_applied}
use Rattle.wr_policy.specs.Applied.{without_policy, number_or_root}

abbrev pub cost_remove_policy : RemovePolicy → ℕ
cost_remove_policy call = weight_of_remove_policy call

-- ---- the refusal

-- the caller may write in the object, and what he names is a policy
abbrev pub judge_removal : Repository → List ℕ → Object → Object → Judged (Unit {0})
judge_removal r u x policy = do
  refuse causes.Denied (lacks r u levels.Write x)
  refuse causes.WrongKind (not (is_a r bases.Policy policy))

abbrev pub refusal_remove_policy : Repository → List ℕ → ℕ → RemovePolicy → Judged (Unit {0})
refusal_remove_policy r u cost call = do
  judge_storage r cost
  x ← find_or causes.NotFound (addressed r u call.place)
  policy ← find_or causes.NotFound (read_named r u call.policy)
  judge_removal r u x policy

-- ---- the repository after it

-- the policy off the object; where it isn't there nothing changes but the step
abbrev pub taken_off : Repository → Moment → ℕ → Oid → Oid → Repository
taken_off r m cost policy object =
    if is_applied r policy object then noted (stepped (without_policy r policy object) cost) changes.Updated object m []
    else stepped r cost

abbrev pub after_remove_policy_of : Repository → List ℕ → Moment → ℕ → RemovePolicy → Object → Repository
after_remove_policy_of r u m cost call x = taken_off r m cost (number_or_root (read_named r u call.policy)) x.id

abbrev pub after_remove_policy : Repository → List ℕ → Moment → ℕ → RemovePolicy → Repository
after_remove_policy r u m cost call = unwrap_or (option_map (after_remove_policy_of r u m cost call) (addressed r u call.place)) r
