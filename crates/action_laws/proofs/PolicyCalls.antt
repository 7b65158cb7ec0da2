-- Policies that are not applied or taken off, and policies that are.
use Rattle.std.specs.Prelude.{◌≡◌, ℕ, true, not, List}
use Rattle.std.proofs.Common.{refl}
use Rattle.cm_base.specs.declared.access.Level.TheVariants as levels
use Rattle.cm_base.specs.declared.cause.Cause.TheVariants as causes
use Rattle.cm_base.specs.Judged.{◌>>=◌, find_or}
use Rattle.cm_types.specs.declared.definition.BaseType.TheVariants as bases
use Rattle.action_parts.specs.declared.action.Action.TheVariants as actions
use Rattle.policy_parts.specs.declared.writes.ApplyPolicy.{ApplyPolicy}
use Rattle.policy_parts.specs.declared.writes.RemovePolicy.{RemovePolicy}
use Rattle.cm_see.specs.Addressed.{addressed}
use Rattle.cmis_spec.specs.Repository.{Repository, is_a, type_of}
use Rattle.cmis_spec.specs.Access.{is_at_least, level_of_caller, read_named}
use Rattle.cmis_spec.specs.Well.{IsWellFormed}
use Rattle.wr_rules.specs.Rules.{judge_storage}
use Rattle.wr_policy.specs.ApplyPolicy.{judge_application, refusal_apply_policy, takes_no_policy}
use Rattle.wr_policy.specs.RemovePolicy.{judge_removal, refusal_remove_policy}
use Rattle.cm_actions.specs.Allowed.{by_type}
use Rattle.action_laws.specs.Refused.{IsBarred, IsRefused, MayDo, NoneComes}
use Rattle.action_laws.proofs.Controls.{changed_by_type, has_type, kept_by_type}
use Rattle.action_laws.proofs.Judging.{application_lines, at_any, at_later, at_object, taking_off_lines}
use Rattle.action_laws.proofs.Passing.{application_free, find_aside, found, none_comes, stands_for, taking_off_free, written}

module _ (r : Repository) (u : List ℕ) (cost : ℕ) where
  pub apply_policy : (call : ApplyPolicy) → IsWellFormed r → IsBarred r u call.place actions.ApplyPolicy → IsRefused (refusal_apply_policy r u cost call)
  apply_policy call w b =
      let x = b.object in
      at_later (judge_storage r cost) (find_or causes.NotFound (addressed r u call.place) >>= (λ y. find_or causes.NotFound (read_named r u call.policy) >>= judge_application r u y))
      (at_object (addressed r u call.place) x (λ y. find_or causes.NotFound (read_named r u call.policy) >>= judge_application r u y) b.found
      (at_any (find_or causes.NotFound (read_named r u call.policy)) (judge_application r u x)
      (λ policy. application_lines causes.Denied causes.WrongKind causes.NotControllable
      (is_at_least levels.Write (level_of_caller r u x)) (by_type r x (λ t. t.controllable_policy)) (not (is_a r bases.Policy policy)) (takes_no_policy r x)
      (kept_by_type (type_of r x) (λ t. t.controllable_policy) (has_type r u x call.place w b.found)) b.barred)))

  pub remove_policy : (call : RemovePolicy) (b : IsBarred r u call.place actions.RemovePolicy) → by_type r b.object (λ t. t.controllable_policy) ≡ true → IsRefused (refusal_remove_policy r u cost call)
  remove_policy call b takes =
      let x = b.object in
      at_later (judge_storage r cost) (find_or causes.NotFound (addressed r u call.place) >>= (λ y. find_or causes.NotFound (read_named r u call.policy) >>= judge_removal r u y))
      (at_object (addressed r u call.place) x (λ y. find_or causes.NotFound (read_named r u call.policy) >>= judge_removal r u y) b.found
      (at_any (find_or causes.NotFound (read_named r u call.policy)) (judge_removal r u x)
      (λ policy. taking_off_lines causes.Denied causes.WrongKind
      (is_at_least levels.Write (level_of_caller r u x)) (by_type r x (λ t. t.controllable_policy)) (not (is_a r bases.Policy policy)) b.barred takes)))

  pub apply_policy_allowed : (call : ApplyPolicy) → MayDo r u call.place actions.ApplyPolicy → NoneComes actions.ApplyPolicy (refusal_apply_policy r u cost call)
  apply_policy_allowed call b =
      let p = stands_for actions.ApplyPolicy in
      let x = b.object in
      none_comes actions.ApplyPolicy (refusal_apply_policy r u cost call) refl
      (written p r cost (addressed r u call.place) x (λ y. find_or causes.NotFound (read_named r u call.policy) >>= judge_application r u y) (λ i j k. refl) b.found
      (found p (find_or causes.NotFound (read_named r u call.policy)) (judge_application r u x) (find_aside p causes.NotFound (read_named r u call.policy) refl)
      (λ policy. application_free p (is_at_least levels.Write (level_of_caller r u x)) (by_type r x (λ t. t.controllable_policy)) (not (is_a r bases.Policy policy)) (takes_no_policy r x)
      b.allowed (changed_by_type (type_of r x) (λ t. t.controllable_policy)) refl)))

  pub remove_policy_allowed : (call : RemovePolicy) → MayDo r u call.place actions.RemovePolicy → NoneComes actions.RemovePolicy (refusal_remove_policy r u cost call)
  remove_policy_allowed call b =
      let p = stands_for actions.RemovePolicy in
      let x = b.object in
      none_comes actions.RemovePolicy (refusal_remove_policy r u cost call) refl
      (written p r cost (addressed r u call.place) x (λ y. find_or causes.NotFound (read_named r u call.policy) >>= judge_removal r u y) (λ i j k. refl) b.found
      (found p (find_or causes.NotFound (read_named r u call.policy)) (judge_removal r u x) (find_aside p causes.NotFound (read_named r u call.policy) refl)
      (λ policy. taking_off_free p (is_at_least levels.Write (level_of_caller r u x)) (by_type r x (λ t. t.controllable_policy)) (not (is_a r bases.Policy policy)) b.allowed refl)))
