-- Properties that are not updated, and properties that are.
use Rattle.std.specs.Prelude.{◌≡◌, ℕ, Bool, false, ◌&&◌, not, if◌then◌else◌, List, Option, Some, None, option_and_then}
use Rattle.std.proofs.Common.{refl}
use Rattle.cm_base.specs.declared.number.Moment.{Moment}
use Rattle.cm_base.specs.declared.access.Level.TheVariants as levels
use Rattle.cm_base.specs.declared.cause.Cause.{Cause}
use Rattle.cm_base.specs.Names.{is_name}
use Rattle.cm_base.specs.declared.cause.Cause.TheVariants as causes
use Rattle.cm_base.specs.Judged.{◌>>=◌, ◌>>◌, find_or, first_cause, judge_by}
use Rattle.cm_types.specs.declared.given.PropertyCall.TheVariants as calls
use Rattle.cm_types.specs.Properties.{judge_properties}
use Rattle.action_parts.specs.declared.action.Action.TheVariants as actions
use Rattle.call_parts.specs.declared.changes.UpdateProperties.{UpdateProperties}
use Rattle.cm_see.specs.Addressed.{addressed}
use Rattle.cmis_spec.specs.Repository.{Repository, same, root}
use Rattle.cmis_spec.specs.Access.{is_at_least, level_of_caller}
use Rattle.cmis_spec.specs.Documents.{is_working_copy, judge_changeable}
use Rattle.cmis_spec.specs.Retention.{ends_before, judge_retention, retained_until}
use Rattle.wr_rules.specs.Documents.{form_slots, name_after}
use Rattle.wr_rules.specs.Rules.{has_other_secondary, judge_storage, judge_token, unknown_type}
use Rattle.wr_change.specs.Update.{gives_name, judge_new_name, judge_update, props_updated, refusal_update, secondary_named, secondary_updated, takes_name, values_updated}
use Rattle.action_laws.specs.Refused.{IsBarred, IsRefused, MayDo, NoneComes}
use Rattle.action_laws.proofs.Judging.{at_later, at_object, update_lines}
use Rattle.action_laws.proofs.Passing.{if_aside, is_by, later, none_comes, properties_aside, stands_for, token_aside, two_aside, types_aside, update_free, written}

module _ (r : Repository) (u : List ℕ) (m : Moment) (cost : ℕ) where
  pub update : (call : UpdateProperties) → IsBarred r u call.place actions.UpdateProperties → IsRefused (refusal_update r u m cost call)
  update call b =
      let x = b.object in
      at_later (judge_storage r cost) (find_or causes.NotFound (addressed r u call.place) >>= judge_update r u m call)
      (at_object (addressed r u call.place) x (judge_update r u m call) b.found
      (update_lines causes.Denied causes.RootFixed causes.TypeKind (first_cause (unknown_type r.types) (secondary_named call)) (judge_token x call.token) (judge_changeable r x)
      (judge_properties (calls.Update (is_working_copy r x)) (props_updated r call x) (form_slots r x) call.properties >> judge_new_name r call x >> judge_retention r m (secondary_updated call x) (values_updated r call x) x)
      (is_at_least levels.Write (level_of_caller r u x)) (same x.id root && gives_name call) (has_other_secondary r.types (secondary_named call)) b.barred))

  -- a retention that is shortened is another cause
  then_aside : (p : Cause → Bool) (o : Option Moment) (ends : Moment → Bool) → ((e : Moment) → p (causes.Shortened m e) ≡ false)
      → is_by p (judge_by (option_and_then (λ e. if ends e then Some (causes.Shortened m e) else None) o)) ≡ false
  then_aside p None ends k = refl
  then_aside p (Some e) ends k = if_aside p (causes.Shortened m e) (ends e) (k e)

  pub update_allowed : (call : UpdateProperties) → MayDo r u call.place actions.UpdateProperties → NoneComes actions.UpdateProperties (refusal_update r u m cost call)
  update_allowed call b =
      let p = stands_for actions.UpdateProperties in
      let x = b.object in
      let given = judge_properties (calls.Update (is_working_copy r x)) (props_updated r call x) (form_slots r x) call.properties in
      let kept = judge_retention r m (secondary_updated call x) (values_updated r call x) x in
      none_comes actions.UpdateProperties (refusal_update r u m cost call) refl
      (written p r cost (addressed r u call.place) x (judge_update r u m call) (λ i j k. refl) b.found
      (update_free p (is_at_least levels.Write (level_of_caller r u x)) (judge_changeable r x) (same x.id root && gives_name call) (has_other_secondary r.types (secondary_named call))
      (first_cause (unknown_type r.types) (secondary_named call)) (judge_token x call.token) (given >> judge_new_name r call x >> kept) b.allowed refl refl
      (types_aside p r.types (secondary_named call) refl) (token_aside p x call.token (λ text. refl))
      (later p given (judge_new_name r call x >> kept)
      (properties_aside p (calls.Update (is_working_copy r x)) (props_updated r call x) (form_slots r x) call.properties (λ id fault. refl))
      (later p (judge_new_name r call x) kept
      (two_aside p causes.BadName causes.NameTaken (not (is_name (name_after r x call.properties))) (takes_name r x (name_after r x call.properties)) refl refl)
      (then_aside p (retained_until r m x) (ends_before r.types (secondary_updated call x) (values_updated r call x)) (λ e. refl))))))
