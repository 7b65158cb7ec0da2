-- Access control lists that are not changed, and lists that are; what the type of an object lets be changed.
use Rattle.std.specs.Prelude.{◌≡◌, ℕ, Bool, true, false, not, ◌||◌, List, Option, Some, None, is_some, unwrap_or, option_map}
use Rattle.std.proofs.Common.{refl, ap}
use Rattle.std.proofs.lemmas.Bool.{both_ways}
use Rattle.access_parts.specs.declared.writes.ApplyAcl.{ApplyAcl}
use Rattle.cm_base.specs.declared.object.Object.{Object}
use Rattle.cm_base.specs.declared.access.Level.TheVariants as levels
use Rattle.cm_base.specs.declared.cause.Cause.TheVariants as causes
use Rattle.cm_base.specs.Judged.{◌>>=◌, ◌>>◌, find_or, refuse}
use Rattle.cm_types.specs.declared.definition.TypeDef.{TypeDef}
use Rattle.action_parts.specs.declared.action.Action.TheVariants as actions
use Rattle.call_parts.specs.declared.place.Place.{Place}
use Rattle.cm_see.specs.Addressed.{addressed}
use Rattle.cmis_spec.specs.Repository.{Repository, same, entry_of, type_of}
use Rattle.cmis_spec.specs.Access.{is_at_least, level_by_list}
use Rattle.cmis_spec.specs.Well.{IsTyped, IsWellFormed}
use Rattle.cmis_laws.proofs.Lists.{found_holds}
use Rattle.cm_see.proofs.Answers.{addressed_alike}
use Rattle.cm_see.proofs.Worlds.{AreAlike}
use Rattle.wr_rules.specs.Rules.{has_unknown_permission, judge_storage}
use Rattle.wr_access.specs.ApplyAcl.{is_offered, judge_change, keeps_its_list, refusal_apply_acl}
use Rattle.cm_actions.specs.Allowed.{by_type}
use Rattle.action_laws.specs.Refused.{IsBarred, IsRefused, MayDo, NoneComes}
use Rattle.action_laws.proofs.Judging.{access_lines, at_later, at_object}
use Rattle.action_laws.proofs.Passing.{access_free, none_comes, stands_for, two_aside, written}

-- its type is there
pub has_type : (r : Repository) (u : List ℕ) (x : Object) (place : Place) → IsWellFormed r → addressed r u place ≡ Some x → is_some (type_of r x) ≡ true
has_type r u x place w found =
    let a : AreAlike r r u = record { well = w; other_well = w; alike = refl } in
    (found_holds (IsTyped r.types) (λ y. same y.id x.id) r.objects x w.typed ((addressed_alike r r u place a).each x found).here.0).0

-- something is kept exactly where the type doesn't let it be changed
pub kept_by_type : (o : Option TypeDef) (rule : TypeDef → Bool) → is_some o ≡ true → unwrap_or (option_map (λ t. not (rule t)) o) false ≡ not (unwrap_or (option_map rule o) false)
kept_by_type None rule e = absurd (both_ways false refl e)
kept_by_type (Some t) rule e = refl

-- what a type lets be changed is not kept
pub changed_by_type : (o : Option TypeDef) (rule : TypeDef → Bool) → unwrap_or (option_map rule o) false ≡ true → unwrap_or (option_map (λ t. not (rule t)) o) false ≡ false
changed_by_type None rule e = refl
changed_by_type (Some t) rule e = ap not e

module _ (r : Repository) (u : List ℕ) (cost : ℕ) where
  pub apply_acl : (call : ApplyAcl) → IsWellFormed r → IsBarred r u call.place actions.ApplyAcl → IsRefused (refusal_apply_acl r u cost call)
  apply_acl call w b =
      let x = b.object in
      at_later (judge_storage r cost) (find_or causes.NotFound (addressed r u call.place) >>= judge_change r u call)
      (at_object (addressed r u call.place) x (judge_change r u call) b.found
      (access_lines causes.Denied causes.NotControllable
      (refuse causes.Permission (has_unknown_permission call.remove || has_unknown_permission call.add) >> refuse causes.Propagation (not (is_offered call.propagation)))
      (is_at_least levels.All (level_by_list r u (entry_of x))) (by_type r x (λ t. t.controllable_acl)) (keeps_its_list r x) (kept_by_type (type_of r x) (λ t. t.controllable_acl) (has_type r u x call.place w b.found)) b.barred))

  pub apply_acl_allowed : (call : ApplyAcl) → MayDo r u call.place actions.ApplyAcl → NoneComes actions.ApplyAcl (refusal_apply_acl r u cost call)
  apply_acl_allowed call b =
      let p = stands_for actions.ApplyAcl in
      let x = b.object in
      none_comes actions.ApplyAcl (refusal_apply_acl r u cost call) refl
      (written p r cost (addressed r u call.place) x (judge_change r u call) (λ i j k. refl) b.found
      (access_free p (is_at_least levels.All (level_by_list r u (entry_of x))) (by_type r x (λ t. t.controllable_acl)) (keeps_its_list r x)
      (refuse causes.Permission (has_unknown_permission call.remove || has_unknown_permission call.add) >> refuse causes.Propagation (not (is_offered call.propagation)))
      b.allowed (changed_by_type (type_of r x) (λ t. t.controllable_acl))
      (two_aside p causes.Permission causes.Propagation (has_unknown_permission call.remove || has_unknown_permission call.add) (not (is_offered call.propagation)) refl refl)))
