-- Documents that are not checked out or in, and documents that are.
use Rattle.std.specs.Prelude.{◌≡◌, ℕ, true, false, not, List, Option, Some, None, unwrap_or, option_map, option_and_then}
use Rattle.std.proofs.Common.{refl}
use Rattle.std.proofs.lemmas.Bool.{and_parts, both_ways}
use Rattle.cm_base.specs.declared.number.Oid.{Oid}
use Rattle.cm_base.specs.declared.object.Object.{Object}
use Rattle.cm_base.specs.declared.access.Level.TheVariants as levels
use Rattle.cm_base.specs.Names.{is_name}
use Rattle.cm_base.specs.declared.cause.Cause.TheVariants as causes
use Rattle.cm_base.specs.Judged.{◌>>=◌, ◌>>◌, find_or, first_cause, refuse}
use Rattle.cm_types.specs.declared.definition.BaseType.TheVariants as bases
use Rattle.cm_types.specs.declared.definition.TypeDef.{TypeDef}
use Rattle.cm_types.specs.declared.given.PropertyCall.TheVariants as calls
use Rattle.cm_types.specs.Properties.{judge_properties}
use Rattle.action_parts.specs.declared.action.Action.TheVariants as actions
use Rattle.call_parts.specs.declared.versions.CheckIn.{CheckIn}
use Rattle.call_parts.specs.declared.versions.CheckOut.{CheckOut}
use Rattle.cm_state.specs.Looks.{content_at}
use Rattle.cm_see.specs.Addressed.{addressed}
use Rattle.cm_see.specs.Shown.{is_latest_version}
use Rattle.cmis_spec.specs.Repository.{Repository, entry_of, is_a, object_at, same, series_at, type_of}
use Rattle.cmis_spec.specs.Access.{is_at_least, lacks, level_of_caller}
use Rattle.cmis_spec.specs.Documents.{is_copy_of, is_working_copy}
use Rattle.cmis_spec.specs.Well.{Belongs, IsWellFormed}
use Rattle.cmis_laws.proofs.Lists.{found_holds}
use Rattle.wr_rules.proofs.Found.{addressed_there}
use Rattle.wr_rules.specs.Documents.{form_slots, is_checked_out, is_taken_anywhere, is_versionable, judge_content, name_after}
use Rattle.wr_rules.specs.Rules.{judge_storage, secondary_in, unknown_type, has_other_secondary}
use Rattle.wr_version.specs.CheckIn.{judge_copy, judge_found, judge_given, judge_new_name, props_after, refusal_check_in}
use Rattle.wr_version.specs.CheckOut.{judge_latest, refusal_check_out}
use Rattle.action_laws.specs.Refused.{IsBarred, IsRefused, MayDo, NoneComes}
use Rattle.action_laws.proofs.Judging.{at_any, at_later, at_object, check_out_lines, copy_lines}
use Rattle.action_laws.proofs.Passing.{check_out_free, content_aside, copy_free, find_aside, found, is_by, last_aside, later, none_comes, properties_aside, stands_for, two_aside, types_aside, written}

module _ (r : Repository) (u : List ℕ) (cost : ℕ) where
  pub check_out : (call : CheckOut) → IsBarred r u call.place actions.CheckOut → IsRefused (refusal_check_out r u cost call)
  check_out call b =
      let x = b.object in
      at_later (judge_storage r cost) (find_or causes.NotFound (addressed r u call.place) >>= (λ y. refuse causes.Denied (lacks r u levels.Write y) >> judge_latest r y))
      (at_object (addressed r u call.place) x (λ y. refuse causes.Denied (lacks r u levels.Write y) >> judge_latest r y) b.found
      (check_out_lines causes.Denied causes.WrongKind causes.NotVersionable causes.CheckedOut causes.NotLatest
      (is_a r bases.Document x) (is_at_least levels.Write (level_of_caller r u x)) (is_versionable r x) (is_latest_version r x) (is_checked_out r x) b.barred))

  pub check_in : (call : CheckIn) → IsBarred r u call.place actions.CheckIn → IsRefused (refusal_check_in r u cost call)
  check_in call b =
      let x = b.object in
      at_later (judge_storage r cost) (find_or causes.NotFound (addressed r u call.place) >>= judge_found r u call)
      (at_object (addressed r u call.place) x (judge_found r u call) b.found
      (at_any (find_or causes.TypeNotFound (type_of r x)) (λ kind. first_cause (unknown_type r.types) (secondary_in call.properties) >> judge_copy r u call x >> judge_given r call x kind)
      (λ kind. at_later (first_cause (unknown_type r.types) (secondary_in call.properties)) (judge_copy r u call x >> judge_given r call x kind)
      (copy_lines causes.Denied causes.WrongKind causes.NotWorking
      (refuse causes.TypeKind (has_other_secondary r.types (secondary_in call.properties))) (judge_given r call x kind)
      (is_a r bases.Document x) (is_at_least levels.Write (level_of_caller r u x)) (is_working_copy r x) b.barred))))

-- a working copy is a document
pub copy_document : (r : Repository) (x : Object) → Belongs r x x.series → is_working_copy r x ≡ true → is_a r bases.Document x ≡ true
copy_document r x b h = by x.series b h
  where
    by : (o : Option Oid) → Belongs r x o → unwrap_or (option_map (λ s. is_copy_of s x.id) (option_and_then (series_at r) o)) false ≡ true → is_a r bases.Document x ≡ true
    by None b h = absurd (both_ways false refl h)
    by (Some n) b h = b.0

module _ (r : Repository) (u : List ℕ) (cost : ℕ) where
  pub check_out_allowed : (call : CheckOut) → MayDo r u call.place actions.CheckOut → NoneComes actions.CheckOut (refusal_check_out r u cost call)
  check_out_allowed call b =
      let p = stands_for actions.CheckOut in
      let x = b.object in
      none_comes actions.CheckOut (refusal_check_out r u cost call) refl
      (written p r cost (addressed r u call.place) x (λ y. refuse causes.Denied (lacks r u levels.Write y) >> judge_latest r y) (λ i j k. refl) b.found
      (check_out_free p (is_a r bases.Document x) (is_at_least levels.Write (level_of_caller r u x)) (is_versionable r x) (is_latest_version r x) (is_checked_out r x) b.allowed))

  -- what is given of the version may have other faults
  given_aside : (call : CheckIn) (x : Object) (kind : TypeDef) → is_by (stands_for actions.CheckIn) (judge_given r call x kind) ≡ false
  given_aside call x kind =
      let p = stands_for actions.CheckIn in
      later p (judge_properties calls.CheckIn (props_after r call x) (form_slots r x) call.properties) (judge_content kind call.stream (content_at r x.id) >> judge_new_name r call x)
      (properties_aside p calls.CheckIn (props_after r call x) (form_slots r x) call.properties (λ id fault. refl))
      (later p (judge_content kind call.stream (content_at r x.id)) (judge_new_name r call x)
      (content_aside p kind call.stream (content_at r x.id) refl refl refl)
      (two_aside p causes.BadName causes.NameTaken (not (is_name (name_after r x call.properties))) (is_taken_anywhere r (entry_of x) (name_after r x call.properties)) refl refl))

  pub check_in_allowed : (call : CheckIn) → IsWellFormed r → MayDo r u call.place actions.CheckIn → NoneComes actions.CheckIn (refusal_check_in r u cost call)
  check_in_allowed call w b =
      let p = stands_for actions.CheckIn in
      let x = b.object in
      let there : object_at r x.id ≡ Some x = addressed_there r u call.place x w.numbers b.found in
      let document : is_a r bases.Document x ≡ true = copy_document r x (found_holds (λ z. Belongs r z z.series) (λ z. same z.id x.id) r.objects x w.documents there)
      (and_parts (is_working_copy r x) (is_at_least levels.Write (level_of_caller r u x)) b.allowed).0 in
      none_comes actions.CheckIn (refusal_check_in r u cost call) refl
      (written p r cost (addressed r u call.place) x (judge_found r u call) (λ i j k. refl) b.found
      (found p (find_or causes.TypeNotFound (type_of r x)) (λ kind. first_cause (unknown_type r.types) (secondary_in call.properties) >> judge_copy r u call x >> judge_given r call x kind)
      (find_aside p causes.TypeNotFound (type_of r x) refl)
      (λ kind. later p (first_cause (unknown_type r.types) (secondary_in call.properties)) (judge_copy r u call x >> judge_given r call x kind) (types_aside p r.types (secondary_in call.properties) refl)
      (later p (judge_copy r u call x) (judge_given r call x kind)
      (copy_free p (is_working_copy r x) (is_at_least levels.Write (level_of_caller r u x)) (is_a r bases.Document x)
      (refuse causes.TypeKind (has_other_secondary r.types (secondary_in call.properties))) b.allowed document
      (last_aside p causes.TypeKind (has_other_secondary r.types (secondary_in call.properties)) refl))
      (given_aside call x kind)))))
