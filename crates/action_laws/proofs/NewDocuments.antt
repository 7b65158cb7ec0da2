-- A document that is not made, and a document that may be.
use Rattle.std.specs.Prelude.{◌≡◌, ℕ, Bool, false, [], not, ◌&&◌, ◌||◌, List, Option, Some, None, is_some}
use Rattle.std.proofs.Common.{refl, ap}
use Rattle.action_parts.specs.declared.action.Action.TheVariants as actions
use Rattle.call_parts.specs.declared.place.Place.{Place}
use Rattle.call_parts.specs.declared.versions.CreateDocument.{CreateDocument}
use Rattle.cm_base.specs.declared.object.Object.{Object}
use Rattle.cm_base.specs.declared.access.Level.TheVariants as levels
use Rattle.cm_base.specs.declared.cause.Cause.{Cause}
use Rattle.cm_base.specs.Names.{is_name}
use Rattle.cm_base.specs.declared.cause.Cause.TheVariants as causes
use Rattle.cm_base.specs.Judged.{Judged, ◌>>=◌, ◌>>◌, find_or, first_cause, refuse}
use Rattle.cm_types.specs.declared.definition.BaseType.TheVariants as bases
use Rattle.cm_types.specs.declared.definition.TypeDef.{TypeDef}
use Rattle.cm_types.specs.declared.given.PropertyCall.TheVariants as calls
use Rattle.cm_types.specs.Types.{type_in, same_base}
use Rattle.cm_types.specs.Properties.{judge_properties}
use Rattle.cm_see.specs.Addressed.{addressed}
use Rattle.cmis_spec.specs.Repository.{Repository, is_a}
use Rattle.cmis_spec.specs.Access.{is_at_least, level_of_caller}
use Rattle.wr_rules.specs.Documents.{judge_content}
use Rattle.wr_rules.specs.Rules.{bars_child, judge_storage, unknown_type, has_other_secondary, has_unknown_permission, unread_cause, has_other_policy}
use Rattle.wr_object.specs.CreateDocument.{folder_at, has_other_state, is_name_taken, is_uncontrollable, judge_found, judge_kinds, judge_name, judge_place, refusal_create_document}
use Rattle.wr_rules.specs.Wanted.{wanted_in}
use Rattle.action_laws.specs.Refused.{IsBarred, IsRefused, MayDo, OnlyComes}
use Rattle.action_laws.proofs.Judging.{at_any, at_later, creation_lines}
use Rattle.action_laws.proofs.Passing.{aside, content_aside, find_aside, found, is_by, is_wrong_kind, later, making_free, only_comes, policies_aside, properties_aside, stands_but, storage_aside, three_aside, two_aside, types_aside}

pub at_folder : {B : Type 0} (r : Repository) (u : List ℕ) (o : Option Place) (place : Place) (x : Object) (rest : Option Object → Judged B) → o ≡ Some place → addressed r u place ≡ Some x
    → IsRefused (rest (Some x)) → IsRefused (folder_at r u o >>= rest)
at_folder r u o place x rest e found k = rw e (rw found k)

pub free_at_folder : {B : Type 0} (p : Cause → Bool) (r : Repository) (u : List ℕ) (o : Option Place) (place : Place) (x : Object) (rest : Option Object → Judged B) → o ≡ Some place → addressed r u place ≡ Some x
    → is_by p (rest (Some x)) ≡ false → is_by p (folder_at r u o >>= rest) ≡ false
free_at_folder p r u o place x rest e there k = rw e (rw there k)

module _ (r : Repository) (u : List ℕ) (cost : ℕ) (call : CreateDocument) where
  abbrev of_kind : Option Object → TypeDef → Judged (Unit {0})
  of_kind folder kind = first_cause (unknown_type r.types) (wanted_in r.types call.properties).secondary >> judge_found r u call (wanted_in r.types call.properties) folder kind

  abbrev in_folder : Option Object → Judged (Unit {0})
  in_folder folder = first_cause (unread_cause r u) call.policies >> (find_or causes.TypeNotFound (type_in r.types (wanted_in r.types call.properties).kind) >>= of_kind folder)

  pub create_document : (place : Place) → call.place ≡ Some place → IsBarred r u place actions.CreateDocument → IsRefused (refusal_create_document r u cost call)
  create_document place e b =
      let x = b.object in
      let wanted = wanted_in r.types call.properties in
      at_later (judge_storage r cost) (folder_at r u call.place >>= in_folder)
      (at_folder r u call.place place x in_folder e b.found
      (at_later (first_cause (unread_cause r u) call.policies) (find_or causes.TypeNotFound (type_in r.types wanted.kind) >>= of_kind (Some x))
      (at_any (find_or causes.TypeNotFound (type_in r.types wanted.kind)) (of_kind (Some x))
      (λ kind. at_later (first_cause (unknown_type r.types) wanted.secondary) (judge_found r u call wanted (Some x) kind)
      (creation_lines causes.Denied causes.WrongKind
      (refuse causes.TypeKind (not (same_base bases.Document kind.base) || has_other_secondary r.types wanted.secondary) >> refuse causes.NotCreatable (not kind.creatable))
      (judge_place r call (Some x) kind >> judge_properties calls.Create wanted.defs [] call.properties >> judge_name r call (Some x) kind wanted.name)
      (is_a r bases.Folder x) (is_at_least levels.Write (level_of_caller r u x)) (has_other_policy r u call.policies) b.barred)))))

  pub create_document_allowed : (place : Place) → call.place ≡ Some place → MayDo r u place actions.CreateDocument
      → OnlyComes actions.CreateDocument causes.WrongKind (has_other_policy r u call.policies) (refusal_create_document r u cost call)
  create_document_allowed place e b =
      let p = stands_but actions.CreateDocument causes.WrongKind (has_other_policy r u call.policies) in
      let x = b.object in
      let wanted = wanted_in r.types call.properties in
      only_comes actions.CreateDocument causes.WrongKind (has_other_policy r u call.policies) (refusal_create_document r u cost call) is_wrong_kind refl
      (later p (judge_storage r cost) (folder_at r u call.place >>= in_folder) (storage_aside p r cost (λ i j k. refl))
      (free_at_folder p r u call.place place x in_folder e b.found
      (later p (first_cause (unread_cause r u) call.policies) (find_or causes.TypeNotFound (type_in r.types wanted.kind) >>= of_kind (Some x)) (policies_aside p r u call.policies refl)
      (found p (find_or causes.TypeNotFound (type_in r.types wanted.kind)) (of_kind (Some x)) (find_aside p causes.TypeNotFound (type_in r.types wanted.kind) refl)
      (λ kind.
      let type_fits = refuse causes.TypeKind (not (same_base bases.Document kind.base) || has_other_secondary r.types wanted.secondary) >> refuse causes.NotCreatable (not kind.creatable) in
      let given = judge_properties calls.Create wanted.defs [] call.properties in
      let named = refuse causes.BadName (not (is_name wanted.name)) >> refuse causes.NameTaken (is_name_taken r (Some x) wanted.name) in
      later p (first_cause (unknown_type r.types) wanted.secondary) (judge_found r u call wanted (Some x) kind) (types_aside p r.types wanted.secondary refl)
      (later p (judge_kinds r u call.policies wanted.secondary (Some x) kind) (judge_place r call (Some x) kind >> given >> judge_name r call (Some x) kind wanted.name)
      (making_free p (is_a r bases.Folder x) (is_at_least levels.Write (level_of_caller r u x)) (has_other_policy r u call.policies) type_fits b.allowed (λ k. ap not k)
      (two_aside p causes.TypeKind causes.NotCreatable (not (same_base bases.Document kind.base) || has_other_secondary r.types wanted.secondary) (not kind.creatable) refl refl))
      (later p (judge_place r call (Some x) kind) (given >> judge_name r call (Some x) kind wanted.name)
      (aside p causes.NotFileable (is_some (Some x) && not kind.fileable)
      (refuse causes.VersionState (has_other_state kind call) >> refuse causes.ChildType (bars_child r x kind.id) >> refuse causes.NotControllable (is_uncontrollable kind call)) refl
      (three_aside p causes.VersionState causes.ChildType causes.NotControllable (has_other_state kind call) (bars_child r x kind.id) (is_uncontrollable kind call) refl refl refl))
      (later p given (judge_name r call (Some x) kind wanted.name) (properties_aside p calls.Create wanted.defs [] call.properties (λ id fault. refl))
      (aside p causes.Permission (has_unknown_permission call.remove || has_unknown_permission call.add) (judge_content kind call.stream None >> named) refl
      (later p (judge_content kind call.stream None) named
      (content_aside p kind call.stream None refl refl refl)
      (two_aside p causes.BadName causes.NameTaken (not (is_name wanted.name)) (is_name_taken r (Some x) wanted.name) refl refl)))))))))))
