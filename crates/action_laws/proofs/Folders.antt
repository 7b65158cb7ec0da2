-- A folder that is not made, and a folder that may be.
use Rattle.std.specs.Prelude.{ℕ, nat_le, [], not, ◌||◌, List}
use Rattle.std.proofs.Common.{refl, ap}
use Rattle.action_parts.specs.declared.action.Action.TheVariants as actions
use Rattle.call_parts.specs.declared.writes.CreateFolder.{CreateFolder}
use Rattle.cm_base.specs.declared.number.Moment.{Moment}
use Rattle.cm_base.specs.declared.object.Object.{Object}
use Rattle.cm_base.specs.declared.access.Level.TheVariants as levels
use Rattle.cm_base.specs.Names.{is_name}
use Rattle.cm_base.specs.declared.cause.Cause.TheVariants as causes
use Rattle.cm_base.specs.Judged.{Judged, ◌>>=◌, ◌>>◌, find_or, first_cause, refuse}
use Rattle.cm_types.specs.declared.definition.BaseType.TheVariants as bases
use Rattle.cm_types.specs.declared.definition.TypeDef.{TypeDef}
use Rattle.cm_types.specs.declared.given.PropertyCall.TheVariants as calls
use Rattle.cm_types.specs.Types.{type_in, same_base}
use Rattle.cm_types.specs.Properties.{judge_properties}
use Rattle.cm_see.specs.Addressed.{addressed}
use Rattle.cmis_spec.specs.Repository.{Repository, depth_of, is_a, is_taken, most_levels, new_number}
use Rattle.cmis_spec.specs.Access.{is_at_least, level_of_caller}
use Rattle.wr_rules.specs.Rules.{bars_child, judge_storage, unknown_type, has_other_secondary, has_unknown_permission, unread_cause, has_other_policy}
use Rattle.wr_object.specs.CreateFolder.{is_uncontrollable, judge_found, judge_kinds, judge_name, judge_place, refusal_create_folder}
use Rattle.wr_rules.specs.Wanted.{wanted_in}
use Rattle.action_laws.specs.Refused.{IsBarred, IsRefused, MayDo, OnlyComes}
use Rattle.action_laws.proofs.Judging.{at_any, at_later, at_object, creation_lines}
use Rattle.action_laws.proofs.Passing.{find_aside, found, is_wrong_kind, later, making_free, only_comes, policies_aside, properties_aside, stands_but, three_aside, two_aside, types_aside, written}

module _ (r : Repository) (u : List ℕ) (m : Moment) (cost : ℕ) (call : CreateFolder) where
  abbrev of_kind : Object → TypeDef → Judged (Unit {0})
  of_kind parent kind = first_cause (unknown_type r.types) (wanted_in r.types call.properties).secondary >> judge_found r u call (wanted_in r.types call.properties) parent kind

  abbrev in_parent : Object → Judged (Unit {0})
  in_parent parent = first_cause (unread_cause r u) call.policies >> (find_or causes.TypeNotFound (type_in r.types (wanted_in r.types call.properties).kind) >>= of_kind parent)

  pub create_folder : IsBarred r u call.place actions.CreateFolder → IsRefused (refusal_create_folder r u m cost call)
  create_folder b =
      let x = b.object in
      let wanted = wanted_in r.types call.properties in
      at_later (judge_storage r cost) (find_or causes.NotFound (addressed r u call.place) >>= in_parent)
      (at_object (addressed r u call.place) x in_parent b.found
      (at_later (first_cause (unread_cause r u) call.policies) (find_or causes.TypeNotFound (type_in r.types wanted.kind) >>= of_kind x)
      (at_any (find_or causes.TypeNotFound (type_in r.types wanted.kind)) (of_kind x)
      (λ kind. at_later (first_cause (unknown_type r.types) wanted.secondary) (judge_found r u call wanted x kind)
      (creation_lines causes.Denied causes.WrongKind
      (refuse causes.TypeKind (not (same_base bases.Folder kind.base) || has_other_secondary r.types wanted.secondary) >> refuse causes.NotCreatable (not kind.creatable))
      (judge_place r call x kind >> judge_properties calls.Create wanted.defs [] call.properties >> judge_name r call x.id wanted.name)
      (is_a r bases.Folder x) (is_at_least levels.Write (level_of_caller r u x)) (has_other_policy r u call.policies) b.barred)))))

  pub create_folder_allowed : MayDo r u call.place actions.CreateFolder → OnlyComes actions.CreateFolder causes.WrongKind (has_other_policy r u call.policies) (refusal_create_folder r u m cost call)
  create_folder_allowed b =
      let p = stands_but actions.CreateFolder causes.WrongKind (has_other_policy r u call.policies) in
      let x = b.object in
      let wanted = wanted_in r.types call.properties in
      only_comes actions.CreateFolder causes.WrongKind (has_other_policy r u call.policies) (refusal_create_folder r u m cost call) is_wrong_kind refl
      (written p r cost (addressed r u call.place) x in_parent (λ i j k. refl) b.found
      (later p (first_cause (unread_cause r u) call.policies) (find_or causes.TypeNotFound (type_in r.types wanted.kind) >>= of_kind x) (policies_aside p r u call.policies refl)
      (found p (find_or causes.TypeNotFound (type_in r.types wanted.kind)) (of_kind x) (find_aside p causes.TypeNotFound (type_in r.types wanted.kind) refl)
      (λ kind.
      let type_fits = refuse causes.TypeKind (not (same_base bases.Folder kind.base) || has_other_secondary r.types wanted.secondary) >> refuse causes.NotCreatable (not kind.creatable) in
      let given = judge_properties calls.Create wanted.defs [] call.properties in
      later p (first_cause (unknown_type r.types) wanted.secondary) (judge_found r u call wanted x kind) (types_aside p r.types wanted.secondary refl)
      (later p (judge_kinds r u call.policies wanted.secondary x kind) (judge_place r call x kind >> given >> judge_name r call x.id wanted.name)
      (making_free p (is_a r bases.Folder x) (is_at_least levels.Write (level_of_caller r u x)) (has_other_policy r u call.policies) type_fits b.allowed (λ k. ap not k)
      (two_aside p causes.TypeKind causes.NotCreatable (not (same_base bases.Folder kind.base) || has_other_secondary r.types wanted.secondary) (not kind.creatable) refl refl))
      (later p (judge_place r call x kind) (given >> judge_name r call x.id wanted.name)
      (three_aside p causes.ChildType causes.Deep causes.NotControllable (bars_child r x kind.id) (nat_le most_levels (depth_of r x.id)) (is_uncontrollable kind call) refl refl refl)
      (later p given (judge_name r call x.id wanted.name) (properties_aside p calls.Create wanted.defs [] call.properties (λ id fault. refl))
      (three_aside p causes.Permission causes.BadName causes.NameTaken (has_unknown_permission call.remove || has_unknown_permission call.add)
      (not (is_name wanted.name)) (is_taken r x.id (new_number r) wanted.name) refl refl refl))))))))
