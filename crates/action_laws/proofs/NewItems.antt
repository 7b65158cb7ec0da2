-- An item that is not made, and an item that may be.
use Rattle.std.specs.Prelude.{◌≡◌, ℕ, Bool, false, [], not, ◌&&◌, ◌||◌, List, Option, Some, is_some}
use Rattle.std.proofs.Common.{refl, ap}
use Rattle.action_parts.specs.declared.action.Action.TheVariants as actions
use Rattle.call_parts.specs.declared.place.Place.{Place}
use Rattle.create_parts.specs.declared.writes.CreateItem.{CreateItem}
use Rattle.create_parts.specs.declared.writes.ObjectRequest.{ObjectRequest}
use Rattle.cm_base.specs.declared.object.Object.{Object}
use Rattle.cm_base.specs.declared.access.Level.TheVariants as levels
use Rattle.cm_base.specs.declared.cause.Cause.{Cause}
use Rattle.cm_base.specs.declared.cause.PropertyFault.{PropertyFault}
use Rattle.cm_base.specs.declared.cause.Cause.TheVariants as causes
use Rattle.cm_base.specs.Judged.{Judged, ◌>>=◌, ◌>>◌, find_or, first_cause, refuse}
use Rattle.cm_base.specs.Names.{is_name}
use Rattle.cm_types.specs.declared.definition.BaseType.{BaseType}
use Rattle.cm_types.specs.declared.definition.BaseType.TheVariants as bases
use Rattle.cm_types.specs.declared.definition.TypeDef.{TypeDef}
use Rattle.cm_types.specs.declared.given.Given.{Given}
use Rattle.cm_types.specs.declared.given.PropertyCall.TheVariants as calls
use Rattle.cm_types.specs.Types.{type_in, same_base}
use Rattle.cm_types.specs.Properties.{judge_properties}
use Rattle.cmis_spec.specs.Repository.{Repository, is_a}
use Rattle.cmis_spec.specs.Access.{is_at_least, level_of_caller}
use Rattle.wr_rules.specs.Rules.{bars_child, judge_storage, unknown_type, has_other_secondary, has_unknown_permission, unread_cause, has_other_policy}
use Rattle.wr_rules.specs.Wanted.{Wanted, wanted_in}
use Rattle.wr_object.specs.CreateDocument.{folder_at, is_name_taken}
use Rattle.wr_create.specs.CreateItem.{judge_item, judge_place, refusal_create_item}
use Rattle.wr_create.specs.Making.{is_uncontrollable, judge_request, judge_type}
use Rattle.action_laws.specs.Refused.{IsBarred, IsRefused, MayDo, OnlyComes}
use Rattle.action_laws.proofs.Judging.{at_any, at_later, making_lines}
use Rattle.action_laws.proofs.NewDocuments.{at_folder, free_at_folder}
use Rattle.action_laws.proofs.Passing.{find_aside, found, is_by, is_wrong_kind, last_aside, later, making_free, only_comes, policies_aside, properties_aside, stands_but, storage_aside, three_aside, two_aside, types_aside}

-- the type, and what is asked of the object, have causes of their own
pub type_aside : (p : Cause → Bool) (types : List TypeDef) (base : BaseType) (wanted : Wanted) (kind : TypeDef) → p causes.TypeKind ≡ false → p causes.NotCreatable ≡ false → is_by p (judge_type types base wanted kind) ≡ false
type_aside p types base wanted kind k l =
    two_aside p causes.TypeKind causes.NotCreatable (not (same_base base kind.base) || has_other_secondary types wanted.secondary) (not kind.creatable) k l

pub request_aside : (p : Cause → Bool) (wanted : Wanted) (object : ObjectRequest) (given : List Given) → ((id : List ℕ) (fault : PropertyFault) → p (causes.Property id fault) ≡ false)
    → p causes.Permission ≡ false → p causes.BadName ≡ false → is_by p (judge_request wanted object given) ≡ false
request_aside p wanted object given k l m =
    let unknown = has_unknown_permission object.remove || has_unknown_permission object.add in
    later p (judge_properties calls.Create wanted.defs [] given) (refuse causes.Permission unknown >> refuse causes.BadName (not (is_name wanted.name)))
    (properties_aside p calls.Create wanted.defs [] given k) (two_aside p causes.Permission causes.BadName unknown (not (is_name wanted.name)) l m)

module _ (r : Repository) (u : List ℕ) (cost : ℕ) (call : CreateItem) where
  abbrev of_kind : Option Object → TypeDef → Judged (Unit {0})
  of_kind folder kind = first_cause (unknown_type r.types) (wanted_in r.types call.object.properties).secondary >> judge_item r u call (wanted_in r.types call.object.properties) folder kind

  abbrev in_folder : Option Object → Judged (Unit {0})
  in_folder folder = first_cause (unread_cause r u) call.object.policies >> (find_or causes.TypeNotFound (type_in r.types (wanted_in r.types call.object.properties).kind) >>= of_kind folder)

  -- what is judged of the new item alone
  abbrev of_item : Object → TypeDef → Judged (Unit {0})
  of_item x kind =
      judge_type r.types bases.Item (wanted_in r.types call.object.properties) kind >> judge_place r call (Some x) kind >> judge_request (wanted_in r.types call.object.properties) call.object call.object.properties
      >> refuse causes.NameTaken (is_name_taken r (Some x) (wanted_in r.types call.object.properties).name)

  pub create_item : (place : Place) → call.place ≡ Some place → IsBarred r u place actions.CreateItem → IsRefused (refusal_create_item r u cost call)
  create_item place e b =
      let x = b.object in
      let wanted = wanted_in r.types call.object.properties in
      at_later (judge_storage r cost) (folder_at r u call.place >>= in_folder)
      (at_folder r u call.place place x in_folder e b.found
      (at_later (first_cause (unread_cause r u) call.object.policies) (find_or causes.TypeNotFound (type_in r.types wanted.kind) >>= of_kind (Some x))
      (at_any (find_or causes.TypeNotFound (type_in r.types wanted.kind)) (of_kind (Some x))
      (λ kind. at_later (first_cause (unknown_type r.types) wanted.secondary) (judge_item r u call wanted (Some x) kind)
      (making_lines causes.Denied causes.WrongKind (of_item x kind)
      (is_at_least levels.Write (level_of_caller r u x)) (is_a r bases.Folder x) (has_other_policy r u call.object.policies) b.barred)))))

  pub create_item_allowed : (place : Place) → call.place ≡ Some place → MayDo r u place actions.CreateItem
      → OnlyComes actions.CreateItem causes.WrongKind (has_other_policy r u call.object.policies) (refusal_create_item r u cost call)
  create_item_allowed place e b =
      let p = stands_but actions.CreateItem causes.WrongKind (has_other_policy r u call.object.policies) in
      let x = b.object in
      let wanted = wanted_in r.types call.object.properties in
      only_comes actions.CreateItem causes.WrongKind (has_other_policy r u call.object.policies) (refusal_create_item r u cost call) is_wrong_kind refl
      (later p (judge_storage r cost) (folder_at r u call.place >>= in_folder) (storage_aside p r cost (λ i j k. refl))
      (free_at_folder p r u call.place place x in_folder e b.found
      (later p (first_cause (unread_cause r u) call.object.policies) (find_or causes.TypeNotFound (type_in r.types wanted.kind) >>= of_kind (Some x)) (policies_aside p r u call.object.policies refl)
      (found p (find_or causes.TypeNotFound (type_in r.types wanted.kind)) (of_kind (Some x)) (find_aside p causes.TypeNotFound (type_in r.types wanted.kind) refl)
      (λ kind.
      let asked = judge_request wanted call.object call.object.properties in
      let taken = refuse causes.NameTaken (is_name_taken r (Some x) wanted.name) in
      later p (first_cause (unknown_type r.types) wanted.secondary) (judge_item r u call wanted (Some x) kind) (types_aside p r.types wanted.secondary refl)
      (making_free p (is_a r bases.Folder x) (is_at_least levels.Write (level_of_caller r u x)) (has_other_policy r u call.object.policies) (of_item x kind) b.allowed (λ k. ap not k)
      (later p (judge_type r.types bases.Item wanted kind) (judge_place r call (Some x) kind >> asked >> taken) (type_aside p r.types bases.Item wanted kind refl refl)
      (later p (judge_place r call (Some x) kind) (asked >> taken)
      (three_aside p causes.NotFileable causes.ChildType causes.NotControllable (is_some (Some x) && not kind.fileable) (bars_child r x kind.id) (is_uncontrollable kind call.object) refl refl refl)
      (later p asked taken (request_aside p wanted call.object call.object.properties (λ id fault. refl) refl refl)
      (last_aside p causes.NameTaken (is_name_taken r (Some x) wanted.name) refl))))))))))
