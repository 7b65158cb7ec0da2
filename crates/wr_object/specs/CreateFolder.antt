-- createFolder (CMIS 1.1, section 2.2.4.3): when it is refused, what it makes of the repository, and what it answers.
use Rattle.std.specs.Prelude.{ℕ, ◌+◌, nat_le, nat_lt, Bool, true, ◌&&◌, ◌||◌, not, List, [], Some, None, unwrap_or, option_map, length}
use Rattle.cm_base.specs.declared.number.Oid.{Oid}
use Rattle.cm_base.specs.declared.number.Moment.{Moment}
use Rattle.cm_base.specs.declared.object.Object.{Object}
use Rattle.cm_base.specs.declared.value.Slot.{Slot}
use Rattle.cm_base.specs.declared.access.Level.TheVariants as levels
use Rattle.cm_base.specs.declared.log.ChangeKind.TheVariants as changes
use Rattle.cm_base.specs.declared.cause.Cause.TheVariants as causes
use Rattle.cm_base.specs.Judged.{Judged, ◌>>=◌, ◌>>◌, refuse, find_or, first_cause}
use Rattle.cm_base.specs.Names.{is_name}
use Rattle.cm_types.specs.declared.definition.TypeDef.{TypeDef}
use Rattle.cm_types.specs.declared.definition.BaseType.TheVariants as bases
use Rattle.cm_types.specs.declared.property.PropDef.{PropDef}
use Rattle.cm_types.specs.declared.given.PropertyCall.TheVariants as calls
use Rattle.cm_types.specs.Types.{type_in, same_base, props_of}
use Rattle.cm_types.specs.Properties.{judge_properties}
use Rattle.call_parts.specs.declared.readings.PropertyFilter.TheVariants as filters
use Rattle.call_parts.specs.declared.writes.CreateFolder.{CreateFolder}
use Rattle.call_parts.specs.declared.replies.ObjectReply.{ObjectReply}
use Rattle.call_parts.specs.Weight.{bounded, weight_of_create_folder}
use Rattle.cm_see.specs.Addressed.{addressed}
use Rattle.cm_see.specs.Shown.{shown_object}
use Rattle.cmis_spec.specs.Repository.{Repository, root, most_levels, new_number, is_a, depth_of, is_taken}
use Rattle.cmis_spec.specs.Access.{lacks}
use Rattle.cmis_spec.specs.Values.{values_kept}
use Rattle.cmis_spec.specs.Changes.{stepped, noted, with_object, with_pair}
use Rattle.wr_rules.specs.Rules.{judge_storage, type_id_in, secondary_in, unknown_type, has_other_secondary, bars_child, unread_cause, has_other_policy, policies_in, has_unknown_permission, has_entries, new_aces, defaults_cost}
use Rattle.wr_rules.specs.Wanted.{Wanted, wanted_in}

-- ---- words of the call

-- the definitions of the new folder's properties
abbrev pub folder_props : List TypeDef → CreateFolder → List PropDef
folder_props types call = props_of types (type_id_in call.properties) (secondary_in call.properties)

-- the type lets no policies be applied and some are given, or no list be changed and entries are given
abbrev pub is_uncontrollable : TypeDef → CreateFolder → Bool
is_uncontrollable kind call =
    not kind.controllable_policy && nat_lt 0 (length call.policies)
    || not kind.controllable_acl && (has_entries call.remove || has_entries call.add)

-- the cost: the weight of the call, and the default values that are taken where the type is there
abbrev pub cost_create_folder : Repository → CreateFolder → ℕ
cost_create_folder r call =
    bounded (weight_of_create_folder call
    + unwrap_or (option_map (λ t. defaults_cost (folder_props r.types call) call.properties) (type_in r.types (type_id_in call.properties))) 0)

-- ---- the refusal

-- the caller may write where the folder is to stand, and a folder of the type may be made
abbrev pub judge_kinds : Repository → List ℕ → List (List ℕ) → List (List ℕ) → Object → TypeDef → Judged (Unit {0})
judge_kinds r u policies secondary parent kind = do
  refuse causes.Denied (lacks r u levels.Write parent)
  refuse causes.WrongKind (not (is_a r bases.Folder parent) || has_other_policy r u policies)
  refuse causes.TypeKind (not (same_base bases.Folder kind.base) || has_other_secondary r.types secondary)
  refuse causes.NotCreatable (not kind.creatable)

-- the parent takes it, and its type lets what is asked be applied to it
abbrev pub judge_place : Repository → CreateFolder → Object → TypeDef → Judged (Unit {0})
judge_place r call parent kind = do
  refuse causes.ChildType (bars_child r parent kind.id)
  refuse causes.Deep (nat_le most_levels (depth_of r parent.id))
  refuse causes.NotControllable (is_uncontrollable kind call)

-- its access list and its name
abbrev pub judge_name : Repository → CreateFolder → Oid → List ℕ → Judged (Unit {0})
judge_name r call parent name = do
  refuse causes.Permission (has_unknown_permission call.remove || has_unknown_permission call.add)
  refuse causes.BadName (not (is_name name))
  refuse causes.NameTaken (is_taken r parent (new_number r) name)

-- once its parent and its types are found
abbrev pub judge_found : Repository → List ℕ → CreateFolder → Wanted → Object → TypeDef → Judged (Unit {0})
judge_found r u call wanted parent kind = do
  judge_kinds r u call.policies wanted.secondary parent kind
  judge_place r call parent kind
  judge_properties calls.Create wanted.defs [] call.properties
  judge_name r call parent.id wanted.name

-- of what the properties say
abbrev pub refusal_of_folder : Repository → List ℕ → ℕ → CreateFolder → Wanted → Judged (Unit {0})
refusal_of_folder r u cost call wanted = do
  judge_storage r cost
  parent ← find_or causes.NotFound (addressed r u call.place)
  first_cause (unread_cause r u) call.policies
  kind ← find_or causes.TypeNotFound (type_in r.types wanted.kind)
  first_cause (unknown_type r.types) wanted.secondary
  judge_found r u call wanted parent kind

abbrev pub refusal_create_folder : Repository → List ℕ → Moment → ℕ → CreateFolder → Judged (Unit {0})
refusal_create_folder r u m cost call = refusal_of_folder r u cost call (wanted_in r.types call.properties)

-- ---- the repository after it

-- an object in no series, of what is wanted and the values that are kept
abbrev pub object_of : Repository → List ℕ → Moment → Wanted → List Slot → Object
object_of r u m wanted values = record {
  id = new_number r;
  kind = wanted.kind;
  name = Some wanted.name;
  secondary = wanted.secondary;
  values = values;
  created_by = u;
  created_at = m;
  modified_by = u;
  modified_at = m;
  token = r.step + 1;
  series = None;
}

abbrev pub folder_made : Repository → List ℕ → Moment → CreateFolder → Object
folder_made r u m call =
    let wanted = wanted_in r.types call.properties in
    object_of r u m wanted (values_kept calls.Create wanted.defs [] call.properties)

-- the folder in its parent, one step further, with its event
abbrev pub after_create_folder_in : Repository → List ℕ → Moment → ℕ → CreateFolder → Oid → Repository
after_create_folder_in r u m cost call parent =
    noted (stepped (with_pair
    (with_object r (folder_made r u m call) (new_aces u call.remove call.add) (policies_in r u call.policies))
    parent (new_number r)) cost) changes.Created (new_number r) m []

-- the number of the folder in which it is to stand
abbrev pub parent_of : Repository → List ℕ → CreateFolder → Oid
parent_of r u call = unwrap_or (option_map (λ f. f.id) (addressed r u call.place)) root

abbrev pub after_create_folder : Repository → List ℕ → Moment → ℕ → CreateFolder → Repository
after_create_folder r u m cost call = after_create_folder_in r u m cost call (parent_of r u call)

-- ---- the reply

-- the new folder as the caller sees it after the step
abbrev pub acknowledgement_create_folder : Repository → List ℕ → Moment → ℕ → CreateFolder → ObjectReply
acknowledgement_create_folder r u m cost call = record {
  object = shown_object (after_create_folder r u m cost call) u filters.All call.succinct (folder_made r u m call);
  created = true;
}
