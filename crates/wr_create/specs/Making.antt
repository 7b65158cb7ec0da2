-- What the calls that make an item, a policy or a relationship share (CMIS 1.1, section 2.2.4): lines of their refusals, what they cost, and what they make.
use Rattle.std.specs.Prelude.{ℕ, ◌+◌, nat_lt, Bool, true, ◌&&◌, ◌||◌, not, List, [], Option, Some, None, is_none, unwrap_or, option_map, length, Ok}
use Rattle.cm_base.specs.declared.number.Oid.{Oid}
use Rattle.cm_base.specs.declared.number.Moment.{Moment}
use Rattle.cm_base.specs.declared.object.Object.{Object}
use Rattle.cm_base.specs.declared.log.ChangeKind.TheVariants as changes
use Rattle.cm_base.specs.declared.cause.Cause.TheVariants as causes
use Rattle.cm_base.specs.Judged.{Judged, ◌>>◌, refuse}
use Rattle.cm_base.specs.Names.{is_name}
use Rattle.cm_types.specs.declared.definition.TypeDef.{TypeDef}
use Rattle.cm_types.specs.declared.definition.BaseType.{BaseType}
use Rattle.cm_types.specs.declared.given.Given.{Given}
use Rattle.cm_types.specs.declared.given.PropertyCall.TheVariants as calls
use Rattle.cm_types.specs.Types.{type_in, same_base}
use Rattle.cm_types.specs.Properties.{judge_properties}
use Rattle.call_parts.specs.declared.place.Place.{Place}
use Rattle.call_parts.specs.declared.readings.PropertyFilter.TheVariants as filters
use Rattle.call_parts.specs.declared.replies.ObjectReply.{ObjectReply}
use Rattle.call_parts.specs.Weight.{bounded}
use Rattle.create_parts.specs.declared.writes.ObjectRequest.{ObjectRequest}
use Rattle.cm_see.specs.Addressed.{addressed}
use Rattle.cm_see.specs.Shown.{shown_object}
use Rattle.cmis_spec.specs.Values.{values_kept}
use Rattle.cmis_spec.specs.Repository.{Repository}
use Rattle.cmis_spec.specs.Changes.{stepped, noted, with_object}
use Rattle.wr_rules.specs.Rules.{has_other_secondary, policies_in, has_unknown_permission, has_entries, new_aces, defaults_cost}
use Rattle.wr_rules.specs.Wanted.{Wanted, wanted_in}
use Rattle.wr_object.specs.CreateFolder.{object_of}
use Rattle.wr_object.specs.CreateDocument.{filed_at}
use Rattle.wr_create.specs.declared.making.NewObject.{NewObject}

-- ---- lines of the refusals

-- what is addressed, if anything is, is read
abbrev pub judge_addressed : Repository → List ℕ → Option Place → Judged (Unit {0})
judge_addressed r u None = Ok tt
judge_addressed r u (Some place) = refuse causes.NotFound (is_none (addressed r u place))

-- the type has this base, the secondary types are such types, and objects are made of the type
abbrev pub judge_type : List TypeDef → BaseType → Wanted → TypeDef → Judged (Unit {0})
judge_type types base wanted kind = do
  refuse causes.TypeKind (not (same_base base kind.base) || has_other_secondary types wanted.secondary)
  refuse causes.NotCreatable (not kind.creatable)

-- the type lets no policies be applied and some are given, or no list be changed and entries are given
abbrev pub is_uncontrollable : TypeDef → ObjectRequest → Bool
is_uncontrollable kind object =
    not kind.controllable_policy && nat_lt 0 (length object.policies)
    || not kind.controllable_acl && (has_entries object.remove || has_entries object.add)

-- the properties, the entries and the name have no fault of their own
abbrev pub judge_request : Wanted → ObjectRequest → List Given → Judged (Unit {0})
judge_request wanted object given = do
  judge_properties calls.Create wanted.defs [] given
  refuse causes.Permission (has_unknown_permission object.remove || has_unknown_permission object.add)
  refuse causes.BadName (not (is_name wanted.name))

-- ---- the cost

-- the weight of the call, and with it, where the type is there, the default values that are taken
abbrev pub cost_of_making : Repository → ℕ → List Given → ℕ
cost_of_making r weight given =
    unwrap_or (option_map (λ t. bounded (weight + defaults_cost (wanted_in r.types given).defs given)) (type_in r.types (wanted_in r.types given).kind)) weight

-- ---- what is made

-- the object that the given properties say, by this caller at this moment
abbrev pub new_object : Repository → List ℕ → Moment → List Given → Object
new_object r u m given = object_of r u m (wanted_in r.types given) (values_kept calls.Create (wanted_in r.types given).defs [] given)

-- with the access list and the policies that are asked for, and the folder in which it is to stand
abbrev pub new_of : Repository → List ℕ → ObjectRequest → Object → Option Oid → NewObject
new_of r u request x folder = record {
  object = x;
  aces = new_aces u request.remove request.add;
  policies = policies_in r u request.policies;
  folder = folder;
}

abbrev pub made_by : Repository → List ℕ → Moment → ObjectRequest → List Given → Option Oid → NewObject
made_by r u m request given folder = new_of r u request (new_object r u m given) folder

-- one step further at this cost, with the object in its folder, and the event of what was made
abbrev pub after_making : Repository → ℕ → NewObject → Repository
after_making r cost new =
    noted (filed_at (with_object (stepped r cost) new.object new.aces new.policies) new.folder new.object.id) changes.Created new.object.id new.object.created_at []

-- ---- the reply

-- the new object as the caller sees it after the step
abbrev pub reply_of_making : Repository → ℕ → List ℕ → Bool → NewObject → ObjectReply
reply_of_making r cost u succinct new = record {
  object = shown_object (after_making r cost new) u filters.All succinct new.object;
  created = true;
}
