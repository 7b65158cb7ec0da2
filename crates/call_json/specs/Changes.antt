-- The JSON of the change log (CMIS 1.1, sections 2.2.6.2 and 5.2.11).
use Rattle.std.specs.Prelude.{ℕ, Bool, true, false, List, [], ◌∷◌, codes, decimal, map}
use Rattle.serde_json.specs.Data.{Data, boolean, number, string, unsigned}
use Rattle.serde_json.specs.Find.{of_integer}
use Rattle.json_text.specs.Build.{object_data, list_data}
use Rattle.cm_base.specs.declared.log.ChangeKind.{ChangeKind}
use Rattle.cm_base.specs.declared.log.ChangeKind.TheVariants as changes
use Rattle.cm_base.specs.declared.number.Oid.{Oid}
use Rattle.cm_base.specs.declared.value.Scalar.TheVariants.{Words}
use Rattle.cm_base.specs.declared.value.Slot.{Slot}
use Rattle.cm_base.specs.declared.value.Value.TheVariants.{One}
use Rattle.cm_types.specs.declared.property.Cardinality.TheVariants as cardinalities
use Rattle.cm_types.specs.declared.property.PropertyKind.TheVariants as kinds
use Rattle.call_parts.specs.declared.replies.Properties.{Properties}
use Rattle.call_parts.specs.declared.replies.Properties.TheVariants as shown
use Rattle.call_parts.specs.declared.replies.ShownProperty.{ShownProperty}
use Rattle.object_json.specs.Objects.{properties_of_object}
use Rattle.log_parts.specs.declared.replies.ShownEvent.{ShownEvent}
use Rattle.log_parts.specs.declared.replies.ChangesReply.{ChangesReply}

-- what happened to the object (section 2.1.15.2)
abbrev pub change_word : ChangeKind → List ℕ
change_word changes.Created = codes "created"
change_word changes.Updated = codes "updated"
change_word changes.Deleted = codes "deleted"
change_word changes.Security = codes "security"

-- the id of an object, as its base types define it
abbrev pub id_property : Oid → ShownProperty
id_property n = record {
  id = codes "cmis:objectId";
  local_name = codes "cmis:objectId";
  display_name = codes "cmis:objectId";
  query_name = codes "cmis:objectId";
  kind = kinds.Id;
  cardinality = cardinalities.Single;
  value = One (Words (decimal n.0));
}

abbrev pub id_slot : Oid → Slot
id_slot n = record { id = codes "cmis:objectId"; value = One (Words (decimal n.0)) }

-- an object by its id alone, in succinct or in full form
abbrev pub by_id_alone : Bool → Oid → Properties
by_id_alone true n = shown.Succinct (id_slot n ∷ [])
by_id_alone false n = shown.Full (id_property n ∷ [])

-- what happened, and when: in milliseconds since 1970
abbrev pub event_info : ShownEvent → Data
event_info e = object_data
    ((codes "changeType", string (change_word e.kind))
    ∷ (codes "changeTime", number (of_integer e.moment.0))
    ∷ [])

-- an event, as the object to which it happened
abbrev pub event_data : Bool → ShownEvent → Data
event_data succinct e = object_data
    (properties_of_object (by_id_alone succinct e.object)
    ∷ (codes "changeEventInfo", event_info e)
    ∷ [])

-- a page of events, and the token from which on to ask for the next ones
unfoldable pub changes_data : ChangesReply → Data
changes_data r = object_data
    ((codes "objects", list_data (map (event_data r.succinct) r.events))
    ∷ (codes "hasMoreItems", boolean r.has_more_items)
    ∷ (codes "numItems", number (unsigned r.num_items))
    ∷ (codes "changeLogToken", string (decimal r.token))
    ∷ [])
