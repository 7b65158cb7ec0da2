-- The JSON of objects (CMIS 1.1, section 5.2.11).
use Rattle.std.specs.Prelude.{ℕ, List, [], ◌∷◌, codes, map}
use Rattle.serde_json.specs.Data.{Data, string}
use Rattle.json_text.specs.Build.{object_data}
use Rattle.cm_base.specs.declared.value.Slot.{Slot}
use Rattle.call_parts.specs.declared.replies.ShownProperty.{ShownProperty}
use Rattle.call_parts.specs.declared.replies.Properties.{Properties}
use Rattle.call_parts.specs.declared.replies.Properties.TheVariants as shown
use Rattle.call_parts.specs.declared.replies.ShownObject.{ShownObject}
use Rattle.json_text.specs.Values.{value_data}
use Rattle.type_keys.specs.Words.{kind_word, cardinality_word}

-- a property in full
unfoldable pub property_data : ShownProperty → Data
property_data p = object_data
    ((codes "id", string p.id)
    ∷ (codes "localName", string p.local_name)
    ∷ (codes "displayName", string p.display_name)
    ∷ (codes "queryName", string p.query_name)
    ∷ (codes "type", string (kind_word p.kind))
    ∷ (codes "cardinality", string (cardinality_word p.cardinality))
    ∷ (codes "value", value_data p.value)
    ∷ [])

abbrev pub property_field : ShownProperty → List ℕ × Data
property_field p = (p.id, property_data p)

-- from ids to properties
abbrev pub properties_data : List ShownProperty → Data
properties_data ps = object_data (map property_field ps)

abbrev pub value_field : Slot → List ℕ × Data
value_field s = (s.id, value_data s.value)

-- from ids to values
abbrev pub values_data : List Slot → Data
values_data slots = object_data (map value_field slots)

-- the properties of an object, in full or in succinct form
abbrev pub properties_of_object : Properties → List ℕ × Data
properties_of_object (shown.Full ps) = (codes "properties", properties_data ps)
properties_of_object (shown.Succinct slots) = (codes "succinctProperties", values_data slots)

-- the properties of an object alone: from ids to properties, in succinct form to values
abbrev pub properties_alone_data : ShownObject → Data
properties_alone_data o = (properties_of_object o.properties).1

-- an object
abbrev pub shown_data : ShownObject → Data
shown_data o = object_data (properties_of_object o.properties ∷ [])
