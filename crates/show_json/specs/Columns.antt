-- What is shown of an object by columns: the definitions that are shown, in byte order of their ids.
use Rattle.std.specs.Prelude.{ℕ, Bool, true, false, List, [], ◌∷◌, codes, map, length, Option, Ok}
use Rattle.serde_json.specs.Data.{Data, boolean, number, object, string, unsigned}
use Rattle.json_text.specs.Tokens.{listed_members}
use Rattle.json_text.specs.Values.{value_data}
use Rattle.cm_base.specs.declared.object.Object.{Object}
use Rattle.cm_base.specs.declared.value.Value.{Value}
use Rattle.cm_types.specs.declared.property.PropDef.{PropDef}
use Rattle.call_parts.specs.declared.readings.PropertyFilter.{PropertyFilter}
use Rattle.call_parts.specs.declared.replies.ShownProperty.{ShownProperty}
use Rattle.cmis_spec.specs.Repository.{Repository}
use Rattle.cm_see.specs.declared.system.SystemProperty.{SystemProperty}
use Rattle.cm_see.specs.System.{system_named}
use Rattle.cm_see.specs.Shown.{property_value, shown_defs, shown_object}
use Rattle.object_json.specs.Objects.{property_data, shown_data}
use Rattle.object_json.specs.Pages.{child_data, children_data}
use Rattle.type_keys.specs.Words.{kind_word, cardinality_word}
use Rattle.call_parts.specs.declared.readings.ReadChildren.{ReadChildren}
use Rattle.call_parts.specs.declared.replies.ChildrenReply.{ChildrenReply}
use Rattle.call_parts.specs.declared.replies.ObjectReply.{ObjectReply}
use Rattle.cm_base.specs.Judged.{Judged, ◌>>=◌}
use Rattle.serde_json.specs.Written.{compact_text}
use Rattle.rd_nav.specs.ReadChildren.{has_more, page}
use Rattle.show_json.specs.Ordered.{in_key_order}

abbrev pub id_of : PropDef → List ℕ
id_of d = d.id

-- the definitions that are shown of an object, in byte order of their ids
abbrev pub columns_of : Repository → PropertyFilter → Object → List PropDef
columns_of r f x = in_key_order id_of (shown_defs r f x)

-- the property of this id that the repository sets
unfoldable pub setting_of : List ℕ → Option SystemProperty
setting_of id = system_named id

-- the value of a property as the caller sees it
unfoldable pub value_shown : Repository → List ℕ → Object → List ℕ → Value
value_shown r u x id = property_value r u x id

-- a definition and a value
abbrev pub described : PropDef → Value → ShownProperty
described d v = record {
  id = d.id;
  local_name = d.local_name;
  display_name = d.display_name;
  query_name = d.query_name;
  kind = d.kind;
  cardinality = d.cardinality;
  value = v;
}

-- an object that a caller looks at
pub record Sight : Type 0 where
  pub repository : Repository
  pub user : List ℕ
  pub object : Object

abbrev pub sight : Repository → List ℕ → Object → Sight
sight r u x = record { repository = r; user = u; object = x }

-- a property and its value
abbrev pub slot_field : Sight → PropDef → List ℕ × Data
slot_field s d = (d.id, value_data (value_shown s.repository s.user s.object d.id))

-- a property in full
abbrev pub full_field : Sight → PropDef → List ℕ × Data
full_field s d = (d.id, property_data (described d (value_shown s.repository s.user s.object d.id)))

-- the properties of an object by columns, in full or in succinct form
unfoldable pub properties_by : Sight → Bool → List PropDef → List ℕ × Data
properties_by s true ds = (codes "succinctProperties", object (listed_members (map (slot_field s) ds)))
properties_by s false ds = (codes "properties", object (listed_members (map (full_field s) ds)))

-- an object by columns
unfoldable pub object_by : Sight → Bool → List PropDef → Data
object_by s succinct ds = object (listed_members (properties_by s succinct ds ∷ []))

-- a child by columns
unfoldable pub child_by : Sight → Bool → List PropDef → Data
child_by s succinct ds = object (listed_members ((codes "object", object_by s succinct ds) ∷ []))

-- the texts that stand before a property's value
unfoldable pub texts_before : PropDef → List (List ℕ × Data)
texts_before d =
    (codes "cardinality", string (cardinality_word d.cardinality))
    ∷ (codes "displayName", string d.display_name)
    ∷ (codes "id", string d.id)
    ∷ (codes "localName", string d.local_name)
    ∷ (codes "queryName", string d.query_name)
    ∷ (codes "type", string (kind_word d.kind))
    ∷ []

-- what stands before a page's objects
unfoldable pub counts_before : Bool → ℕ → List (List ℕ × Data)
counts_before more count = (codes "hasMoreItems", boolean more) ∷ (codes "numItems", number (unsigned count)) ∷ []

-- a page of children, as a reply
abbrev pub page_reply : Repository → List ℕ → ReadChildren → List Object → ChildrenReply
page_reply r u q children = record {
  objects = map (shown_object r u q.filter q.succinct) (page q.skip_count q.max_items children);
  has_more_items = has_more q.skip_count q.max_items children;
  num_items = length children;
}

-- a caller who asks for a page of children
pub record Listing : Type 0 where
  pub repository : Repository
  pub user : List ℕ
  pub question : ReadChildren

abbrev pub listing : Repository → List ℕ → ReadChildren → Listing
listing r u q = record { repository = r; user = u; question = q }

-- the columns of a child
abbrev pub columns_in : Listing → Object → List PropDef
columns_in l x = columns_of l.repository l.question.filter x

-- a child as it is shown
abbrev pub child_in : Listing → Object → Data
child_in l x = child_data (shown_object l.repository l.user l.question.filter l.question.succinct x)

-- children as they are shown
abbrev pub children_in : Listing → List Object → List Data
children_in l xs = map child_data (map (shown_object l.repository l.user l.question.filter l.question.succinct) xs)

-- the text of what is answered about an object
abbrev pub object_answer_text : Judged ObjectReply → Judged (List ℕ)
object_answer_text judged = judged >>= λ reply. Ok (compact_text (shown_data reply.object))

-- the text of what is answered about children
abbrev pub answer_text : Judged ChildrenReply → Judged (List ℕ)
answer_text judged = judged >>= λ reply. Ok (compact_text (children_data reply))
