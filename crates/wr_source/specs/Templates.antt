-- What a document that is made of another is to be: what is given, and else what the source has (CMIS 1.1, section 2.2.4.2).
use Rattle.std.specs.Prelude.{ℕ, Bool, ◌&&◌, not, if◌then◌else◌, List, [], ◌∷◌, map, filter, sum, Option, Some, None, is_none, option_map, bytes_eq, codes}
use Rattle.cm_base.specs.declared.object.Object.{Object}
use Rattle.cm_base.specs.declared.content.Content.{Content}
use Rattle.cm_base.specs.declared.value.Slot.{Slot}
use Rattle.cm_base.specs.declared.value.Value.{Value}
use Rattle.cm_base.specs.declared.value.Value.TheVariants.{Unset}
use Rattle.cm_types.specs.declared.property.PropDef.{PropDef}
use Rattle.cm_types.specs.declared.given.Given.{Given}
use Rattle.cm_types.specs.declared.given.PropertyCall.TheVariants as calls
use Rattle.cm_types.specs.Types.{props_of}
use Rattle.cm_types.specs.Properties.{given_of, given_texts, value_before}
use Rattle.call_parts.specs.declared.stream.GivenStream.{GivenStream}
use Rattle.call_parts.specs.declared.versions.CreateDocument.{CreateDocument}
use Rattle.cm_state.specs.Looks.{content_at}
use Rattle.cmis_spec.specs.Repository.{Repository}
use Rattle.cmis_spec.specs.Values.{form_value}
use Rattle.wr_rules.specs.Rules.{value_cost}
use Rattle.wr_rules.specs.Documents.{name_after, secondary_after}

-- ---- its type

abbrev pub first_or : List ℕ → List (List ℕ) → List ℕ
first_or text [] = text
first_or text (t ∷ ts) = t

-- the given type; one that is not given, or is given as unset, is that of the source
abbrev pub kind_after : Object → List Given → List ℕ
kind_after x given = first_or x.kind (given_texts given (codes "cmis:objectTypeId"))

-- ---- its values

-- the value with which a property of the source is copied; the comment of a check-in never is (section 2.1.13.5)
abbrev pub copied_value : Repository → Object → List ℕ → Value
copied_value r x id = if bytes_eq id (codes "cmis:checkinComment") then Unset else form_value r x id

-- those of all properties of the source, also where they are unset: what stands here takes no default value
abbrev pub copied_slots : Repository → Object → List Slot
copied_slots r x = map (λ d. record { id = d.id; value = copied_value r x d.id }) (props_of r.types x.kind x.secondary)

-- ---- its content

-- a content as it could be given
abbrev pub stream_copied : Content → GivenStream
stream_copied c = record { kind = c.stream.kind; file = Some c.stream.file; pieces = c.stream.pieces }

-- the given stream, else the content of the source
abbrev pub stream_after : Repository → Object → Option GivenStream → Option GivenStream
stream_after r x None = option_map stream_copied (content_at r x.id)
stream_after r x (Some s) = Some s

-- ---- all

-- the name, the type and the secondary types of the document, the definitions of its properties, the values that it takes over, and its content
pub record Template : Type 0 where
  pub name : List ℕ
  pub kind : List ℕ
  pub secondary : List (List ℕ)
  pub defs : List PropDef
  pub copied : List Slot
  pub stream : Option GivenStream

abbrev pub template_of : Repository → Object → CreateDocument → Template
template_of r x call = record {
  name = name_after r x call.properties;
  kind = kind_after x call.properties;
  secondary = secondary_after x call.properties;
  defs = props_of r.types (kind_after x call.properties) (secondary_after x call.properties);
  copied = copied_slots r x;
  stream = stream_after r x call.stream;
}

-- ---- what is taken where nothing is given, and costs

-- the type is taken as it is, without a cost
abbrev pub is_taken_over : List Given → PropDef → Bool
is_taken_over given d = is_none (given_of given d.id) && not (bytes_eq d.id (codes "cmis:objectTypeId"))

-- the scalars that are copied, and those of the default values of what the source has no property for
abbrev pub taken_cost : List PropDef → List Slot → List Given → ℕ
taken_cost defs copied given = sum (map (λ d. value_cost (value_before calls.Create copied d)) (filter (is_taken_over given) defs))
