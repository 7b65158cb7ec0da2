-- What a reply shows of an object: its properties as the caller sees them (CMIS 1.1, sections 2.1.4.3, 2.1.5.4.2 and 2.1.13.2).
use Rattle.std.specs.Prelude.{ℕ, ◌==◌, pos, Bool, true, false, ◌&&◌, ◌||◌, not, if◌then◌else◌, List, [], ◌∷◌, ◌++◌, map, filter, find, length, decimal, Option, Some, None, is_some, unwrap_or, option_map, option_and_then, bytes_eq, codes}
use Rattle.std.specs.List.{list_any}
use Rattle.cm_base.specs.declared.object.Object.{Object}
use Rattle.cm_base.specs.declared.value.Value.{Value}
use Rattle.cm_base.specs.declared.value.Value.TheVariants.{Unset, One}
use Rattle.cm_base.specs.declared.value.Scalar.TheVariants.{Flag, Whole, Time}
use Rattle.cm_base.specs.declared.value.Slot.{Slot}
use Rattle.cm_base.specs.declared.series.DocumentVersion.{DocumentVersion}
use Rattle.cm_base.specs.declared.series.Label.{Label}
use Rattle.cm_base.specs.declared.content.Content.{Content}
use Rattle.cm_types.specs.declared.definition.BaseType.TheVariants as bases
use Rattle.cm_types.specs.declared.property.PropDef.{PropDef}
use Rattle.cm_types.specs.Changes.{base_id}
use Rattle.cm_types.specs.Types.{base_of, props_of}
use Rattle.cm_types.specs.Properties.{value_in}
use Rattle.call_parts.specs.declared.readings.PropertyFilter.{PropertyFilter}
use Rattle.call_parts.specs.declared.readings.PropertyFilter.TheVariants as filters
use Rattle.call_parts.specs.declared.replies.Properties.{Properties}
use Rattle.call_parts.specs.declared.replies.Properties.TheVariants as forms
use Rattle.call_parts.specs.declared.replies.ShownObject.{ShownObject}
use Rattle.call_parts.specs.declared.replies.ShownProperty.{ShownProperty}
use Rattle.cm_see.specs.declared.system.SystemProperty.{SystemProperty}
use Rattle.cm_see.specs.declared.system.SystemProperty.TheVariants as properties
use Rattle.cm_see.specs.System.{system_named}
use Rattle.cmis_spec.specs.Repository.{Repository, same, is_a, series_of, owner_of, is_latest, parent_in, name_of, path_of}
use Rattle.cmis_spec.specs.Access.{read_at}
use Rattle.cmis_spec.specs.Values.{words, texts}

-- ---- values of the properties that the repository sets

abbrev pub flag : Bool → Value
flag b = One (Flag b)

abbrev pub number : ℕ → Value
number n = One (Whole (pos n))

abbrev pub words_or_unset : Option (List ℕ) → Value
words_or_unset o = unwrap_or (option_map words o) Unset

-- the parent of a folder; the root has none, and nothing else has one
abbrev pub parent_value : Repository → Object → Value
parent_value r x = if is_a r bases.Folder x then words_or_unset (option_map (λ f. decimal f.0) (parent_in r.filed x.id)) else Unset

-- the path of a folder; nothing else has one
abbrev pub path_value : Repository → Object → Value
path_value r x = if is_a r bases.Folder x then words (path_of r x.id) else Unset

-- ---- versions

-- the version of the series that x is, if it is one
abbrev pub version_of : Repository → Object → Option DocumentVersion
version_of r x = option_and_then (λ s. find (λ v. same v.object x.id) s.versions) (series_of r x)

abbrev pub is_major_label : Label → Bool
is_major_label l = l.minor == 0

-- a version with a label whose second number is 0
abbrev pub is_major : DocumentVersion → Bool
is_major v = unwrap_or (option_map is_major_label v.label) false

abbrev pub is_latest_version : Repository → Object → Bool
is_latest_version r x = unwrap_or (option_map (λ s. is_latest s x.id) (series_of r x)) false

abbrev pub is_major_version : Repository → Object → Bool
is_major_version r x = unwrap_or (option_map is_major (version_of r x)) false

-- the last of the major versions
abbrev pub last_major : List DocumentVersion → Option DocumentVersion
last_major [] = None
last_major (v ∷ vs) = if is_some (last_major vs) then last_major vs else if is_major v then Some v else None

abbrev pub is_latest_major : Repository → Object → Bool
is_latest_major r x = unwrap_or (option_map (λ s. unwrap_or (option_map (λ v. same v.object x.id) (last_major s.versions)) false) (series_of r x)) false

-- a version that is not the latest
abbrev pub is_immutable : Repository → Object → Bool
is_immutable r x = is_some (version_of r x) && not (is_latest_version r x)

abbrev pub label_text : Label → List ℕ
label_text l = decimal l.major ++ codes "." ++ decimal l.minor

abbrev pub label_of : Repository → Object → Option (List ℕ)
label_of r x = option_and_then (λ v. option_map label_text v.label) (version_of r x)

-- the owner of the working copy of x's series
abbrev pub checked_out_by : Repository → Object → Option (List ℕ)
checked_out_by r x = option_and_then (λ s. option_map (λ w. w.owner) s.working) (series_of r x)

-- the working copy of x's series, where the caller reads it
abbrev pub checked_out_id : Repository → List ℕ → Object → Option (List ℕ)
checked_out_id r u x = option_and_then (λ s. option_and_then (λ w. option_map (λ c. decimal c.id.0) (read_at r u w.copy)) s.working) (series_of r x)

-- ---- content

abbrev pub content_of : Repository → Object → Option Content
content_of r x = find (λ c. same c.of x.id) r.contents

-- how many bytes it has
abbrev pub length_value : Repository → Object → Value
length_value r x = unwrap_or (option_map (λ c. number (length c.stream.pieces)) (content_of r x)) Unset

-- ---- all

abbrev pub system_value : Repository → List ℕ → Object → SystemProperty → Value
system_value r u x properties.Name = words (name_of r x)
system_value r u x properties.ObjectId = words (decimal x.id.0)
system_value r u x properties.BaseTypeId = words_or_unset (option_map base_id (base_of r.types x.kind))
system_value r u x properties.ObjectTypeId = words x.kind
system_value r u x properties.SecondaryObjectTypeIds = texts x.secondary
system_value r u x properties.CreatedBy = words x.created_by
system_value r u x properties.CreationDate = One (Time x.created_at.0)
system_value r u x properties.LastModifiedBy = words x.modified_by
system_value r u x properties.LastModificationDate = One (Time x.modified_at.0)
system_value r u x properties.ChangeToken = words (decimal x.token)
system_value r u x properties.ParentId = parent_value r x
system_value r u x properties.Path = path_value r x
system_value r u x properties.IsImmutable = flag (is_immutable r x)
system_value r u x properties.IsLatestVersion = flag (is_latest_version r x)
system_value r u x properties.IsMajorVersion = flag (is_major_version r x)
system_value r u x properties.IsLatestMajorVersion = flag (is_latest_major r x)
system_value r u x properties.IsPrivateWorkingCopy = flag (is_some (owner_of r x))
system_value r u x properties.VersionLabel = words_or_unset (label_of r x)
system_value r u x properties.VersionSeriesId = words_or_unset (option_map (λ s. decimal s.id.0) (series_of r x))
system_value r u x properties.IsVersionSeriesCheckedOut = flag (is_some (checked_out_by r x))
system_value r u x properties.VersionSeriesCheckedOutBy = words_or_unset (checked_out_by r x)
system_value r u x properties.VersionSeriesCheckedOutId = words_or_unset (checked_out_id r u x)
system_value r u x properties.ContentStreamLength = length_value r x
system_value r u x properties.ContentStreamMimeType = words_or_unset (option_map (λ c. c.stream.kind) (content_of r x))
system_value r u x properties.ContentStreamFileName = words_or_unset (option_map (λ c. c.stream.file) (content_of r x))
system_value r u x properties.ContentStreamId = words_or_unset (option_map (λ c. decimal c.step) (content_of r x))

-- a property as the caller sees it: what the repository sets, or the kept value
abbrev pub property_value : Repository → List ℕ → Object → List ℕ → Value
property_value r u x id = unwrap_or (option_map (system_value r u x) (system_named id)) (value_in x.values id)

-- ---- what is shown

-- all properties, or those of these query names; cmis:objectId always
abbrev pub passes : PropertyFilter → PropDef → Bool
passes filters.All d = true
passes (filters.QueryNames names) d = bytes_eq d.id (codes "cmis:objectId") || list_any (bytes_eq d.query_name) names

abbrev pub shown_defs : Repository → PropertyFilter → Object → List PropDef
shown_defs r f x = filter (passes f) (props_of r.types x.kind x.secondary)

abbrev pub shown_property : Repository → List ℕ → Object → PropDef → ShownProperty
shown_property r u x d = record {
  id = d.id;
  local_name = d.local_name;
  display_name = d.display_name;
  query_name = d.query_name;
  kind = d.kind;
  cardinality = d.cardinality;
  value = property_value r u x d.id;
}

abbrev pub shown_slot : Repository → List ℕ → Object → PropDef → Slot
shown_slot r u x d = record { id = d.id; value = property_value r u x d.id }

abbrev pub shown_properties : Repository → List ℕ → PropertyFilter → Bool → Object → Properties
shown_properties r u f true x = forms.Succinct (map (shown_slot r u x) (shown_defs r f x))
shown_properties r u f false x = forms.Full (map (shown_property r u x) (shown_defs r f x))

abbrev pub shown_object : Repository → List ℕ → PropertyFilter → Bool → Object → ShownObject
shown_object r u f succinct x = record { properties = shown_properties r u f succinct x }
