-- What the writes on documents share: look-ups of versions, the causes of content, and what a check-out or a check-in makes (CMIS 1.1, section 2.1.13).
use Rattle.std.specs.Prelude.{ℕ, ◌+◌, nat_lt, sum, Bool, true, false, ◌&&◌, if◌then◌else◌, List, ◌∷◌, map, length, Option, is_some, is_none, unwrap_or, option_map, codes}
use Rattle.std.specs.List.{list_any}
use Rattle.cm_base.specs.declared.number.Oid.{Oid}
use Rattle.cm_base.specs.declared.object.Object.{Object}
use Rattle.cm_base.specs.declared.content.Content.{Content}
use Rattle.cm_base.specs.declared.value.Slot.{Slot}
use Rattle.cm_base.specs.declared.cause.Cause.TheVariants as causes
use Rattle.cm_base.specs.Judged.{Judged, ◌>>◌, refuse}
use Rattle.cm_types.specs.declared.definition.TypeDef.{TypeDef}
use Rattle.cm_types.specs.declared.definition.ContentAllowed.{ContentAllowed}
use Rattle.cm_types.specs.declared.definition.ContentAllowed.TheVariants as contents
use Rattle.cm_types.specs.declared.given.Given.{Given}
use Rattle.cm_types.specs.Properties.{given_of}
use Rattle.call_parts.specs.declared.stream.GivenStream.{GivenStream}
use Rattle.cmis_spec.specs.Repository.{Repository, same, longest_stream, series_of, type_of, name_of, is_taken}
use Rattle.cmis_spec.specs.Values.{words, texts}
use Rattle.cmis_spec.specs.Documents.{without_comment}
use Rattle.wr_rules.specs.Rules.{name_in, secondary_in, value_cost}

-- ---- versions

abbrev pub is_versionable : Repository → Object → Bool
is_versionable r x = unwrap_or (option_map (λ t. t.versionable) (type_of r x)) false

-- the series of x has a working copy
abbrev pub is_checked_out : Repository → Object → Bool
is_checked_out r x = unwrap_or (option_map (λ s. is_some s.working) (series_of r x)) false

-- ---- values

-- the values that a form may give, with those that are kept apart
abbrev pub form_slots : Repository → Object → List Slot
form_slots r x =
    record { id = codes "cmis:name"; value = words (name_of r x) }
    ∷ record { id = codes "cmis:objectTypeId"; value = words x.kind }
    ∷ record { id = codes "cmis:secondaryObjectTypeIds"; value = texts x.secondary }
    ∷ x.values

-- the given name, else the one that it has
abbrev pub name_after : Repository → Object → List Given → List ℕ
name_after r x given = if is_some (given_of given (codes "cmis:name")) then name_in given else name_of r x

-- the given secondary types, else those that it has
abbrev pub secondary_after : Object → List Given → List (List ℕ)
secondary_after x given = if is_some (given_of given (codes "cmis:secondaryObjectTypeIds")) then secondary_in given else x.secondary

-- the scalars that a copy of x takes over: its name, its secondary types and its other values
abbrev pub copied_cost : Repository → Object → ℕ
copied_cost r x = value_cost (words (name_of r x)) + value_cost (texts x.secondary) + sum (map (λ s. value_cost s.value) (without_comment x.values))

-- ---- content (sections 2.1.4.1 and 2.1.10)

abbrev pub bars_content : TypeDef → Bool
bars_content t = by t.content_allowed
  where
    by : ContentAllowed → Bool
    by contents.NotAllowed = true
    by _ = false

abbrev pub needs_content : TypeDef → Bool
needs_content t = by t.content_allowed
  where
    by : ContentAllowed → Bool
    by contents.Required = true
    by _ = false

abbrev pub is_too_long : GivenStream → Bool
is_too_long s = nat_lt longest_stream (length s.pieces)

-- a stream that is given, or the content that the document has
abbrev pub judge_content : TypeDef → Option GivenStream → Option Content → Judged (Unit {0})
judge_content t stream old = do
  refuse causes.StreamNot (bars_content t && is_some stream)
  refuse causes.ContentRequired (needs_content t && is_none stream && is_none old)
  refuse causes.StreamLong (unwrap_or (option_map is_too_long stream) false)

-- the content of a document with this name; a stream without a file name takes the name
abbrev pub content_of_stream : Oid → List ℕ → ℕ → GivenStream → Content
content_of_stream n name step s = record {
  of = n;
  stream = record { kind = s.kind; file = unwrap_or s.file name; pieces = s.pieces };
  step = step;
}

-- the same content of another document
abbrev pub content_copied : Oid → ℕ → Content → Content
content_copied n step c = record { of = n; stream = c.stream; step = step }

-- ---- names

-- another child has the name in one of the folders in which the entry is filed
abbrev pub is_taken_anywhere : Repository → Oid → List ℕ → Bool
is_taken_anywhere r n name = list_any (λ p. same p.child n && is_taken r p.folder n name) r.filed
