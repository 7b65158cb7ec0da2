-- The relationships of an object, a page of them, with what is shown beside their properties (CMIS 1.1, section 2.2.8.1).
use Rattle.std.specs.Prelude.{ℕ, Bool, true, false, if◌then◌else◌, List, [], ◌∷◌, filter, Option, Some, None, is_none, unwrap_or, option_map, Ok, bytes_eq}
use Rattle.cm_base.specs.declared.object.Object.{Object}
use Rattle.cm_base.specs.declared.cause.Cause.TheVariants as causes
use Rattle.cm_base.specs.Judged.{Judged, ◌>>=◌, ◌>>◌, find_or, refuse}
use Rattle.cm_types.specs.declared.definition.TypeDef.{TypeDef}
use Rattle.cm_types.specs.Types.{type_in, is_below}
use Rattle.relationship_parts.specs.declared.readings.ReadRelationships.{ReadRelationships}
use Rattle.include_parts.specs.declared.readings.ShowRelationships.{ShowRelationships}
use Rattle.include_parts.specs.declared.replies.IncludedObject.{IncludedObject}
use Rattle.include_parts.specs.declared.replies.IncludedPageReply.{IncludedPageReply}
use Rattle.cm_see.specs.Addressed.{addressed}
use Rattle.cm_include.specs.Included.{included_object}
use Rattle.cmis_spec.specs.Repository.{Repository}
use Rattle.cm_relationships.specs.Found.{relationships_of}
use Rattle.rd_include.specs.Listed.{page_of}

-- a type is named that isn't there
abbrev pub is_unknown : List TypeDef → Option (List ℕ) → Bool
is_unknown types kind = unwrap_or (option_map (λ id. is_none (type_in types id)) kind) false

-- of the type that is named, or where that is asked for of one below it; of any type where none is named
abbrev pub is_of_type : List TypeDef → Option (List ℕ) → Bool → Object → Bool
is_of_type types None with_subtypes x = true
is_of_type types (Some id) with_subtypes x = if with_subtypes then is_below types x.kind id else bytes_eq x.kind id

-- those that the caller reads, in the order of their numbers
abbrev pub asked_of : Repository → List ℕ → ReadRelationships → Object → List Object
asked_of r u q x = filter (is_of_type r.types q.kind q.with_subtypes) (relationships_of r u q.direction x.id)

-- a relationship as the caller sees it
abbrev pub included_relationship : Repository → List ℕ → ShowRelationships → Object → IncludedObject
included_relationship r u q x = included_object r u q.relationships.filter q.relationships.succinct q.includes x

abbrev pub page_reply : Repository → List ℕ → ShowRelationships → List Object → IncludedPageReply
page_reply r u q xs = page_of (included_relationship r u q) q.relationships.skip_count q.relationships.max_items xs

abbrev pub answer_relationships_of : Repository → List ℕ → ShowRelationships → Object → Judged IncludedPageReply
answer_relationships_of r u q x = do
  refuse causes.TypeNotFound (is_unknown r.types q.relationships.kind)
  Ok (page_reply r u q (asked_of r u q.relationships x))

abbrev pub answer_relationships : Repository → List ℕ → ShowRelationships → Judged IncludedPageReply
answer_relationships r u q = find_or causes.NotFound (addressed r u q.relationships.place) >>= answer_relationships_of r u q

-- ---- one after another

-- the object, where it passes
abbrev pub object_if : (Object → Bool) → Object → List Object
object_if p x = if p x then x ∷ [] else []
