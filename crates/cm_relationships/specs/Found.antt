-- The relationships of an object (CMIS 1.1, sections 2.1.6 and 2.2.8.1).
use Rattle.std.specs.Prelude.{ℕ, Bool, ◌&&◌, ◌||◌, false, if◌then◌else◌, List, filter, Option, Some, None, unwrap_or, option_map, option_and_then, codes}
use Rattle.std.specs.List.{list_any}
use Rattle.cm_base.specs.declared.number.Oid.{Oid}
use Rattle.cm_base.specs.declared.object.Object.{Object}
use Rattle.cm_base.specs.declared.value.Scalar.{Scalar}
use Rattle.cm_types.specs.declared.definition.BaseType.TheVariants as bases
use Rattle.cm_types.specs.Properties.{value_in, texts_of, text_of_scalar}
use Rattle.relationship_parts.specs.declared.readings.Direction.{Direction}
use Rattle.relationship_parts.specs.declared.readings.Direction.TheVariants as directions
use Rattle.cmis_spec.specs.Repository.{Repository, is_a, object_at}
use Rattle.cmis_spec.specs.Access.{reads}
use Rattle.cmis_spec.specs.Removal.{is_id_of}

-- ---- ends

-- the property of x names the object of this number
abbrev pub is_end : Oid → List ℕ → Object → Bool
is_end n property x = list_any (is_id_of n) (texts_of (value_in x.values property))

-- the object of this number stands at an end of x that is asked for
abbrev pub has_end : Direction → Oid → Object → Bool
has_end directions.Source n x = is_end n (codes "cmis:sourceId") x
has_end directions.Target n x = is_end n (codes "cmis:targetId") x
has_end directions.Either n x = is_end n (codes "cmis:sourceId") x || is_end n (codes "cmis:targetId") x

-- ---- the relationships of an object

abbrev pub is_related : Repository → Direction → Oid → Object → Bool
is_related r direction n x = is_a r bases.Relationship x && has_end direction n x

-- those that the caller reads, in the order of their numbers
abbrev pub relationships_of : Repository → List ℕ → Direction → Oid → List Object
relationships_of r u direction n = filter (λ x. is_related r direction n x && reads r u x) r.objects

-- ---- one after another

-- what is no text names nothing
abbrev pub names : Oid → Scalar → Bool
names n s = unwrap_or (option_map (is_id_of n) (text_of_scalar s)) false

-- the object of number m, where it is such a relationship and the caller reads it
abbrev pub related_at : Repository → List ℕ → Direction → Oid → Oid → Option Object
related_at r u direction n m = option_and_then (λ x. if is_related r direction n x && reads r u x then Some x else None) (object_at r m)
