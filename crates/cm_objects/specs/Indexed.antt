-- What objects are looked up by.
use Rattle.std.specs.Prelude.{◌≡◌, Bool, ◌&&◌, List, [], ◌∷◌, ◌++◌, map, ℕ, Option, unwrap_or, option_map, option_and_then, find}
use Rattle.std.specs.List.{list_any, filter_map}
use Rattle.cm_base.specs.declared.number.Oid.{Oid}
use Rattle.cm_base.specs.declared.object.Object.{Object}
use Rattle.cm_base.specs.declared.value.Scalar.{Scalar}
use Rattle.cm_types.specs.Properties.{text_of_scalar}
use Rattle.cmis_spec.specs.Repository.{same}
use Rattle.cmis_spec.specs.Access.{oid_named}
use Rattle.cmis_spec.specs.Removal.{ends_of}
use Rattle.cm_objects.specs.declared.index_key.IndexKey.{IndexKey}
use Rattle.cm_objects.specs.declared.index_key.IndexKey.TheVariants as keys
use Rattle.cm_objects.specs.Pairs.{same_key, has_pair}

-- the end that an id names
abbrev pub end_key : List ℕ → Option IndexKey
end_key id = option_map keys.End (oid_named id)

abbrev pub scalar_key : Scalar → Option IndexKey
scalar_key s = option_and_then end_key (text_of_scalar s)

-- the keys of an object: the ends that it names (CMIS 1.1, section 2.1.6), its type and its secondary types
abbrev pub keys_of : Object → List IndexKey
keys_of x = filter_map end_key (ends_of x) ++ map keys.Kind (x.kind ∷ x.secondary)

-- the keys of the object of this number
abbrev pub keys_at : List Object → Oid → List IndexKey
keys_at objects n = unwrap_or (option_map keys_of (find (λ x. same x.id n) objects)) []

-- the pair has this number, and one of these keys
abbrev pub is_pair_of : Oid → List IndexKey → IndexKey × Oid → Bool
is_pair_of n ks pair = same n pair.1 && list_any (same_key pair.0) ks

-- an object of the list has the number and the key of the pair
abbrev pub is_keyed : List Object → IndexKey × Oid → Bool
is_keyed objects pair = list_any (λ x. is_pair_of x.id (keys_of x) pair) objects

-- the index has a pair exactly where an object of the list has its number and its key
abbrev pub IsIndexOf : List Object → List (IndexKey × Oid) → Type 0
IsIndexOf objects pairs = (pair : IndexKey × Oid) → has_pair pair pairs ≡ is_keyed objects pair
