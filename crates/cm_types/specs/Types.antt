-- Types as a list of definitions, and what is looked up in it (CMIS 1.1, section 2.1.3.2).
use Rattle.std.specs.Prelude.{ℕ, zero, suc, Bool, true, false, not, List, [], ◌∷◌, Option, unwrap_or, option_map, bytes_eq, filter, find, reverse}
use Rattle.std.specs.List.{list_any, flat_map}
use Rattle.cm_types.specs.declared.definition.BaseType.{BaseType}
use Rattle.cm_types.specs.declared.definition.BaseType.TheVariants as bases
use Rattle.cm_types.specs.declared.definition.TypeDef.{TypeDef}
use Rattle.cm_types.specs.declared.property.PropDef.{PropDef}

-- the definition of a type
abbrev pub type_in : List TypeDef → List ℕ → Option TypeDef
type_in types id = find (λ t. bytes_eq t.id id) types

-- how many types a chain has at most
unfoldable pub longest_chain : ℕ
longest_chain = 16

-- a type and its ancestors, at most n of them
abbrev pub chain_of : ℕ → List TypeDef → List ℕ → List TypeDef
chain_of zero types id = []
chain_of (suc n) types id = unwrap_or (option_map (λ t. t ∷ unwrap_or (option_map (chain_of n types) t.parent) []) (type_in types id)) []

-- a type and its ancestors up to its base
abbrev pub chain : List TypeDef → List ℕ → List TypeDef
chain types id = chain_of longest_chain types id

-- the other type is this one, or one of its ancestors
abbrev pub is_below : List TypeDef → List ℕ → List ℕ → Bool
is_below types id above = list_any (λ t. bytes_eq t.id above) (chain types id)

-- one of the given types is this one, or one of its ancestors
abbrev pub is_below_any : List TypeDef → List ℕ → List (List ℕ) → Bool
is_below_any types id above = list_any (is_below types id) above

-- the base type
abbrev pub base_of : List TypeDef → List ℕ → Option BaseType
base_of types id = option_map (λ t. t.base) (type_in types id)

abbrev pub same_base : BaseType → BaseType → Bool
same_base bases.Document bases.Document = true
same_base bases.Folder bases.Folder = true
same_base bases.Relationship bases.Relationship = true
same_base bases.Policy bases.Policy = true
same_base bases.Item bases.Item = true
same_base bases.Secondary bases.Secondary = true
same_base _ _ = false

-- the type is there and has this base type
abbrev pub is_of_base : List TypeDef → BaseType → List ℕ → Bool
is_of_base types base id = unwrap_or (option_map (same_base base) (base_of types id)) false

-- a direct subtype of the type with this id
abbrev pub is_child_type : List ℕ → TypeDef → Bool
is_child_type id t = unwrap_or (option_map (bytes_eq id) t.parent) false

abbrev pub subtypes : List TypeDef → List ℕ → List TypeDef
subtypes types id = filter (is_child_type id) types

-- each type where it stands first
abbrev pub first_of_each : List TypeDef → List TypeDef
first_of_each [] = []
first_of_each (t ∷ ts) = t ∷ filter (λ s. not (bytes_eq s.id t.id)) (first_of_each ts)

-- the types whose properties an object has: its type's chain, then those of its secondary types, each base first
abbrev pub types_of : List TypeDef → List ℕ → List (List ℕ) → List TypeDef
types_of types id secondaries = first_of_each (flat_map (λ s. reverse (chain types s)) (id ∷ secondaries))

-- the definitions of an object's properties
abbrev pub props_of : List TypeDef → List ℕ → List (List ℕ) → List PropDef
props_of types id secondaries = flat_map (λ t. t.properties) (types_of types id secondaries)
