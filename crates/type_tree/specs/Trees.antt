-- The types below one, in a list of types: those right below it, and the tree of all (CMIS 1.1, section 2.1.3.1).
use Rattle.std.specs.Prelude.{ℕ, zero, suc, ◌+◌, min, Bool, false, List, [], ◌∷◌, filter, Option, Some, None, is_none}
use Rattle.std.specs.List.{flat_map}
use Rattle.cm_types.specs.declared.definition.TypeDef.{TypeDef}
use Rattle.cm_types.specs.Types.{type_in, longest_chain, is_child_type, subtypes}
use Rattle.type_parts.specs.declared.readings.Depth.{Depth}
use Rattle.type_parts.specs.declared.readings.Depth.TheVariants as depths
use Rattle.type_parts.specs.declared.replies.TypeRow.{TypeRow}

-- where a type is named, it is none of these
abbrev pub names_none : List TypeDef → Option (List ℕ) → Bool
names_none types None = false
names_none types (Some id) = is_none (type_in types id)

-- a direct subtype of a type, or a base type
abbrev pub stands_below : Option (List ℕ) → TypeDef → Bool
stands_below None t = is_none t.parent
stands_below (Some id) t = is_child_type id t

-- these types, in the order of their ids
abbrev pub types_below : List TypeDef → Option (List ℕ) → List TypeDef
types_below types top = filter (stands_below top) types

-- types of one level, each with the tree of its subtypes behind it, n levels in all
abbrev pub rows_of : ℕ → List TypeDef → ℕ → List TypeDef → List TypeRow
rows_of zero types level tops = []
rows_of (suc n) types level tops = flat_map (λ t. record { level = level; definition = t } ∷ rows_of n types (level + 1) (subtypes types t.id)) tops

-- no chain of types is longer, so these are all levels
abbrev pub levels_of : Depth → ℕ
levels_of depths.All = longest_chain
levels_of (depths.Levels n) = min n longest_chain

-- the tree of all types has all levels, whatever depth is asked for
abbrev pub levels_below : Option (List ℕ) → Depth → ℕ
levels_below None depth = levels_of depths.All
levels_below (Some id) depth = levels_of depth

-- the tree below a type, or of all types
abbrev pub tree_below : List TypeDef → Option (List ℕ) → Depth → List TypeRow
tree_below types top depth = rows_of (levels_below top depth) types 0 (types_below types top)
