-- What the names of a query stand for: its table, the columns, and the types whose objects are rows (CMIS 1.1, sections 2.1.14.1 and 2.1.14.2.2).
use Rattle.std.specs.Prelude.{ℕ, Bool, false, ◌&&◌, ◌||◌, not, List, [], ◌∷◌, map, filter, find, Option, Some, None, Ok, bytes_eq, codes, if◌then◌else◌}
use Rattle.std.specs.List.{list_any, flat_map}
use Rattle.cm_base.specs.declared.cause.Cause.TheVariants.{QueryName}
use Rattle.cm_base.specs.Judged.{Judged, ◌>>◌, refuse, find_or}
use Rattle.cm_types.specs.declared.definition.TypeDef.{TypeDef}
use Rattle.cm_types.specs.declared.definition.BaseType.TheVariants as bases
use Rattle.cm_types.specs.declared.property.PropDef.{PropDef}
use Rattle.cm_types.specs.Types.{same_base, chain, props_of}
use Rattle.ql_tree.specs.declared.tree.Column.{Column}

-- the properties of some types
abbrev pub properties_in : List TypeDef → List PropDef
properties_in ts = flat_map (λ t. t.properties) ts

-- the type that the table is: a queryable one, by its query name
abbrev pub table_named : List TypeDef → List ℕ → Option TypeDef
table_named types name = find (λ t. t.queryable && bytes_eq t.query_name name) types

-- the properties of a table: of a secondary type its own and those of all objects, which are those of cmis:item
abbrev pub properties_of : List TypeDef → TypeDef → List PropDef
properties_of types t =
    if same_base bases.Secondary t.base then props_of types (codes "cmis:item") (t.id ∷ [])
    else props_of types t.id []

-- what may be tested, shown and ordered by
abbrev pub columns_among : List PropDef → List PropDef
columns_among ds = filter (λ d. d.queryable) ds

abbrev pub columns_of : List TypeDef → TypeDef → List PropDef
columns_of types t = columns_among (properties_of types t)

-- the names that may stand before a point, and the columns
pub record Scope : Type 0 where
  pub names : List (List ℕ)
  pub columns : List PropDef

abbrev pub names_of : List ℕ → Option (List ℕ) → List (List ℕ)
names_of name None = name ∷ []
names_of name (Some alias) = name ∷ alias ∷ []

abbrev pub scope_of : List TypeDef → TypeDef → Option (List ℕ) → Scope
scope_of types t alias = record { names = names_of t.query_name alias; columns = columns_of types t }

-- what stands before a point is the table's query name or its alias
abbrev pub judge_qualifier : Scope → List ℕ → Judged (Unit {0})
judge_qualifier scope name = refuse (QueryName name) (not (list_any (bytes_eq name) scope.names))

abbrev pub judge_qualified : Scope → Option (List ℕ) → Judged (Unit {0})
judge_qualified scope None = Ok tt
judge_qualified scope (Some name) = judge_qualifier scope name

-- the column of a query name
abbrev pub column_in : Scope → Column → Judged PropDef
column_in scope c = judge_qualified scope c.qualifier >> find_or (QueryName c.name) (find (λ d. bytes_eq d.query_name c.name) scope.columns)

-- ---- the types whose objects are rows

-- from a type up to the table every type but the table itself counts in queries of the types above it
abbrev pub counts_up : List ℕ → List TypeDef → Bool
counts_up id [] = false
counts_up id (t ∷ above) = bytes_eq t.id id || t.included_in_supertype_query && counts_up id above

-- of some types, those whose objects are rows of the table
abbrev pub kinds_among : List TypeDef → List ℕ → List TypeDef → List (List ℕ)
kinds_among types table ts = map (λ t. t.id) (filter (λ t. counts_up table (chain types t.id)) ts)

abbrev pub row_kinds : List TypeDef → TypeDef → List (List ℕ)
row_kinds types table = kinds_among types table.id types
