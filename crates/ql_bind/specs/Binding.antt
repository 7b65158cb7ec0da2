-- A parsed query bound to the types, or the first cause that refuses it: the table, then what is shown, the condition and the order, each in the order
-- of the text (CMIS 1.1, section 2.1.14.2).
use Rattle.std.specs.Prelude.{ℕ, Bool, true, false, not, ◌&&◌, List, [], ◌∷◌, ◌++◌, map, Option, Some, None, Ok, unwrap_or, option_map}
use Rattle.cm_base.specs.declared.value.Scalar.{Scalar}
use Rattle.cm_base.specs.declared.value.Scalar.TheVariants as scalars
use Rattle.cm_base.specs.declared.cause.Cause.TheVariants.{QueryText, QueryName, QueryUse}
use Rattle.cm_base.specs.Judged.{Judged, ◌>>=◌, ◌>>◌, refuse, find_or}
use Rattle.cm_types.specs.declared.definition.TypeDef.{TypeDef}
use Rattle.cm_types.specs.declared.property.PropDef.{PropDef}
use Rattle.cm_types.specs.declared.property.PropertyKind.{PropertyKind}
use Rattle.cm_types.specs.declared.property.PropertyKind.TheVariants as kinds
use Rattle.cm_types.specs.declared.property.Cardinality.{Cardinality}
use Rattle.cm_types.specs.declared.property.Cardinality.TheVariants as cardinalities
use Rattle.cmis_spec.specs.Access.{oid_named}
use Rattle.ql_tree.specs.declared.tree.Column.{Column}
use Rattle.ql_tree.specs.declared.tree.Literal.{Literal}
use Rattle.ql_tree.specs.declared.tree.Literal.TheVariants as literals
use Rattle.ql_tree.specs.declared.tree.Timestamp.{Timestamp}
use Rattle.ql_tree.specs.declared.tree.Comparison.{Comparison}
use Rattle.ql_tree.specs.declared.tree.Comparison.TheVariants as comparisons
use Rattle.ql_tree.specs.declared.tree.Cond.{Cond}
use Rattle.ql_tree.specs.declared.tree.Cond.TheOpen.{Cond-F}
use Rattle.ql_tree.specs.declared.tree.Cond.TheFolds.{fold-Cond}
use Rattle.ql_tree.specs.declared.tree.Item.{Item}
use Rattle.ql_tree.specs.declared.tree.Item.TheVariants as items
use Rattle.ql_tree.specs.declared.tree.Selection.{Selection}
use Rattle.ql_tree.specs.declared.tree.Selection.TheVariants as selections
use Rattle.ql_tree.specs.declared.tree.Key.{Key}
use Rattle.ql_tree.specs.declared.tree.Query.{Query}
use Rattle.ql_bind.specs.declared.bound.Condition.{Condition}
use Rattle.ql_bind.specs.declared.bound.Condition.TheVariants as tests
use Rattle.ql_bind.specs.declared.bound.ShownColumn.{ShownColumn}
use Rattle.ql_bind.specs.declared.bound.OrderKey.{OrderKey}
use Rattle.ql_bind.specs.declared.bound.Bound.{Bound}
use Rattle.ql_bind.specs.Moments.{moment_of}
use Rattle.ql_bind.specs.Numbers.{whole_number}
use Rattle.ql_bind.specs.Patterns.{pieces_of}
use Rattle.ql_bind.specs.Tables.{Scope, table_named, scope_of, judge_qualifier, judge_qualified, column_in, row_kinds}

-- what the items of a list bind to, in their order behind what is done, or the first cause
abbrev pub each_onto : {A B : Type 0} → (A → Judged B) → List B → List A → Judged (List B)
each_onto read done [] = Ok done
each_onto read done (x ∷ xs) = read x >>= λ y. each_onto read (done ++ y ∷ []) xs

-- the same, where an item binds to a list
abbrev pub all_onto : {A B : Type 0} → (A → Judged (List B)) → List B → List A → Judged (List B)
all_onto read done [] = Ok done
all_onto read done (x ∷ xs) = read x >>= λ ys. all_onto read (done ++ ys) xs

-- ---- columns in tests

abbrev pub is_several : Cardinality → Bool
is_several cardinalities.Single = false
is_several cardinalities.Multi = true

-- a column of one value: it stands in any test but ANY
abbrev pub single_in : Scope → Column → Judged PropDef
single_in scope c = do
  d ← column_in scope c
  refuse (QueryUse c.name) (is_several d.cardinality)
  Ok d

-- a column of several values: of the tests on values it stands in ANY alone
abbrev pub several_in : Scope → Column → Judged PropDef
several_in scope c = do
  d ← column_in scope c
  refuse (QueryUse c.name) (not (is_several d.cardinality))
  Ok d

abbrev pub is_text_kind : PropertyKind → Bool
is_text_kind kinds.String = true
is_text_kind kinds.Uri = true
is_text_kind kinds.Id = true
is_text_kind kinds.Html = true
is_text_kind _ = false

abbrev pub is_boolean : PropertyKind → Bool
is_boolean kinds.Boolean = true
is_boolean _ = false

abbrev pub is_equality : Comparison → Bool
is_equality comparisons.Equal = true
is_equality comparisons.NotEqual = true
is_equality _ = false

-- flags are equal or not, and have no order in a test
abbrev pub judge_comparison : Column → PropDef → Comparison → Judged (Unit {0})
judge_comparison c d by = refuse (QueryUse c.name) (is_boolean d.kind && not (is_equality by))

abbrev pub judge_like : Column → PropDef → Judged (Unit {0})
judge_like c d = refuse (QueryUse c.name) (not (is_text_kind d.kind))

-- ---- constants

abbrev pub is_integer : PropertyKind → Bool
is_integer kinds.Integer = true
is_integer _ = false

abbrev pub is_datetime : PropertyKind → Bool
is_datetime kinds.Datetime = true
is_datetime _ = false

-- texts for string, id, uri and html, digits for integer, flags for boolean, timestamps for datetime
abbrev pub is_of_kind : PropertyKind → Literal → Bool
is_of_kind kind (literals.Words text) = is_text_kind kind
is_of_kind kind (literals.Whole text) = is_integer kind
is_of_kind kind (literals.Flag flag) = is_boolean kind
is_of_kind kind (literals.Time t) = is_datetime kind

abbrev pub judge_kind : Column → PropDef → Literal → Judged (Unit {0})
judge_kind c d x = refuse (QueryUse c.name) (not (is_of_kind d.kind x))

-- a number past 64 bits is no value of the column
abbrev pub stated_whole : Column → List ℕ → Judged Scalar
stated_whole c text = find_or (QueryUse c.name) (option_map scalars.Whole (whole_number text))

-- what is no timestamp is refused at its text
abbrev pub stated_time : Timestamp → Judged Scalar
stated_time t = find_or (QueryText t.at) (option_map scalars.Time (moment_of t.text))

-- the scalar that a constant states
abbrev pub stated : Column → Literal → Judged Scalar
stated c (literals.Words text) = Ok (scalars.Words text)
stated c (literals.Whole text) = stated_whole c text
stated c (literals.Flag flag) = Ok (scalars.Flag flag)
stated c (literals.Time t) = stated_time t

-- the constant is of the column's kind, and then has its form
abbrev pub literal_for : Column → PropDef → Literal → Judged Scalar
literal_for c d x = judge_kind c d x >> stated c x

-- ---- conditions

abbrev pub bind_compare : Scope → Column → Comparison → Literal → Judged Condition
bind_compare scope c by x = do
  d ← single_in scope c
  judge_comparison c d by
  s ← literal_for c d x
  Ok (tests.Compare d.id by s)

-- x = ANY c is ANY c IN (x)
abbrev pub bind_equal_any : Scope → Literal → Column → Judged Condition
bind_equal_any scope x c = do
  d ← several_in scope c
  s ← literal_for c d x
  Ok (tests.AnyIn d.id false (s ∷ []))

abbrev pub bind_in : Scope → Column → Bool → List Literal → Judged Condition
bind_in scope c negated xs = do
  d ← single_in scope c
  ss ← each_onto (literal_for c d) [] xs
  Ok (tests.In d.id negated ss)

abbrev pub bind_any_in : Scope → Column → Bool → List Literal → Judged Condition
bind_any_in scope c negated xs = do
  d ← several_in scope c
  ss ← each_onto (literal_for c d) [] xs
  Ok (tests.AnyIn d.id negated ss)

abbrev pub bind_like : Scope → Column → Bool → List ℕ → Judged Condition
bind_like scope c negated text = do
  d ← single_in scope c
  judge_like c d
  Ok (tests.Like d.id negated (pieces_of text))

abbrev pub bind_null : Scope → Column → Bool → Judged Condition
bind_null scope c negated = do
  d ← column_in scope c
  Ok (tests.Null d.id negated)

abbrev pub bind_both : (Condition → Condition → Condition) → Judged Condition → Judged Condition → Judged Condition
bind_both join a b = do
  x ← a
  y ← b
  Ok (join x y)

-- the parts of a condition are bound already
abbrev pub bind_step : Scope → Cond-F (Judged Condition) → Judged Condition
bind_step scope (Cond-F.Or a b) = bind_both tests.Or a b
bind_step scope (Cond-F.And a b) = bind_both tests.And a b
bind_step scope (Cond-F.Not a) = a >>= λ x. Ok (tests.Not x)
bind_step scope (Cond-F.Compare c by x) = bind_compare scope c by x
bind_step scope (Cond-F.EqualAny x c) = bind_equal_any scope x c
bind_step scope (Cond-F.In c negated xs) = bind_in scope c negated xs
bind_step scope (Cond-F.AnyIn c negated xs) = bind_any_in scope c negated xs
bind_step scope (Cond-F.Like c negated text) = bind_like scope c negated text
bind_step scope (Cond-F.Null c negated) = bind_null scope c negated
bind_step scope (Cond-F.InFolder table text) = judge_qualified scope table >> Ok (tests.InFolder (oid_named text))
bind_step scope (Cond-F.InTree table text) = judge_qualified scope table >> Ok (tests.InTree (oid_named text))

abbrev pub bind_condition : Scope → Cond → Judged Condition
bind_condition scope = fold-Cond (Judged Condition) (bind_step scope)

-- without WHERE every row is kept
abbrev pub bind_filter : Scope → Option Cond → Judged (Option Condition)
bind_filter scope None = Ok None
bind_filter scope (Some x) = bind_condition scope x >>= λ y. Ok (Some y)

-- ---- what is shown, and the order

abbrev pub whole_column : PropDef → ShownColumn
whole_column d = record { key = d.query_name; property = d }

-- under its alias, or else its query name
abbrev pub named_column : Option (List ℕ) → PropDef → ShownColumn
named_column alias d = record { key = unwrap_or alias d.query_name; property = d }

abbrev pub bind_item : Scope → Item → Judged (List ShownColumn)
bind_item scope (items.AllOf table) = judge_qualifier scope table >> Ok (map whole_column scope.columns)
bind_item scope (items.One c alias) = do
  d ← column_in scope c
  Ok (named_column alias d ∷ [])

abbrev pub bind_selection : Scope → Selection → Judged (List ShownColumn)
bind_selection scope selections.All = Ok (map whole_column scope.columns)
bind_selection scope (selections.Columns xs) = all_onto (bind_item scope) [] xs

abbrev pub bind_key : Scope → Key → Judged OrderKey
bind_key scope k = do
  d ← column_in scope k.column
  refuse (QueryUse k.column.name) (not d.orderable)
  Ok (record { id = d.id; descending = k.descending })

-- ---- the query

abbrev pub bind_at : List TypeDef → TypeDef → Scope → Query → Judged Bound
bind_at types table scope q = do
  columns ← bind_selection scope q.list
  filter ← bind_filter scope q.filter
  keys ← each_onto (bind_key scope) [] q.keys
  Ok (record { kinds = row_kinds types table; columns = columns; filter = filter; keys = keys })

abbrev pub bound_query : List TypeDef → Query → Judged Bound
bound_query types q = do
  table ← find_or (QueryName q.table.name) (table_named types q.table.name)
  bind_at types table (scope_of types table q.table.alias) q
