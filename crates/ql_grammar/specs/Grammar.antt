-- The grammar of queries, rule by rule (CMIS 1.1, section 2.1.14.2.1). Above each rule stands what it says in EBNF. Alternatives that begin with
-- the same part are written as that part and the alternatives behind it.
use Rattle.std.specs.Prelude.{ℕ, zero, suc, Bool, true, false, ◌==◌, List, [], ◌∷◌, ◌++◌, Option, Some, None, if◌then◌else◌}
use Rattle.grammar_rules.specs.Rules.{Rule, one, both, chain, perhaps, either, mapped, stands}
use Rattle.ql_lex.specs.Words.{is_left_out}
use Rattle.ql_lex.specs.declared.word.Word.{Word}
use Rattle.ql_lex.specs.declared.word.Word.TheVariants as words
use Rattle.ql_lex.specs.declared.token.Kind.{Kind}
use Rattle.ql_lex.specs.declared.token.Kind.TheVariants as kinds
use Rattle.ql_lex.specs.declared.token.Token.{Token}
use Rattle.ql_tree.specs.Texts.{unescaped}
use Rattle.ql_tree.specs.declared.tree.Column.{Column}
use Rattle.ql_tree.specs.declared.tree.Timestamp.{Timestamp}
use Rattle.ql_tree.specs.declared.tree.Literal.{Literal}
use Rattle.ql_tree.specs.declared.tree.Literal.TheVariants as literals
use Rattle.ql_tree.specs.declared.tree.Comparison.{Comparison}
use Rattle.ql_tree.specs.declared.tree.Comparison.TheVariants as comparisons
use Rattle.ql_tree.specs.declared.tree.Cond.{Cond}
use Rattle.ql_tree.specs.declared.tree.Cond.TheVariants as conds
use Rattle.ql_tree.specs.declared.tree.Item.{Item}
use Rattle.ql_tree.specs.declared.tree.Item.TheVariants as items
use Rattle.ql_tree.specs.declared.tree.Selection.{Selection}
use Rattle.ql_tree.specs.declared.tree.Selection.TheVariants as selections
use Rattle.ql_tree.specs.declared.tree.Table.{Table}
use Rattle.ql_tree.specs.declared.tree.Key.{Key}
use Rattle.ql_tree.specs.declared.tree.Query.{Query}
use Rattle.ql_grammar.specs.declared.parts.ItemRest.{ItemRest}
use Rattle.ql_grammar.specs.declared.parts.ItemRest.TheVariants as item_rests
use Rattle.ql_grammar.specs.declared.parts.TestRest.{TestRest}
use Rattle.ql_grammar.specs.declared.parts.TestRest.TheVariants as test_rests
use Rattle.ql_grammar.specs.declared.parts.Among.{Among}
use Rattle.ql_grammar.specs.declared.parts.Placed.{Placed}

-- a number for each word
abbrev pub code : Word → ℕ
code words.Select = 0
code words.From = 1
code words.As = 2
code words.Where = 3
code words.Order = 4
code words.By = 5
code words.Asc = 6
code words.Desc = 7
code words.Or = 8
code words.And = 9
code words.Not = 10
code words.Any = 11
code words.In = 12
code words.Like = 13
code words.Is = 14
code words.Null = 15
code words.InFolder = 16
code words.InTree = 17
code words.True = 18
code words.False = 19
code words.Timestamp = 20
code words.Star = 21
code words.Dot = 22
code words.Comma = 23
code words.Open = 24
code words.Close = 25
code words.Equal = 26
code words.NotEqual = 27
code words.Less = 28
code words.Greater = 29
code words.LessEqual = 30
code words.GreaterEqual = 31

-- What each kind of token gives.
abbrev pub word_in : Word → Kind → Option (Unit {0})
word_in w (kinds.Word v) = if code v == code w then Some (tt {0}) else None
word_in w (kinds.Name text) = None
word_in w (kinds.Quoted text) = None
word_in w (kinds.Number text) = None
word_in w (kinds.Decimal text) = None
word_in w kinds.Wrong = None

abbrev pub name_in : Kind → Option (List ℕ)
name_in (kinds.Word v) = None
name_in (kinds.Name text) = Some text
name_in (kinds.Quoted text) = None
name_in (kinds.Number text) = None
name_in (kinds.Decimal text) = None
name_in kinds.Wrong = None

-- a name that isn't CONTAINS, SCORE or JOIN
abbrev pub plain_in : Kind → Option (List ℕ)
plain_in (kinds.Word v) = None
plain_in (kinds.Name text) = if is_left_out text then None else Some text
plain_in (kinds.Quoted text) = None
plain_in (kinds.Number text) = None
plain_in (kinds.Decimal text) = None
plain_in kinds.Wrong = None

-- what stands between the quotes of a text
abbrev pub quoted_in : Kind → Option (List ℕ)
quoted_in (kinds.Word v) = None
quoted_in (kinds.Name text) = None
quoted_in (kinds.Quoted text) = Some text
quoted_in (kinds.Number text) = None
quoted_in (kinds.Decimal text) = None
quoted_in kinds.Wrong = None

abbrev pub number_in : Kind → Option (List ℕ)
number_in (kinds.Word v) = None
number_in (kinds.Name text) = None
number_in (kinds.Quoted text) = None
number_in (kinds.Number text) = Some text
number_in (kinds.Decimal text) = None
number_in kinds.Wrong = None

-- CONTAINS, SCORE, JOIN and a number with a point, which the language leaves out
abbrev pub left_out_in : Kind → Bool
left_out_in (kinds.Word v) = false
left_out_in (kinds.Name text) = is_left_out text
left_out_in (kinds.Quoted text) = false
left_out_in (kinds.Number text) = false
left_out_in (kinds.Decimal text) = true
left_out_in kinds.Wrong = false

abbrev pub left_out : Token → Bool
left_out t = left_out_in t.kind

abbrev pub keyword : Word → Rule Token (Unit {0})
keyword w = one (λ t. word_in w t.kind)

-- a keyword or sign that stands for a tree
abbrev pub meaning : {A : Type 0} → Word → A → Rule Token A
meaning w x = mapped (keyword w) (λ _. x)

abbrev pub name : Rule Token (List ℕ)
name = one (λ t. name_in t.kind)

abbrev pub plain_name : Rule Token (List ℕ)
plain_name = one (λ t. plain_in t.kind)

abbrev pub pattern : Rule Token (List ℕ)
pattern = one (λ t. quoted_in t.kind)

abbrev pub quoted : Rule Token (List ℕ)
quoted = mapped pattern (unescaped false)

abbrev pub number : Rule Token (List ℕ)
number = one (λ t. number_in t.kind)

-- a text with its offset
abbrev pub moment_in : Kind → ℕ → Option Timestamp
moment_in (kinds.Word v) at = None
moment_in (kinds.Name text) at = None
moment_in (kinds.Quoted text) at = Some (record { text = unescaped false text; at = at })
moment_in (kinds.Number text) at = None
moment_in (kinds.Decimal text) at = None
moment_in kinds.Wrong at = None

abbrev pub moment : Rule Token Timestamp
moment = one (λ t. moment_in t.kind t.at)

abbrev pub second : {A B : Type 0} → A → B → B
second x y = y

abbrev pub first : {A B : Type 0} → A → B → A
first x y = x

abbrev pub alone : {A : Type 0} → A → List A
alone x = x ∷ []

abbrev pub append : {A : Type 0} → List A → A → List A
append xs x = xs ++ x ∷ []

-- , part
abbrev pub comma_then : {A : Type 0} → Rule Token A → Rule Token A
comma_then part = both (keyword words.Comma) part second

-- part {, part}
abbrev pub list_of : {A : Type 0} → Rule Token A → Rule Token (List A)
list_of part = chain (mapped part alone) (comma_then part) append

-- part )
abbrev pub closed : {A : Type 0} → Rule Token A → Rule Token A
closed part = both part (keyword words.Close) first

-- ( part )
abbrev pub group : {A : Type 0} → Rule Token A → Rule Token A
group part = both (keyword words.Open) (closed part) second

-- . name
abbrev pub dot_name : Rule Token (List ℕ)
dot_name = both (keyword words.Dot) name second

abbrev pub bare : List ℕ → Column
bare text = record { qualifier = None; name = text }

abbrev pub qualify : Column → List ℕ → Column
qualify c text = record { qualifier = Some c.name; name = text }

-- begin [. name], where begin is a name
abbrev pub column_from : Rule Token (List ℕ) → Rule Token Column
column_from begin = perhaps (mapped begin bare) dot_name qualify

-- [name .] name
abbrev pub column : Rule Token Column
column = column_from name

-- the same, where a test begins
abbrev pub test_column : Rule Token Column
test_column = column_from plain_name

-- AS name
abbrev pub as_name : Rule Token (List ℕ)
as_name = both (keyword words.As) name second

-- [AS] name
abbrev pub alias : Rule Token (List ℕ)
alias = either as_name name

abbrev pub unaliased : List ℕ → ItemRest
unaliased text = item_rests.Dotted text None

abbrev pub aliased : ItemRest → List ℕ → ItemRest
aliased item_rests.Star text = item_rests.Star
aliased (item_rests.Dotted column other) text = item_rests.Dotted column (Some text)
aliased (item_rests.Alias other) text = item_rests.Alias other

-- name [[AS] name]
abbrev pub dotted : Rule Token ItemRest
dotted = perhaps (mapped name unaliased) alias aliased

-- * | name [[AS] name]
abbrev pub behind_dot : Rule Token ItemRest
behind_dot = either (meaning words.Star item_rests.Star) dotted

-- . (* | name [[AS] name])
abbrev pub dot_rest : Rule Token ItemRest
dot_rest = both (keyword words.Dot) behind_dot second

-- . (* | name [[AS] name]) | [AS] name
abbrev pub item_rest : Rule Token ItemRest
item_rest = either dot_rest (mapped alias item_rests.Alias)

abbrev pub bare_item : List ℕ → Item
bare_item text = items.One (bare text) None

-- the first name of an item
abbrev pub item_name : Item → List ℕ
item_name (items.AllOf text) = text
item_name (items.One c other) = c.name

abbrev pub item_by : List ℕ → ItemRest → Item
item_by text item_rests.Star = items.AllOf text
item_by text (item_rests.Dotted column alias) = items.One (record { qualifier = Some text; name = column }) alias
item_by text (item_rests.Alias alias) = items.One (bare text) (Some alias)

abbrev pub with_rest : Item → ItemRest → Item
with_rest x rest = item_by (item_name x) rest

-- name . * | [name .] name [[AS] name]
abbrev pub served_item : Rule Token Item
served_item = perhaps (mapped plain_name bare_item) item_rest with_rest

-- a part of the language where CONTAINS, SCORE, JOIN and a number with a point are told from other faults
abbrev pub part : {A : Type 0} → Rule Token A → Rule Token A
part served = stands served left_out

abbrev pub item : Rule Token Item
item = part served_item

-- * | item {, item}
abbrev pub selection : Rule Token Selection
selection = either (meaning words.Star selections.All) (mapped (list_of item) selections.Columns)

abbrev pub bare_table : List ℕ → Table
bare_table text = record { name = text; alias = None }

abbrev pub with_alias : Table → List ℕ → Table
with_alias table text = record { name = table.name; alias = Some text }

-- name [[AS] name]
abbrev pub served_table : Rule Token Table
served_table = perhaps (mapped plain_name bare_table) alias with_alias

abbrev pub table : Rule Token Table
table = part served_table

abbrev pub timed : Unit {0} → Timestamp → Literal
timed _ time = literals.Time time

-- TIMESTAMP text
abbrev pub timestamp : Rule Token Literal
timestamp = both (keyword words.Timestamp) moment timed

-- FALSE | TIMESTAMP text
abbrev pub false_or_time : Rule Token Literal
false_or_time = either (meaning words.False (literals.Flag false)) timestamp

-- TRUE | FALSE | TIMESTAMP text
abbrev pub flag_or_time : Rule Token Literal
flag_or_time = either (meaning words.True (literals.Flag true)) false_or_time

-- [-]digits | TRUE | FALSE | TIMESTAMP text
abbrev pub no_text : Rule Token Literal
no_text = either (mapped number literals.Whole) flag_or_time

-- text | [-]digits | TRUE | FALSE | TIMESTAMP text
abbrev pub served_literal : Rule Token Literal
served_literal = either (mapped quoted literals.Words) no_text

abbrev pub literal : Rule Token Literal
literal = part served_literal

-- IN ( literal {, literal} )
abbrev pub in_list : Rule Token (List Literal)
in_list = both (keyword words.In) (group (list_of literal)) second

-- LIKE text
abbrev pub like : Rule Token (List ℕ)
like = both (keyword words.Like) pattern second

-- NOT NULL
abbrev pub not_null : Rule Token Bool
not_null = both (keyword words.Not) (meaning words.Null true) second

-- [NOT] NULL
abbrev pub nullness : Rule Token Bool
nullness = either not_null (meaning words.Null false)

-- IS [NOT] NULL
abbrev pub is_null : Rule Token TestRest
is_null = both (keyword words.Is) (mapped nullness test_rests.Null) second

abbrev pub at_most : Rule Token Comparison
at_most = either (meaning words.LessEqual comparisons.LessEqual) (meaning words.GreaterEqual comparisons.GreaterEqual)

abbrev pub greater : Rule Token Comparison
greater = either (meaning words.Greater comparisons.Greater) at_most

abbrev pub less : Rule Token Comparison
less = either (meaning words.Less comparisons.Less) greater

abbrev pub unequal : Rule Token Comparison
unequal = either (meaning words.NotEqual comparisons.NotEqual) less

-- = | <> | < | > | <= | >=
abbrev pub comparison : Rule Token Comparison
comparison = either (meaning words.Equal comparisons.Equal) unequal

-- cmp literal
abbrev pub compared : Rule Token TestRest
compared = both comparison literal test_rests.Compare

-- IN ( literal {, literal} ) | LIKE text
abbrev pub among_or_like : Bool → Rule Token TestRest
among_or_like negated = either (mapped in_list (test_rests.In negated)) (mapped like (test_rests.Like negated))

-- NOT (IN ( literal {, literal} ) | LIKE text)
abbrev pub negative : Rule Token TestRest
negative = both (keyword words.Not) (among_or_like true) second

-- IN ( literal {, literal} ) | LIKE text | IS [NOT] NULL
abbrev pub positive : Rule Token TestRest
positive = either (among_or_like false) is_null

-- [NOT] IN ( literal {, literal} ) | [NOT] LIKE text | IS [NOT] NULL
abbrev pub no_comparison : Rule Token TestRest
no_comparison = either negative positive

-- cmp literal | [NOT] IN ( literal {, literal} ) | [NOT] LIKE text | IS [NOT] NULL
abbrev pub test_rest : Rule Token TestRest
test_rest = either compared no_comparison

abbrev pub with_column : Column → TestRest → Cond
with_column c (test_rests.Compare by x) = conds.Compare c by x
with_column c (test_rests.In negated xs) = conds.In c negated xs
with_column c (test_rests.Like negated text) = conds.Like c negated text
with_column c (test_rests.Null negated) = conds.Null c negated

-- column test_rest
abbrev pub of_column : Rule Token Cond
of_column = both test_column test_rest with_column

-- ANY column
abbrev pub any_column : Rule Token Column
any_column = both (keyword words.Any) column second

-- = ANY column
abbrev pub equal_any : Rule Token Column
equal_any = both (keyword words.Equal) any_column second

-- literal = ANY column
abbrev pub of_literal : Rule Token Cond
of_literal = both served_literal equal_any conds.EqualAny

abbrev pub among : Bool → List Literal → Among
among negated xs = record { negated = negated; literals = xs }

-- NOT IN ( literal {, literal} )
abbrev pub not_among : Rule Token Among
not_among = both (keyword words.Not) (mapped in_list (among true)) second

-- [NOT] IN ( literal {, literal} )
abbrev pub among_list : Rule Token Among
among_list = either not_among (mapped in_list (among false))

abbrev pub any_in : Column → Among → Cond
any_in c x = conds.AnyIn c x.negated x.literals

-- column [NOT] IN ( literal {, literal} )
abbrev pub any_rest : Rule Token Cond
any_rest = both column among_list any_in

-- ANY column [NOT] IN ( literal {, literal} )
abbrev pub of_any : Rule Token Cond
of_any = both (keyword words.Any) any_rest second

-- , text
abbrev pub comma_text : Rule Token (List ℕ)
comma_text = both (keyword words.Comma) quoted second

abbrev pub in_table : List ℕ → List ℕ → Placed
in_table table text = record { table = Some table; text = text }

abbrev pub anywhere : List ℕ → Placed
anywhere text = record { table = None; text = text }

-- name , text
abbrev pub table_and_text : Rule Token Placed
table_and_text = both name comma_text in_table

-- [name ,] text
abbrev pub arguments : Rule Token Placed
arguments = either table_and_text (mapped quoted anywhere)

abbrev pub folder : Unit {0} → Placed → Cond
folder _ x = conds.InFolder x.table x.text

abbrev pub tree : Unit {0} → Placed → Cond
tree _ x = conds.InTree x.table x.text

-- IN_FOLDER ( [name ,] text )
abbrev pub in_folder : Rule Token Cond
in_folder = both (keyword words.InFolder) (group arguments) folder

-- IN_TREE ( [name ,] text )
abbrev pub in_tree : Rule Token Cond
in_tree = both (keyword words.InTree) (group arguments) tree

-- IN_FOLDER ( [name ,] text ) | IN_TREE ( [name ,] text )
abbrev pub of_place : Rule Token Cond
of_place = either in_folder in_tree

-- ANY .. | IN_FOLDER .. | IN_TREE ..
abbrev pub any_or_place : Rule Token Cond
any_or_place = either of_any of_place

-- literal .. | ANY .. | IN_FOLDER .. | IN_TREE ..
abbrev pub no_column : Rule Token Cond
no_column = either of_literal any_or_place

-- a test that is no condition in parentheses
abbrev pub simple : Rule Token Cond
simple = either of_column no_column

-- AND not
abbrev pub and_then : Rule Token Cond → Rule Token Cond
and_then negated = both (keyword words.And) negated second

-- not {AND not}
abbrev pub conjunction : Rule Token Cond → Rule Token Cond
conjunction negated = chain negated (and_then negated) (λ x y. conds.And x y)

-- OR and
abbrev pub or_then : Rule Token Cond → Rule Token Cond
or_then conj = both (keyword words.Or) conj second

-- and {OR and}
abbrev pub disjunction : Rule Token Cond → Rule Token Cond
disjunction conj = chain conj (or_then conj) (λ x y. conds.Or x y)

-- The conditions of a depth, which counts parentheses and NOT.
pub record Level : Type 1 where
  -- ( cond ) | a simple test; at the depth 0 without the first
  pub test : Rule Token Cond
  -- [NOT] test; at the depth 0 without NOT
  pub negated : Rule Token Cond

-- cond, over the level below
abbrev pub cond_over : Level → Rule Token Cond
cond_over below = disjunction (conjunction below.negated)

-- ( cond ) | a simple test
abbrev pub served_test : Level → Rule Token Cond
served_test below = either (group (cond_over below)) simple

abbrev pub test_over : Level → Rule Token Cond
test_over below = part (served_test below)

-- NOT test
abbrev pub not_then : Rule Token Cond → Rule Token Cond
not_then test = both (keyword words.Not) test (λ _ x. conds.Not x)

abbrev pub level : ℕ → Level
level zero = record { test = part simple; negated = part simple }
level (suc d) = record { test = test_over (level d); negated = either (not_then (level d).test) (test_over (level d)) }

-- the conditions whose depth is at most d
abbrev pub cond : ℕ → Rule Token Cond
cond d = cond_over (level d)

abbrev pub ascending : Column → Key
ascending c = record { column = c; descending = false }

abbrev pub ordered : Key → Bool → Key
ordered key descending = record { column = key.column; descending = descending }

-- ASC | DESC
abbrev pub direction : Rule Token Bool
direction = either (meaning words.Asc false) (meaning words.Desc true)

-- column [ASC | DESC]
abbrev pub key : Rule Token Key
key = perhaps (mapped column ascending) direction ordered

-- BY key {, key}
abbrev pub by_keys : Rule Token (List Key)
by_keys = both (keyword words.By) (list_of key) second

-- ORDER BY key {, key}
abbrev pub order : Rule Token (List Key)
order = both (keyword words.Order) by_keys second

-- WHERE cond
abbrev pub filter : ℕ → Rule Token Cond
filter d = both (keyword words.Where) (cond d) second

-- FROM table
abbrev pub source : Rule Token Table
source = both (keyword words.From) table second

abbrev pub all_rows : Selection → Table → Query
all_rows list table = record { list = list; table = table; filter = None; keys = [] }

-- list FROM table
abbrev pub columns_of : Rule Token Query
columns_of = both selection source all_rows

-- SELECT list FROM table
abbrev pub select : Rule Token Query
select = both (keyword words.Select) columns_of second

abbrev pub filtered : Query → Cond → Query
filtered q x = record { list = q.list; table = q.table; filter = Some x; keys = q.keys }

-- SELECT list FROM table [WHERE cond]
abbrev pub chosen : ℕ → Rule Token Query
chosen d = perhaps select (filter d) filtered

abbrev pub sorted : Query → List Key → Query
sorted q keys = record { list = q.list; table = q.table; filter = q.filter; keys = keys }

-- SELECT list FROM table [WHERE cond] [ORDER BY key {, key}], with conditions whose depth is at most d
abbrev pub query : ℕ → Rule Token Query
query d = perhaps (chosen d) order sorted
