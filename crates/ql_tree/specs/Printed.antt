-- The printed form of a query: keywords in capitals, one blank between tokens, AS written, and the fewest parentheses.
use Rattle.std.specs.Prelude.{ℕ, Bool, true, false, nat_lt, List, [], ◌∷◌, ◌++◌, Option, Some, None, if◌then◌else◌}
use Rattle.std.specs.List.{flat_map}
use Rattle.ql_lex.specs.Words.{word_text}
use Rattle.ql_lex.specs.declared.word.Word.{Word}
use Rattle.ql_lex.specs.declared.word.Word.TheVariants as words
use Rattle.ql_lex.specs.declared.token.Kind.{Kind}
use Rattle.ql_lex.specs.declared.token.Kind.TheVariants as kinds
use Rattle.ql_tree.specs.Texts.{escaped}
use Rattle.ql_tree.specs.declared.tree.Column.{Column}
use Rattle.ql_tree.specs.declared.tree.Literal.{Literal}
use Rattle.ql_tree.specs.declared.tree.Literal.TheVariants as literals
use Rattle.ql_tree.specs.declared.tree.Comparison.{Comparison}
use Rattle.ql_tree.specs.declared.tree.Comparison.TheVariants as comparisons
use Rattle.ql_tree.specs.declared.tree.Cond.{Cond}
use Rattle.ql_tree.specs.declared.tree.Cond.TheOpen.{Cond-F}
use Rattle.ql_tree.specs.declared.tree.Cond.TheFolds.{fold-Cond}
use Rattle.ql_tree.specs.declared.tree.Item.{Item}
use Rattle.ql_tree.specs.declared.tree.Item.TheVariants as items
use Rattle.ql_tree.specs.declared.tree.Selection.{Selection}
use Rattle.ql_tree.specs.declared.tree.Selection.TheVariants as selections
use Rattle.ql_tree.specs.declared.tree.Table.{Table}
use Rattle.ql_tree.specs.declared.tree.Key.{Key}
use Rattle.ql_tree.specs.declared.tree.Query.{Query}

abbrev pub word : Word → List Kind
word w = kinds.Word w ∷ []

abbrev pub name : List ℕ → List Kind
name text = kinds.Name text ∷ []

-- a text by the bytes that it stands for
abbrev pub quoted : List ℕ → List Kind
quoted text = kinds.Quoted (escaped text) ∷ []

abbrev pub group : List Kind → List Kind
group ts = word words.Open ++ (ts ++ word words.Close)

-- what is printed of each, with commas between
abbrev pub separated : {A : Type 0} → (A → List Kind) → List A → List Kind
separated f [] = []
separated f (x ∷ xs) = f x ++ flat_map (λ y. word words.Comma ++ f y) xs

-- [name .] name
abbrev pub qualified_tokens : Option (List ℕ) → List ℕ → List Kind
qualified_tokens None text = name text
qualified_tokens (Some table) text = name table ++ (word words.Dot ++ name text)

abbrev pub column_tokens : Column → List Kind
column_tokens c = qualified_tokens c.qualifier c.name

-- [AS name]
abbrev pub alias_tokens : Option (List ℕ) → List Kind
alias_tokens None = []
alias_tokens (Some text) = word words.As ++ name text

abbrev pub flag_word : Bool → Word
flag_word true = words.True
flag_word false = words.False

abbrev pub literal_tokens : Literal → List Kind
literal_tokens (literals.Words text) = quoted text
literal_tokens (literals.Whole text) = kinds.Number text ∷ []
literal_tokens (literals.Flag flag) = word (flag_word flag)
literal_tokens (literals.Time time) = word words.Timestamp ++ quoted time.text

abbrev pub comparison_word : Comparison → Word
comparison_word comparisons.Equal = words.Equal
comparison_word comparisons.NotEqual = words.NotEqual
comparison_word comparisons.Less = words.Less
comparison_word comparisons.Greater = words.Greater
comparison_word comparisons.LessEqual = words.LessEqual
comparison_word comparisons.GreaterEqual = words.GreaterEqual

-- [NOT]
abbrev pub negation : Bool → List Kind
negation true = word words.Not
negation false = []

-- [NOT] IN ( literal {, literal} )
abbrev pub in_tokens : Bool → List Literal → List Kind
in_tokens negated xs = negation negated ++ (word words.In ++ group (separated literal_tokens xs))

-- ( [name ,] text )
abbrev pub place_tokens : Option (List ℕ) → List ℕ → List Kind
place_tokens None text = group (quoted text)
place_tokens (Some table) text = group (name table ++ (word words.Comma ++ quoted text))

-- The tokens of a condition, and how tightly it binds: OR 0, AND 1, NOT 2, a test 3.
pub record Shape : Type 0 where
  pub rank : ℕ
  pub tokens : List Kind

-- A condition stands in parentheses just where it binds less tightly than its place asks. The first operand of OR asks 0 and a later one 1, the first
-- of AND 1 and a later one 2, that of NOT 3.
abbrev pub placed : ℕ → Shape → List Kind
placed place x = if nat_lt x.rank place then group x.tokens else x.tokens

abbrev pub test_shape : List Kind → Shape
test_shape ts = record { rank = 3; tokens = ts }

-- The operands of a condition have their shapes already.
abbrev pub shape_step : Cond-F Shape → Shape
shape_step (Cond-F.Or a b) = record { rank = 0; tokens = placed 0 a ++ (word words.Or ++ placed 1 b) }
shape_step (Cond-F.And a b) = record { rank = 1; tokens = placed 1 a ++ (word words.And ++ placed 2 b) }
shape_step (Cond-F.Not a) = record { rank = 2; tokens = word words.Not ++ placed 3 a }
shape_step (Cond-F.Compare c by x) = test_shape (column_tokens c ++ (word (comparison_word by) ++ literal_tokens x))
shape_step (Cond-F.EqualAny x c) = test_shape (literal_tokens x ++ (word words.Equal ++ (word words.Any ++ column_tokens c)))
shape_step (Cond-F.In c negated xs) = test_shape (column_tokens c ++ in_tokens negated xs)
shape_step (Cond-F.AnyIn c negated xs) = test_shape (word words.Any ++ (column_tokens c ++ in_tokens negated xs))
shape_step (Cond-F.Like c negated text) = test_shape (column_tokens c ++ (negation negated ++ (word words.Like ++ (kinds.Quoted text ∷ []))))
shape_step (Cond-F.Null c negated) = test_shape (column_tokens c ++ (word words.Is ++ (negation negated ++ word words.Null)))
shape_step (Cond-F.InFolder table text) = test_shape (word words.InFolder ++ place_tokens table text)
shape_step (Cond-F.InTree table text) = test_shape (word words.InTree ++ place_tokens table text)

unfoldable pub shape : Cond → Shape
shape = fold-Cond Shape shape_step

abbrev pub item_tokens : Item → List Kind
item_tokens (items.AllOf table) = name table ++ (word words.Dot ++ word words.Star)
item_tokens (items.One c alias) = column_tokens c ++ alias_tokens alias

abbrev pub selection_tokens : Selection → List Kind
selection_tokens selections.All = word words.Star
selection_tokens (selections.Columns xs) = separated item_tokens xs

abbrev pub table_tokens : Table → List Kind
table_tokens table = name table.name ++ alias_tokens table.alias

-- [WHERE cond]
abbrev pub filter_tokens : Option Cond → List Kind
filter_tokens None = []
filter_tokens (Some x) = word words.Where ++ placed 0 (shape x)

-- key [DESC]
abbrev pub key_tokens : Key → List Kind
key_tokens key = column_tokens key.column ++ (if key.descending then word words.Desc else [])

-- [ORDER BY key {, key}]
abbrev pub order_tokens : List Key → List Kind
order_tokens [] = []
order_tokens (key ∷ keys) = word words.Order ++ (word words.By ++ separated key_tokens (key ∷ keys))

-- The tokens of the printed form behind SELECT.
abbrev pub rest_tokens : Query → List Kind
rest_tokens q = selection_tokens q.list ++ (word words.From ++ (table_tokens q.table ++ (filter_tokens q.filter ++ order_tokens q.keys)))

-- The tokens of the printed form.
abbrev pub query_tokens : Query → List Kind
query_tokens q = word words.Select ++ rest_tokens q

-- How a token is written.
abbrev pub kind_text : Kind → List ℕ
kind_text (kinds.Word w) = word_text w
kind_text (kinds.Name text) = text
kind_text (kinds.Quoted text) = 39 ∷ (text ++ 39 ∷ [])
kind_text (kinds.Number text) = text
kind_text (kinds.Decimal text) = text
kind_text kinds.Wrong = []

-- Tokens, each with a blank before it.
abbrev pub spaced : List Kind → List ℕ
spaced = flat_map (λ k. 32 ∷ kind_text k)

-- The printed form.
abbrev pub printed : Query → List ℕ
printed q = word_text words.Select ++ spaced (rest_tokens q)
