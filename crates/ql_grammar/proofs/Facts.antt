-- What the laws of grammars ask of each rule: it has a text, its texts begin as it says, and its parts are told apart by the next token.
use Rattle.std.proofs.Common.{◌≡◌, ℕ, Bool, true, false, ◌||◌, List, [], Some, refl}
use Rattle.std.proofs.Common.{is_some}
use Rattle.grammar_rules.specs.Rules.{Rule, mapped}
use Rattle.grammar_rules.proofs.Lists.{Apart}
use Rattle.grammar_rules.proofs.Laws.{Sane, one_sane, mapped_sane}
use Rattle.grammar_rules.proofs.Within.{Joint, Optional, Choice, Standing, Listing, joint_sane, optional_sane, choice_sane, standing_sane, listing_sane}
use Rattle.ql_lex.specs.Words.{is_left_out}
use Rattle.ql_lex.specs.declared.word.Word.{Word}
use Rattle.ql_lex.specs.declared.word.Word.TheVariants as words
use Rattle.ql_lex.specs.declared.token.Kind.{Kind}
use Rattle.ql_lex.specs.declared.token.Kind.TheVariants as kinds
use Rattle.ql_lex.specs.declared.token.Token.{Token}
use Rattle.ql_tree.specs.Texts.{unescaped}
use Rattle.ql_tree.specs.declared.tree.Literal.TheVariants as literals
use Rattle.ql_tree.specs.declared.tree.Comparison.TheVariants as comparisons
use Rattle.ql_tree.specs.declared.tree.Cond.TheVariants as conds
use Rattle.ql_tree.specs.declared.tree.Selection.TheVariants as selections
use Rattle.ql_grammar.specs.declared.parts.ItemRest.TheVariants as item_rests
use Rattle.ql_grammar.specs.declared.parts.TestRest.TheVariants as test_rests
use Rattle.ql_grammar.specs.Grammar as g
use Rattle.ql_grammar.proofs.Apart.{apart, by_kind}

abbrev token : Kind → Token
token k = record { kind = k; at = 0 }

-- the word itself is a text of its rule
pub keyword_of : (w : Word) → g.word_in w (kinds.Word w) ≡ Some (tt {0})
keyword_of words.Select = refl
keyword_of words.From = refl
keyword_of words.As = refl
keyword_of words.Where = refl
keyword_of words.Order = refl
keyword_of words.By = refl
keyword_of words.Asc = refl
keyword_of words.Desc = refl
keyword_of words.Or = refl
keyword_of words.And = refl
keyword_of words.Not = refl
keyword_of words.Any = refl
keyword_of words.In = refl
keyword_of words.Like = refl
keyword_of words.Is = refl
keyword_of words.Null = refl
keyword_of words.InFolder = refl
keyword_of words.InTree = refl
keyword_of words.True = refl
keyword_of words.False = refl
keyword_of words.Timestamp = refl
keyword_of words.Star = refl
keyword_of words.Dot = refl
keyword_of words.Comma = refl
keyword_of words.Open = refl
keyword_of words.Close = refl
keyword_of words.Equal = refl
keyword_of words.NotEqual = refl
keyword_of words.Less = refl
keyword_of words.Greater = refl
keyword_of words.LessEqual = refl
keyword_of words.GreaterEqual = refl

pub keyword_sane : (w : Word) → Sane (g.keyword w)
keyword_sane w = one_sane (λ t. g.word_in w t.kind) (token (kinds.Word w)) (tt {0}) (keyword_of w)

pub meaning_sane : {A : Type 0} (w : Word) (x : A) → Sane (g.meaning w x)
meaning_sane w x = mapped_sane (g.keyword w) (λ _. x) (keyword_sane w)

pub name_sane : Sane g.name
name_sane = one_sane (λ t. g.name_in t.kind) (token (kinds.Name [])) [] refl

-- the empty name is none that is left out
empty_plain : g.plain_in (kinds.Name []) ≡ Some []
unfolding is_left_out
empty_plain = refl

pub plain_name_sane : Sane g.plain_name
plain_name_sane = one_sane (λ t. g.plain_in t.kind) (token (kinds.Name [])) [] empty_plain

pub pattern_sane : Sane g.pattern
pattern_sane = one_sane (λ t. g.quoted_in t.kind) (token (kinds.Quoted [])) [] refl

pub quoted_sane : Sane g.quoted
quoted_sane = mapped_sane g.pattern (unescaped false) pattern_sane

pub number_sane : Sane g.number
number_sane = one_sane (λ t. g.number_in t.kind) (token (kinds.Number [])) [] refl

pub moment_sane : Sane g.moment
moment_sane = one_sane (λ t. g.moment_in t.kind t.at) (token (kinds.Quoted [])) (record { text = []; at = 0 }) refl

-- a name that is left out is no plain one
pub plain_left : (text : List ℕ) → is_left_out text ≡ true → is_some (g.plain_in (kinds.Name text)) ≡ false
plain_left text h = rw h refl

pub plain_left_or : (text : List ℕ) → is_left_out text ≡ true → is_some (g.plain_in (kinds.Name text)) || false ≡ false
plain_left_or text h = rw h refl

pub comma_joint : {A : Type 0} (part : Rule Token A) → Sane part → Joint (g.keyword words.Comma) part g.second
comma_joint part sane = record { sane_a = keyword_sane words.Comma; sane_b = sane; apart = λ t h. refl }

list_listing : {A : Type 0} (part : Rule Token A) → Sane part → Apart part.goes (g.keyword words.Comma).first → Listing (mapped part g.alone) (g.comma_then part) g.append
list_listing part sane apart_comma = record {
  sane_a = mapped_sane part g.alone sane;
  sane_b = joint_sane (comma_joint part sane);
  apart = apart_comma;
  apart_b = apart_comma;
}

pub dot_name_joint : Joint (g.keyword words.Dot) g.name g.second
dot_name_joint = record { sane_a = (keyword_sane words.Dot); sane_b = name_sane; apart = λ t h. refl }

pub dot_name_sane : Sane g.dot_name
dot_name_sane = joint_sane dot_name_joint

pub column_optional : Optional (mapped g.name g.bare) g.dot_name g.qualify
column_optional = record { sane_a = (mapped_sane g.name g.bare name_sane); sane_b = dot_name_sane; apart = λ t h. refl }

pub column_sane : Sane g.column
column_sane = optional_sane column_optional

pub test_column_optional : Optional (mapped g.plain_name g.bare) g.dot_name g.qualify
test_column_optional = record { sane_a = (mapped_sane g.plain_name g.bare plain_name_sane); sane_b = dot_name_sane; apart = λ t h. refl }

pub test_column_sane : Sane g.test_column
test_column_sane = optional_sane test_column_optional

pub as_name_joint : Joint (g.keyword words.As) g.name g.second
as_name_joint = record { sane_a = (keyword_sane words.As); sane_b = name_sane; apart = λ t h. refl }

pub as_name_sane : Sane g.as_name
as_name_sane = joint_sane as_name_joint

pub alias_choice : Choice g.as_name g.name
alias_choice = record { sane_a = as_name_sane; sane_b = name_sane; apart = apart (by_kind g.as_name.first) (by_kind g.name.first) refl (λ text h. refl) (λ text. refl) (λ text. refl) (λ text. refl) refl }

pub alias_sane : Sane g.alias
alias_sane = choice_sane alias_choice

pub dotted_optional : Optional (mapped g.name g.unaliased) g.alias g.aliased
dotted_optional = record { sane_a = (mapped_sane g.name g.unaliased name_sane); sane_b = alias_sane; apart = λ t h. refl }

pub dotted_sane : Sane g.dotted
dotted_sane = optional_sane dotted_optional

pub behind_dot_choice : Choice (g.meaning words.Star item_rests.Star) g.dotted
behind_dot_choice = record { sane_a = (meaning_sane words.Star item_rests.Star); sane_b = dotted_sane; apart = apart (by_kind (g.meaning words.Star item_rests.Star).first) (by_kind g.dotted.first) refl (λ text h. refl) (λ text. refl) (λ text. refl) (λ text. refl) refl }

pub behind_dot_sane : Sane g.behind_dot
behind_dot_sane = choice_sane behind_dot_choice

pub dot_rest_joint : Joint (g.keyword words.Dot) g.behind_dot g.second
dot_rest_joint = record { sane_a = (keyword_sane words.Dot); sane_b = behind_dot_sane; apart = λ t h. refl }

pub dot_rest_sane : Sane g.dot_rest
dot_rest_sane = joint_sane dot_rest_joint

pub item_rest_choice : Choice g.dot_rest (mapped g.alias item_rests.Alias)
item_rest_choice = record { sane_a = dot_rest_sane; sane_b = (mapped_sane g.alias item_rests.Alias alias_sane); apart = apart (by_kind g.dot_rest.first) (by_kind (mapped g.alias item_rests.Alias).first) refl (λ text h. refl) (λ text. refl) (λ text. refl) (λ text. refl) refl }

pub item_rest_sane : Sane g.item_rest
item_rest_sane = choice_sane item_rest_choice

pub served_item_optional : Optional (mapped g.plain_name g.bare_item) g.item_rest g.with_rest
served_item_optional = record { sane_a = (mapped_sane g.plain_name g.bare_item plain_name_sane); sane_b = item_rest_sane; apart = λ t h. refl }

pub served_item_sane : Sane g.served_item
served_item_sane = optional_sane served_item_optional

pub item_standing : Standing g.served_item g.left_out
item_standing = record { sane = served_item_sane; apart = apart (by_kind g.served_item.first) (by_kind g.left_out) refl (λ text h. plain_left text h) (λ text. refl) (λ text. refl) (λ text. refl) refl }

pub item_sane : Sane g.item
item_sane = standing_sane item_standing

pub items_listing : Listing (mapped g.item g.alone) (g.comma_then g.item) g.append
items_listing = list_listing g.item item_sane (apart (by_kind g.item.goes) (by_kind (g.keyword words.Comma).first) refl (λ text h. cc) (λ text. refl) (λ text. refl) (λ text. refl) refl)

pub items_sane : Sane (g.list_of g.item)
items_sane = listing_sane items_listing

pub selection_choice : Choice (g.meaning words.Star selections.All) (mapped (g.list_of g.item) selections.Columns)
selection_choice = record { sane_a = (meaning_sane words.Star selections.All); sane_b = (mapped_sane (g.list_of g.item) selections.Columns items_sane); apart = apart (by_kind (g.meaning words.Star selections.All).first) (by_kind (mapped (g.list_of g.item) selections.Columns).first) refl (λ text h. refl) (λ text. refl) (λ text. refl) (λ text. refl) refl }

pub selection_sane : Sane g.selection
selection_sane = choice_sane selection_choice

pub served_table_optional : Optional (mapped g.plain_name g.bare_table) g.alias g.with_alias
served_table_optional = record { sane_a = (mapped_sane g.plain_name g.bare_table plain_name_sane); sane_b = alias_sane; apart = λ t h. refl }

pub served_table_sane : Sane g.served_table
served_table_sane = optional_sane served_table_optional

pub table_standing : Standing g.served_table g.left_out
table_standing = record { sane = served_table_sane; apart = apart (by_kind g.served_table.first) (by_kind g.left_out) refl (λ text h. plain_left text h) (λ text. refl) (λ text. refl) (λ text. refl) refl }

pub table_sane : Sane g.table
table_sane = standing_sane table_standing

pub timestamp_joint : Joint (g.keyword words.Timestamp) g.moment g.timed
timestamp_joint = record { sane_a = (keyword_sane words.Timestamp); sane_b = moment_sane; apart = λ t h. refl }

pub timestamp_sane : Sane g.timestamp
timestamp_sane = joint_sane timestamp_joint

pub false_or_time_choice : Choice (g.meaning words.False (literals.Flag false)) g.timestamp
false_or_time_choice = record { sane_a = (meaning_sane words.False (literals.Flag false)); sane_b = timestamp_sane; apart = apart (by_kind (g.meaning words.False (literals.Flag false)).first) (by_kind g.timestamp.first) refl (λ text h. refl) (λ text. refl) (λ text. refl) (λ text. refl) refl }

pub false_or_time_sane : Sane g.false_or_time
false_or_time_sane = choice_sane false_or_time_choice

pub flag_or_time_choice : Choice (g.meaning words.True (literals.Flag true)) g.false_or_time
flag_or_time_choice = record { sane_a = (meaning_sane words.True (literals.Flag true)); sane_b = false_or_time_sane; apart = apart (by_kind (g.meaning words.True (literals.Flag true)).first) (by_kind g.false_or_time.first) refl (λ text h. refl) (λ text. refl) (λ text. refl) (λ text. refl) refl }

pub flag_or_time_sane : Sane g.flag_or_time
flag_or_time_sane = choice_sane flag_or_time_choice

pub no_text_choice : Choice (mapped g.number literals.Whole) g.flag_or_time
no_text_choice = record { sane_a = (mapped_sane g.number literals.Whole number_sane); sane_b = flag_or_time_sane; apart = apart (by_kind (mapped g.number literals.Whole).first) (by_kind g.flag_or_time.first) refl (λ text h. refl) (λ text. refl) (λ text. refl) (λ text. refl) refl }

pub no_text_sane : Sane g.no_text
no_text_sane = choice_sane no_text_choice

pub served_literal_choice : Choice (mapped g.quoted literals.Words) g.no_text
served_literal_choice = record { sane_a = (mapped_sane g.quoted literals.Words quoted_sane); sane_b = no_text_sane; apart = apart (by_kind (mapped g.quoted literals.Words).first) (by_kind g.no_text.first) refl (λ text h. refl) (λ text. refl) (λ text. refl) (λ text. refl) refl }

pub served_literal_sane : Sane g.served_literal
served_literal_sane = choice_sane served_literal_choice

pub literal_standing : Standing g.served_literal g.left_out
literal_standing = record { sane = served_literal_sane; apart = apart (by_kind g.served_literal.first) (by_kind g.left_out) refl (λ text h. refl) (λ text. refl) (λ text. refl) (λ text. refl) refl }

pub literal_sane : Sane g.literal
literal_sane = standing_sane literal_standing

pub literals_listing : Listing (mapped g.literal g.alone) (g.comma_then g.literal) g.append
literals_listing = list_listing g.literal literal_sane (apart (by_kind g.literal.goes) (by_kind (g.keyword words.Comma).first) refl (λ text h. refl) (λ text. refl) (λ text. refl) (λ text. refl) refl)

pub literals_sane : Sane (g.list_of g.literal)
literals_sane = listing_sane literals_listing

pub closed_literals_joint : Joint (g.list_of g.literal) (g.keyword words.Close) g.first
closed_literals_joint = record { sane_a = literals_sane; sane_b = keyword_sane words.Close; apart = apart (by_kind (g.list_of g.literal).goes) (by_kind (g.keyword words.Close).first) refl (λ text h. refl) (λ text. refl) (λ text. refl) (λ text. refl) refl }

pub group_literals_joint : Joint (g.keyword words.Open) (g.closed (g.list_of g.literal)) g.second
group_literals_joint = record { sane_a = keyword_sane words.Open; sane_b = joint_sane closed_literals_joint; apart = λ t h. refl }

pub group_literals_sane : Sane (g.group (g.list_of g.literal))
group_literals_sane = joint_sane group_literals_joint

pub in_list_joint : Joint (g.keyword words.In) (g.group (g.list_of g.literal)) g.second
in_list_joint = record { sane_a = (keyword_sane words.In); sane_b = group_literals_sane; apart = λ t h. refl }

pub in_list_sane : Sane g.in_list
in_list_sane = joint_sane in_list_joint

pub like_joint : Joint (g.keyword words.Like) g.pattern g.second
like_joint = record { sane_a = (keyword_sane words.Like); sane_b = pattern_sane; apart = λ t h. refl }

pub like_sane : Sane g.like
like_sane = joint_sane like_joint

pub not_null_joint : Joint (g.keyword words.Not) (g.meaning words.Null true) g.second
not_null_joint = record { sane_a = (keyword_sane words.Not); sane_b = (meaning_sane words.Null true); apart = λ t h. refl }

pub not_null_sane : Sane g.not_null
not_null_sane = joint_sane not_null_joint

pub nullness_choice : Choice g.not_null (g.meaning words.Null false)
nullness_choice = record { sane_a = not_null_sane; sane_b = (meaning_sane words.Null false); apart = apart (by_kind g.not_null.first) (by_kind (g.meaning words.Null false).first) refl (λ text h. refl) (λ text. refl) (λ text. refl) (λ text. refl) refl }

pub nullness_sane : Sane g.nullness
nullness_sane = choice_sane nullness_choice

pub is_null_joint : Joint (g.keyword words.Is) (mapped g.nullness test_rests.Null) g.second
is_null_joint = record { sane_a = (keyword_sane words.Is); sane_b = (mapped_sane g.nullness test_rests.Null nullness_sane); apart = λ t h. refl }

pub is_null_sane : Sane g.is_null
is_null_sane = joint_sane is_null_joint

pub at_most_choice : Choice (g.meaning words.LessEqual comparisons.LessEqual) (g.meaning words.GreaterEqual comparisons.GreaterEqual)
at_most_choice = record { sane_a = (meaning_sane words.LessEqual comparisons.LessEqual); sane_b = (meaning_sane words.GreaterEqual comparisons.GreaterEqual); apart = apart (by_kind (g.meaning words.LessEqual comparisons.LessEqual).first) (by_kind (g.meaning words.GreaterEqual comparisons.GreaterEqual).first) refl (λ text h. refl) (λ text. refl) (λ text. refl) (λ text. refl) refl }

pub at_most_sane : Sane g.at_most
at_most_sane = choice_sane at_most_choice

pub greater_choice : Choice (g.meaning words.Greater comparisons.Greater) g.at_most
greater_choice = record { sane_a = (meaning_sane words.Greater comparisons.Greater); sane_b = at_most_sane; apart = apart (by_kind (g.meaning words.Greater comparisons.Greater).first) (by_kind g.at_most.first) refl (λ text h. refl) (λ text. refl) (λ text. refl) (λ text. refl) refl }

pub greater_sane : Sane g.greater
greater_sane = choice_sane greater_choice

pub less_choice : Choice (g.meaning words.Less comparisons.Less) g.greater
less_choice = record { sane_a = (meaning_sane words.Less comparisons.Less); sane_b = greater_sane; apart = apart (by_kind (g.meaning words.Less comparisons.Less).first) (by_kind g.greater.first) refl (λ text h. refl) (λ text. refl) (λ text. refl) (λ text. refl) refl }

pub less_sane : Sane g.less
less_sane = choice_sane less_choice

pub unequal_choice : Choice (g.meaning words.NotEqual comparisons.NotEqual) g.less
unequal_choice = record { sane_a = (meaning_sane words.NotEqual comparisons.NotEqual); sane_b = less_sane; apart = apart (by_kind (g.meaning words.NotEqual comparisons.NotEqual).first) (by_kind g.less.first) refl (λ text h. refl) (λ text. refl) (λ text. refl) (λ text. refl) refl }

pub unequal_sane : Sane g.unequal
unequal_sane = choice_sane unequal_choice

pub comparison_choice : Choice (g.meaning words.Equal comparisons.Equal) g.unequal
comparison_choice = record { sane_a = (meaning_sane words.Equal comparisons.Equal); sane_b = unequal_sane; apart = apart (by_kind (g.meaning words.Equal comparisons.Equal).first) (by_kind g.unequal.first) refl (λ text h. refl) (λ text. refl) (λ text. refl) (λ text. refl) refl }

pub comparison_sane : Sane g.comparison
comparison_sane = choice_sane comparison_choice

pub compared_joint : Joint g.comparison g.literal test_rests.Compare
compared_joint = record { sane_a = comparison_sane; sane_b = literal_sane; apart = λ t h. refl }

pub compared_sane : Sane g.compared
compared_sane = joint_sane compared_joint

pub among_or_like_choice : (negated : Bool) → Choice (mapped g.in_list (test_rests.In negated)) (mapped g.like (test_rests.Like negated))
among_or_like_choice negated = record { sane_a = (mapped_sane g.in_list (test_rests.In negated) in_list_sane); sane_b = (mapped_sane g.like (test_rests.Like negated) like_sane); apart = apart (by_kind (mapped g.in_list (test_rests.In negated)).first) (by_kind (mapped g.like (test_rests.Like negated)).first) refl (λ text h. refl) (λ text. refl) (λ text. refl) (λ text. refl) refl }

pub among_or_like_sane : (negated : Bool) → Sane (g.among_or_like negated)
among_or_like_sane negated = choice_sane (among_or_like_choice negated)

pub negative_joint : Joint (g.keyword words.Not) (g.among_or_like true) g.second
negative_joint = record { sane_a = (keyword_sane words.Not); sane_b = (among_or_like_sane true); apart = λ t h. refl }

pub negative_sane : Sane g.negative
negative_sane = joint_sane negative_joint

pub positive_choice : Choice (g.among_or_like false) g.is_null
positive_choice = record { sane_a = (among_or_like_sane false); sane_b = is_null_sane; apart = apart (by_kind (g.among_or_like false).first) (by_kind g.is_null.first) refl (λ text h. refl) (λ text. refl) (λ text. refl) (λ text. refl) refl }

pub positive_sane : Sane g.positive
positive_sane = choice_sane positive_choice

pub no_comparison_choice : Choice g.negative g.positive
no_comparison_choice = record { sane_a = negative_sane; sane_b = positive_sane; apart = apart (by_kind g.negative.first) (by_kind g.positive.first) refl (λ text h. refl) (λ text. refl) (λ text. refl) (λ text. refl) refl }

pub no_comparison_sane : Sane g.no_comparison
no_comparison_sane = choice_sane no_comparison_choice

pub test_rest_choice : Choice g.compared g.no_comparison
test_rest_choice = record { sane_a = compared_sane; sane_b = no_comparison_sane; apart = apart (by_kind g.compared.first) (by_kind g.no_comparison.first) refl (λ text h. refl) (λ text. refl) (λ text. refl) (λ text. refl) refl }

pub test_rest_sane : Sane g.test_rest
test_rest_sane = choice_sane test_rest_choice

pub of_column_joint : Joint g.test_column g.test_rest g.with_column
of_column_joint = record { sane_a = test_column_sane; sane_b = test_rest_sane; apart = apart (by_kind g.test_column.goes) (by_kind g.test_rest.first) refl (λ text h. refl) (λ text. refl) (λ text. refl) (λ text. refl) refl }

pub of_column_sane : Sane g.of_column
of_column_sane = joint_sane of_column_joint

pub any_column_joint : Joint (g.keyword words.Any) g.column g.second
any_column_joint = record { sane_a = (keyword_sane words.Any); sane_b = column_sane; apart = λ t h. refl }

pub any_column_sane : Sane g.any_column
any_column_sane = joint_sane any_column_joint

pub equal_any_joint : Joint (g.keyword words.Equal) g.any_column g.second
equal_any_joint = record { sane_a = (keyword_sane words.Equal); sane_b = any_column_sane; apart = λ t h. refl }

pub equal_any_sane : Sane g.equal_any
equal_any_sane = joint_sane equal_any_joint

pub of_literal_joint : Joint g.served_literal g.equal_any conds.EqualAny
of_literal_joint = record { sane_a = served_literal_sane; sane_b = equal_any_sane; apart = λ t h. refl }

pub of_literal_sane : Sane g.of_literal
of_literal_sane = joint_sane of_literal_joint

pub not_among_joint : Joint (g.keyword words.Not) (mapped g.in_list (g.among true)) g.second
not_among_joint = record { sane_a = (keyword_sane words.Not); sane_b = (mapped_sane g.in_list (g.among true) in_list_sane); apart = λ t h. refl }

pub not_among_sane : Sane g.not_among
not_among_sane = joint_sane not_among_joint

pub among_list_choice : Choice g.not_among (mapped g.in_list (g.among false))
among_list_choice = record { sane_a = not_among_sane; sane_b = (mapped_sane g.in_list (g.among false) in_list_sane); apart = apart (by_kind g.not_among.first) (by_kind (mapped g.in_list (g.among false)).first) refl (λ text h. refl) (λ text. refl) (λ text. refl) (λ text. refl) refl }

pub among_list_sane : Sane g.among_list
among_list_sane = choice_sane among_list_choice

pub any_rest_joint : Joint g.column g.among_list g.any_in
any_rest_joint = record { sane_a = column_sane; sane_b = among_list_sane; apart = apart (by_kind g.column.goes) (by_kind g.among_list.first) refl (λ text h. refl) (λ text. refl) (λ text. refl) (λ text. refl) refl }

pub any_rest_sane : Sane g.any_rest
any_rest_sane = joint_sane any_rest_joint

pub of_any_joint : Joint (g.keyword words.Any) g.any_rest g.second
of_any_joint = record { sane_a = (keyword_sane words.Any); sane_b = any_rest_sane; apart = λ t h. refl }

pub of_any_sane : Sane g.of_any
of_any_sane = joint_sane of_any_joint

pub comma_text_joint : Joint (g.keyword words.Comma) g.quoted g.second
comma_text_joint = record { sane_a = (keyword_sane words.Comma); sane_b = quoted_sane; apart = λ t h. refl }

pub comma_text_sane : Sane g.comma_text
comma_text_sane = joint_sane comma_text_joint

pub table_and_text_joint : Joint g.name g.comma_text g.in_table
table_and_text_joint = record { sane_a = name_sane; sane_b = comma_text_sane; apart = λ t h. refl }

pub table_and_text_sane : Sane g.table_and_text
table_and_text_sane = joint_sane table_and_text_joint

pub arguments_choice : Choice g.table_and_text (mapped g.quoted g.anywhere)
arguments_choice = record { sane_a = table_and_text_sane; sane_b = (mapped_sane g.quoted g.anywhere quoted_sane); apart = apart (by_kind g.table_and_text.first) (by_kind (mapped g.quoted g.anywhere).first) refl (λ text h. cc) (λ text. refl) (λ text. refl) (λ text. refl) refl }

pub arguments_sane : Sane g.arguments
arguments_sane = choice_sane arguments_choice

pub closed_arguments_joint : Joint g.arguments (g.keyword words.Close) g.first
closed_arguments_joint = record { sane_a = arguments_sane; sane_b = keyword_sane words.Close; apart = apart (by_kind g.arguments.goes) (by_kind (g.keyword words.Close).first) refl (λ text h. refl) (λ text. refl) (λ text. refl) (λ text. refl) refl }

pub group_arguments_joint : Joint (g.keyword words.Open) (g.closed g.arguments) g.second
group_arguments_joint = record { sane_a = keyword_sane words.Open; sane_b = joint_sane closed_arguments_joint; apart = λ t h. refl }

pub group_arguments_sane : Sane (g.group g.arguments)
group_arguments_sane = joint_sane group_arguments_joint

pub in_folder_joint : Joint (g.keyword words.InFolder) (g.group g.arguments) g.folder
in_folder_joint = record { sane_a = (keyword_sane words.InFolder); sane_b = group_arguments_sane; apart = λ t h. refl }

pub in_folder_sane : Sane g.in_folder
in_folder_sane = joint_sane in_folder_joint

pub in_tree_joint : Joint (g.keyword words.InTree) (g.group g.arguments) g.tree
in_tree_joint = record { sane_a = (keyword_sane words.InTree); sane_b = group_arguments_sane; apart = λ t h. refl }

pub in_tree_sane : Sane g.in_tree
in_tree_sane = joint_sane in_tree_joint

pub of_place_choice : Choice g.in_folder g.in_tree
of_place_choice = record { sane_a = in_folder_sane; sane_b = in_tree_sane; apart = apart (by_kind g.in_folder.first) (by_kind g.in_tree.first) refl (λ text h. refl) (λ text. refl) (λ text. refl) (λ text. refl) refl }

pub of_place_sane : Sane g.of_place
of_place_sane = choice_sane of_place_choice

pub any_or_place_choice : Choice g.of_any g.of_place
any_or_place_choice = record { sane_a = of_any_sane; sane_b = of_place_sane; apart = apart (by_kind g.of_any.first) (by_kind g.of_place.first) refl (λ text h. refl) (λ text. refl) (λ text. refl) (λ text. refl) refl }

pub any_or_place_sane : Sane g.any_or_place
any_or_place_sane = choice_sane any_or_place_choice

pub no_column_choice : Choice g.of_literal g.any_or_place
no_column_choice = record { sane_a = of_literal_sane; sane_b = any_or_place_sane; apart = apart (by_kind g.of_literal.first) (by_kind g.any_or_place.first) refl (λ text h. refl) (λ text. refl) (λ text. refl) (λ text. refl) refl }

pub no_column_sane : Sane g.no_column
no_column_sane = choice_sane no_column_choice

pub simple_choice : Choice g.of_column g.no_column
simple_choice = record { sane_a = of_column_sane; sane_b = no_column_sane; apart = apart (by_kind g.of_column.first) (by_kind g.no_column.first) refl (λ text h. cc) (λ text. refl) (λ text. refl) (λ text. refl) refl }

pub simple_sane : Sane g.simple
simple_sane = choice_sane simple_choice

pub simple_standing : Standing g.simple g.left_out
simple_standing = record { sane = simple_sane; apart = apart (by_kind g.simple.first) (by_kind g.left_out) refl (λ text h. plain_left_or text h) (λ text. refl) (λ text. refl) (λ text. refl) refl }

pub direction_choice : Choice (g.meaning words.Asc false) (g.meaning words.Desc true)
direction_choice = record { sane_a = (meaning_sane words.Asc false); sane_b = (meaning_sane words.Desc true); apart = apart (by_kind (g.meaning words.Asc false).first) (by_kind (g.meaning words.Desc true).first) refl (λ text h. refl) (λ text. refl) (λ text. refl) (λ text. refl) refl }

pub direction_sane : Sane g.direction
direction_sane = choice_sane direction_choice

pub key_optional : Optional (mapped g.column g.ascending) g.direction g.ordered
key_optional = record { sane_a = (mapped_sane g.column g.ascending column_sane); sane_b = direction_sane; apart = apart (by_kind g.column.goes) (by_kind g.direction.first) refl (λ text h. refl) (λ text. refl) (λ text. refl) (λ text. refl) refl }

pub key_sane : Sane g.key
key_sane = optional_sane key_optional

pub keys_listing : Listing (mapped g.key g.alone) (g.comma_then g.key) g.append
keys_listing = list_listing g.key key_sane (apart (by_kind g.key.goes) (by_kind (g.keyword words.Comma).first) refl (λ text h. cc) (λ text. refl) (λ text. refl) (λ text. refl) refl)

pub keys_sane : Sane (g.list_of g.key)
keys_sane = listing_sane keys_listing

pub by_keys_joint : Joint (g.keyword words.By) (g.list_of g.key) g.second
by_keys_joint = record { sane_a = (keyword_sane words.By); sane_b = keys_sane; apart = λ t h. refl }

pub by_keys_sane : Sane g.by_keys
by_keys_sane = joint_sane by_keys_joint

pub order_joint : Joint (g.keyword words.Order) g.by_keys g.second
order_joint = record { sane_a = (keyword_sane words.Order); sane_b = by_keys_sane; apart = λ t h. refl }

pub order_sane : Sane g.order
order_sane = joint_sane order_joint

pub source_joint : Joint (g.keyword words.From) g.table g.second
source_joint = record { sane_a = (keyword_sane words.From); sane_b = table_sane; apart = λ t h. refl }

pub source_sane : Sane g.source
source_sane = joint_sane source_joint

pub columns_of_joint : Joint g.selection g.source g.all_rows
columns_of_joint = record { sane_a = selection_sane; sane_b = source_sane; apart = apart (by_kind g.selection.goes) (by_kind g.source.first) refl (λ text h. cc) (λ text. refl) (λ text. refl) (λ text. refl) refl }

pub columns_of_sane : Sane g.columns_of
columns_of_sane = joint_sane columns_of_joint

pub select_joint : Joint (g.keyword words.Select) g.columns_of g.second
select_joint = record { sane_a = (keyword_sane words.Select); sane_b = columns_of_sane; apart = λ t h. refl }

pub select_sane : Sane g.select
select_sane = joint_sane select_joint
