-- Each rule reads a text as it is spelled, so a text of the grammar has one tree.
use Rattle.std.proofs.Common.{◌≡◌, ℕ, zero, suc, Bool, true, false, List}
use Rattle.grammar_rules.specs.Rules.{both, chain, perhaps, either, mapped, stands}
use Rattle.grammar_rules.proofs.Within.{joint_told, optional_told, choice_told, standing_told, listing_told}
use Rattle.grammar_rules.proofs.Tellings.{Told, one_told, mapped_told, one_tree}
use Rattle.ql_lex.specs.declared.word.Word.{Word}
use Rattle.ql_lex.specs.declared.word.Word.TheVariants as words
use Rattle.ql_lex.specs.declared.token.Token.{Token}
use Rattle.ql_tree.specs.Texts.{unescaped}
use Rattle.ql_tree.specs.declared.tree.Literal.TheVariants as literals
use Rattle.ql_tree.specs.declared.tree.Comparison.TheVariants as comparisons
use Rattle.ql_tree.specs.declared.tree.Cond.TheVariants as conds
use Rattle.ql_tree.specs.declared.tree.Selection.TheVariants as selections
use Rattle.ql_tree.specs.declared.tree.Query.{Query}
use Rattle.ql_grammar.specs.declared.parts.ItemRest.TheVariants as item_rests
use Rattle.ql_grammar.specs.declared.parts.TestRest.TheVariants as test_rests
use Rattle.ql_grammar.specs.Grammar as g
use Rattle.ql_grammar.proofs.Facts.{comma_joint, item_sane, literal_sane, key_sane, dot_name_joint, column_optional, test_column_optional, as_name_joint, alias_choice, dotted_optional, behind_dot_choice, dot_rest_joint, item_rest_choice, served_item_optional, item_standing, items_listing, selection_choice, served_table_optional, table_standing, timestamp_joint, false_or_time_choice, flag_or_time_choice, no_text_choice, served_literal_choice, literal_standing, literals_listing, closed_literals_joint, group_literals_joint, in_list_joint, like_joint, not_null_joint, nullness_choice, is_null_joint, at_most_choice, greater_choice, less_choice, unequal_choice, comparison_choice, compared_joint, among_or_like_choice, negative_joint, positive_choice, no_comparison_choice, test_rest_choice, of_column_joint, any_column_joint, equal_any_joint, of_literal_joint, not_among_joint, among_list_choice, any_rest_joint, of_any_joint, comma_text_joint, table_and_text_joint, arguments_choice, closed_arguments_joint, group_arguments_joint, in_folder_joint, in_tree_joint, of_place_choice, any_or_place_choice, no_column_choice, simple_choice, simple_standing, direction_choice, key_optional, keys_listing, by_keys_joint, order_joint, source_joint, columns_of_joint, select_joint}
use Rattle.ql_grammar.proofs.Levels.{conjunction_listing, cond_listing, and_joint, or_joint, group_cond_joint, closed_cond_joint, served_test_choice, test_standing, not_joint, negated_choice, filter_joint, chosen_optional, query_optional, query_sane}

keyword_told : (w : Word) → Told (g.keyword w)
keyword_told w = one_told (λ t. g.word_in w t.kind)

meaning_told : {A : Type 0} (w : Word) (x : A) → Told (g.meaning w x)
meaning_told w x = mapped_told (g.keyword w) (λ _. x) (keyword_told w)

name_told : Told g.name
name_told = one_told (λ t. g.name_in t.kind)

plain_name_told : Told g.plain_name
plain_name_told = one_told (λ t. g.plain_in t.kind)

pattern_told : Told g.pattern
pattern_told = one_told (λ t. g.quoted_in t.kind)

quoted_told : Told g.quoted
quoted_told = mapped_told g.pattern (unescaped false) pattern_told

number_told : Told g.number
number_told = one_told (λ t. g.number_in t.kind)

moment_told : Told g.moment
moment_told = one_told (λ t. g.moment_in t.kind t.at)

dot_name_told : Told (both (g.keyword words.Dot) g.name g.second)
dot_name_told = joint_told dot_name_joint (keyword_told words.Dot) name_told

column_told : Told (perhaps (mapped g.name g.bare) g.dot_name g.qualify)
column_told = optional_told column_optional (mapped_told g.name g.bare name_told) dot_name_told

test_column_told : Told (perhaps (mapped g.plain_name g.bare) g.dot_name g.qualify)
test_column_told = optional_told test_column_optional (mapped_told g.plain_name g.bare plain_name_told) dot_name_told

as_name_told : Told (both (g.keyword words.As) g.name g.second)
as_name_told = joint_told as_name_joint (keyword_told words.As) name_told

alias_told : Told (either g.as_name g.name)
alias_told = choice_told alias_choice as_name_told name_told

dotted_told : Told (perhaps (mapped g.name g.unaliased) g.alias g.aliased)
dotted_told = optional_told dotted_optional (mapped_told g.name g.unaliased name_told) alias_told

behind_dot_told : Told (either (g.meaning words.Star item_rests.Star) g.dotted)
behind_dot_told = choice_told behind_dot_choice (meaning_told words.Star item_rests.Star) dotted_told

dot_rest_told : Told (both (g.keyword words.Dot) g.behind_dot g.second)
dot_rest_told = joint_told dot_rest_joint (keyword_told words.Dot) behind_dot_told

item_rest_told : Told (either g.dot_rest (mapped g.alias item_rests.Alias))
item_rest_told = choice_told item_rest_choice dot_rest_told (mapped_told g.alias item_rests.Alias alias_told)

served_item_told : Told (perhaps (mapped g.plain_name g.bare_item) g.item_rest g.with_rest)
served_item_told = optional_told served_item_optional (mapped_told g.plain_name g.bare_item plain_name_told) item_rest_told

item_told : Told (stands g.served_item g.left_out)
item_told = standing_told item_standing served_item_told

items_told : Told (chain (mapped g.item g.alone) (g.comma_then g.item) g.append)
items_told = listing_told items_listing (mapped_told g.item g.alone item_told) (joint_told (comma_joint g.item item_sane) (keyword_told words.Comma) item_told)

selection_told : Told (either (g.meaning words.Star selections.All) (mapped (g.list_of g.item) selections.Columns))
selection_told = choice_told selection_choice (meaning_told words.Star selections.All) (mapped_told (g.list_of g.item) selections.Columns items_told)

served_table_told : Told (perhaps (mapped g.plain_name g.bare_table) g.alias g.with_alias)
served_table_told = optional_told served_table_optional (mapped_told g.plain_name g.bare_table plain_name_told) alias_told

table_told : Told (stands g.served_table g.left_out)
table_told = standing_told table_standing served_table_told

timestamp_told : Told (both (g.keyword words.Timestamp) g.moment g.timed)
timestamp_told = joint_told timestamp_joint (keyword_told words.Timestamp) moment_told

false_or_time_told : Told (either (g.meaning words.False (literals.Flag false)) g.timestamp)
false_or_time_told = choice_told false_or_time_choice (meaning_told words.False (literals.Flag false)) timestamp_told

flag_or_time_told : Told (either (g.meaning words.True (literals.Flag true)) g.false_or_time)
flag_or_time_told = choice_told flag_or_time_choice (meaning_told words.True (literals.Flag true)) false_or_time_told

no_text_told : Told (either (mapped g.number literals.Whole) g.flag_or_time)
no_text_told = choice_told no_text_choice (mapped_told g.number literals.Whole number_told) flag_or_time_told

served_literal_told : Told (either (mapped g.quoted literals.Words) g.no_text)
served_literal_told = choice_told served_literal_choice (mapped_told g.quoted literals.Words quoted_told) no_text_told

literal_told : Told (stands g.served_literal g.left_out)
literal_told = standing_told literal_standing served_literal_told

literals_told : Told (chain (mapped g.literal g.alone) (g.comma_then g.literal) g.append)
literals_told = listing_told literals_listing (mapped_told g.literal g.alone literal_told) (joint_told (comma_joint g.literal literal_sane) (keyword_told words.Comma) literal_told)

closed_literals_told : Told (both (g.list_of g.literal) (g.keyword words.Close) g.first)
closed_literals_told = joint_told closed_literals_joint literals_told (keyword_told words.Close)

group_literals_told : Told (both (g.keyword words.Open) (g.closed (g.list_of g.literal)) g.second)
group_literals_told = joint_told group_literals_joint (keyword_told words.Open) closed_literals_told

in_list_told : Told (both (g.keyword words.In) (g.group (g.list_of g.literal)) g.second)
in_list_told = joint_told in_list_joint (keyword_told words.In) group_literals_told

like_told : Told (both (g.keyword words.Like) g.pattern g.second)
like_told = joint_told like_joint (keyword_told words.Like) pattern_told

not_null_told : Told (both (g.keyword words.Not) (g.meaning words.Null true) g.second)
not_null_told = joint_told not_null_joint (keyword_told words.Not) (meaning_told words.Null true)

nullness_told : Told (either g.not_null (g.meaning words.Null false))
nullness_told = choice_told nullness_choice not_null_told (meaning_told words.Null false)

is_null_told : Told (both (g.keyword words.Is) (mapped g.nullness test_rests.Null) g.second)
is_null_told = joint_told is_null_joint (keyword_told words.Is) (mapped_told g.nullness test_rests.Null nullness_told)

at_most_told : Told (either (g.meaning words.LessEqual comparisons.LessEqual) (g.meaning words.GreaterEqual comparisons.GreaterEqual))
at_most_told = choice_told at_most_choice (meaning_told words.LessEqual comparisons.LessEqual) (meaning_told words.GreaterEqual comparisons.GreaterEqual)

greater_told : Told (either (g.meaning words.Greater comparisons.Greater) g.at_most)
greater_told = choice_told greater_choice (meaning_told words.Greater comparisons.Greater) at_most_told

less_told : Told (either (g.meaning words.Less comparisons.Less) g.greater)
less_told = choice_told less_choice (meaning_told words.Less comparisons.Less) greater_told

unequal_told : Told (either (g.meaning words.NotEqual comparisons.NotEqual) g.less)
unequal_told = choice_told unequal_choice (meaning_told words.NotEqual comparisons.NotEqual) less_told

comparison_told : Told (either (g.meaning words.Equal comparisons.Equal) g.unequal)
comparison_told = choice_told comparison_choice (meaning_told words.Equal comparisons.Equal) unequal_told

compared_told : Told (both g.comparison g.literal test_rests.Compare)
compared_told = joint_told compared_joint comparison_told literal_told

among_or_like_told : (negated : Bool) → Told (either (mapped g.in_list (test_rests.In negated)) (mapped g.like (test_rests.Like negated)))
among_or_like_told negated = choice_told (among_or_like_choice negated) (mapped_told g.in_list (test_rests.In negated) in_list_told) (mapped_told g.like (test_rests.Like negated) like_told)

negative_told : Told (both (g.keyword words.Not) (g.among_or_like true) g.second)
negative_told = joint_told negative_joint (keyword_told words.Not) (among_or_like_told true)

positive_told : Told (either (g.among_or_like false) g.is_null)
positive_told = choice_told positive_choice (among_or_like_told false) is_null_told

no_comparison_told : Told (either g.negative g.positive)
no_comparison_told = choice_told no_comparison_choice negative_told positive_told

test_rest_told : Told (either g.compared g.no_comparison)
test_rest_told = choice_told test_rest_choice compared_told no_comparison_told

of_column_told : Told (both g.test_column g.test_rest g.with_column)
of_column_told = joint_told of_column_joint test_column_told test_rest_told

any_column_told : Told (both (g.keyword words.Any) g.column g.second)
any_column_told = joint_told any_column_joint (keyword_told words.Any) column_told

equal_any_told : Told (both (g.keyword words.Equal) g.any_column g.second)
equal_any_told = joint_told equal_any_joint (keyword_told words.Equal) any_column_told

of_literal_told : Told (both g.served_literal g.equal_any conds.EqualAny)
of_literal_told = joint_told of_literal_joint served_literal_told equal_any_told

not_among_told : Told (both (g.keyword words.Not) (mapped g.in_list (g.among true)) g.second)
not_among_told = joint_told not_among_joint (keyword_told words.Not) (mapped_told g.in_list (g.among true) in_list_told)

among_list_told : Told (either g.not_among (mapped g.in_list (g.among false)))
among_list_told = choice_told among_list_choice not_among_told (mapped_told g.in_list (g.among false) in_list_told)

any_rest_told : Told (both g.column g.among_list g.any_in)
any_rest_told = joint_told any_rest_joint column_told among_list_told

of_any_told : Told (both (g.keyword words.Any) g.any_rest g.second)
of_any_told = joint_told of_any_joint (keyword_told words.Any) any_rest_told

comma_text_told : Told (both (g.keyword words.Comma) g.quoted g.second)
comma_text_told = joint_told comma_text_joint (keyword_told words.Comma) quoted_told

table_and_text_told : Told (both g.name g.comma_text g.in_table)
table_and_text_told = joint_told table_and_text_joint name_told comma_text_told

arguments_told : Told (either g.table_and_text (mapped g.quoted g.anywhere))
arguments_told = choice_told arguments_choice table_and_text_told (mapped_told g.quoted g.anywhere quoted_told)

closed_arguments_told : Told (both g.arguments (g.keyword words.Close) g.first)
closed_arguments_told = joint_told closed_arguments_joint arguments_told (keyword_told words.Close)

group_arguments_told : Told (both (g.keyword words.Open) (g.closed g.arguments) g.second)
group_arguments_told = joint_told group_arguments_joint (keyword_told words.Open) closed_arguments_told

in_folder_told : Told (both (g.keyword words.InFolder) (g.group g.arguments) g.folder)
in_folder_told = joint_told in_folder_joint (keyword_told words.InFolder) group_arguments_told

in_tree_told : Told (both (g.keyword words.InTree) (g.group g.arguments) g.tree)
in_tree_told = joint_told in_tree_joint (keyword_told words.InTree) group_arguments_told

of_place_told : Told (either g.in_folder g.in_tree)
of_place_told = choice_told of_place_choice in_folder_told in_tree_told

any_or_place_told : Told (either g.of_any g.of_place)
any_or_place_told = choice_told any_or_place_choice of_any_told of_place_told

no_column_told : Told (either g.of_literal g.any_or_place)
no_column_told = choice_told no_column_choice of_literal_told any_or_place_told

simple_told : Told (either g.of_column g.no_column)
simple_told = choice_told simple_choice of_column_told no_column_told

test_simple_told : Told (stands g.simple g.left_out)
test_simple_told = standing_told simple_standing simple_told

direction_told : Told (either (g.meaning words.Asc false) (g.meaning words.Desc true))
direction_told = choice_told direction_choice (meaning_told words.Asc false) (meaning_told words.Desc true)

key_told : Told (perhaps (mapped g.column g.ascending) g.direction g.ordered)
key_told = optional_told key_optional (mapped_told g.column g.ascending column_told) direction_told

keys_told : Told (chain (mapped g.key g.alone) (g.comma_then g.key) g.append)
keys_told = listing_told keys_listing (mapped_told g.key g.alone key_told) (joint_told (comma_joint g.key key_sane) (keyword_told words.Comma) key_told)

by_keys_told : Told (both (g.keyword words.By) (g.list_of g.key) g.second)
by_keys_told = joint_told by_keys_joint (keyword_told words.By) keys_told

order_told : Told (both (g.keyword words.Order) g.by_keys g.second)
order_told = joint_told order_joint (keyword_told words.Order) by_keys_told

source_told : Told (both (g.keyword words.From) g.table g.second)
source_told = joint_told source_joint (keyword_told words.From) table_told

columns_of_told : Told (both g.selection g.source g.all_rows)
columns_of_told = joint_told columns_of_joint selection_told source_told

select_told : Told (both (g.keyword words.Select) g.columns_of g.second)
select_told = joint_told select_joint (keyword_told words.Select) columns_of_told

-- conditions of each depth
record LevelTold (d : ℕ) : Type 0 where
  pub test : Told (g.level d).test
  pub negated : Told (g.level d).negated

module _ (d : ℕ) (h : LevelTold d) where
  conjunction_told : Told (g.conjunction (g.level d).negated)
  conjunction_told = listing_told (conjunction_listing d) h.negated (joint_told (and_joint d) (keyword_told words.And) h.negated)

  cond_told : Told (g.cond d)
  cond_told = listing_told (cond_listing d) conjunction_told (joint_told (or_joint d) (keyword_told words.Or) conjunction_told)

  test_told : Told (g.test_over (g.level d))
  test_told = standing_told (test_standing d)
      (choice_told (served_test_choice d) (joint_told (group_cond_joint d) (keyword_told words.Open) (joint_told (closed_cond_joint d) cond_told (keyword_told words.Close))) simple_told)

  negated_told : Told (g.level (suc d)).negated
  negated_told = choice_told (negated_choice d) (joint_told (not_joint d) (keyword_told words.Not) h.test) test_told

level_told : (d : ℕ) → LevelTold d
level_told zero = record { test = test_simple_told; negated = test_simple_told }
level_told (suc d) = record { test = test_told d (level_told d); negated = negated_told d (level_told d) }

query_told : (d : ℕ) → Told (g.query d)
query_told d = optional_told (query_optional d) (optional_told (chosen_optional d) select_told (joint_told (filter_joint d) (keyword_told words.Where) (cond_told d (level_told d)))) order_told

pub one_query : (d : ℕ) (ts : List Token) (x y : Query) → (g.query d).is ts x → (g.query d).is ts y → y ≡ x
one_query d = one_tree (g.query d) (query_sane d) (query_told d)
