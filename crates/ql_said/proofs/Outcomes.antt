-- Each rule of the grammar of queries has an outcome at any tokens.
use Rattle.std.proofs.Common.{ℕ, zero, suc, Bool, true, false}
use Rattle.grammar_rules.specs.Rules.{both, chain, perhaps, either, mapped, stands}
use Rattle.ql_said.proofs.Totals.{Total, one_total, mapped_total, joint_total, optional_total, choice_total, standing_total, listing_total}
use Rattle.ql_lex.specs.declared.word.Word.{Word}
use Rattle.ql_lex.specs.declared.word.Word.TheVariants as words
use Rattle.ql_tree.specs.Texts.{unescaped}
use Rattle.ql_tree.specs.declared.tree.Literal.TheVariants as literals
use Rattle.ql_tree.specs.declared.tree.Comparison.TheVariants as comparisons
use Rattle.ql_tree.specs.declared.tree.Cond.TheVariants as conds
use Rattle.ql_tree.specs.declared.tree.Selection.TheVariants as selections
use Rattle.ql_grammar.specs.declared.parts.ItemRest.TheVariants as item_rests
use Rattle.ql_grammar.specs.declared.parts.TestRest.TheVariants as test_rests
use Rattle.ql_grammar.specs.Grammar as g
use Rattle.ql_grammar.proofs.Facts.{keyword_sane, name_sane, plain_name_sane, pattern_sane, number_sane, moment_sane, comma_joint, item_sane, literal_sane, key_sane, dot_name_joint, column_optional, test_column_optional, as_name_joint, alias_choice, dotted_optional, behind_dot_choice, dot_rest_joint, item_rest_choice, served_item_optional, item_standing, items_listing, selection_choice, served_table_optional, table_standing, timestamp_joint, false_or_time_choice, flag_or_time_choice, no_text_choice, served_literal_choice, literal_standing, literals_listing, closed_literals_joint, group_literals_joint, in_list_joint, like_joint, not_null_joint, nullness_choice, is_null_joint, at_most_choice, greater_choice, less_choice, unequal_choice, comparison_choice, compared_joint, among_or_like_choice, negative_joint, positive_choice, no_comparison_choice, test_rest_choice, of_column_joint, any_column_joint, equal_any_joint, of_literal_joint, not_among_joint, among_list_choice, any_rest_joint, of_any_joint, comma_text_joint, table_and_text_joint, arguments_choice, closed_arguments_joint, group_arguments_joint, in_folder_joint, in_tree_joint, of_place_choice, any_or_place_choice, no_column_choice, simple_choice, simple_standing, direction_choice, key_optional, keys_listing, by_keys_joint, order_joint, source_joint, columns_of_joint, select_joint}
use Rattle.ql_grammar.proofs.Levels.{conjunction_listing, cond_listing, and_joint, or_joint, group_cond_joint, closed_cond_joint, served_test_choice, test_standing, not_joint, negated_choice, filter_joint, chosen_optional, query_optional}

keyword_total : (w : Word) → Total (g.keyword w)
keyword_total w = one_total (λ t. g.word_in w t.kind) (keyword_sane w)

meaning_total : {A : Type 0} (w : Word) (x : A) → Total (g.meaning w x)
meaning_total w x = mapped_total (g.keyword w) (λ _. x) (keyword_total w)

name_total : Total g.name
name_total = one_total (λ t. g.name_in t.kind) name_sane

plain_name_total : Total g.plain_name
plain_name_total = one_total (λ t. g.plain_in t.kind) plain_name_sane

pattern_total : Total g.pattern
pattern_total = one_total (λ t. g.quoted_in t.kind) pattern_sane

quoted_total : Total g.quoted
quoted_total = mapped_total g.pattern (unescaped false) pattern_total

number_total : Total g.number
number_total = one_total (λ t. g.number_in t.kind) number_sane

moment_total : Total g.moment
moment_total = one_total (λ t. g.moment_in t.kind t.at) moment_sane

dot_name_total : Total (both (g.keyword words.Dot) g.name g.second)
dot_name_total = joint_total dot_name_joint (keyword_total words.Dot) name_total

column_total : Total (perhaps (mapped g.name g.bare) g.dot_name g.qualify)
column_total = optional_total column_optional (mapped_total g.name g.bare name_total) dot_name_total

test_column_total : Total (perhaps (mapped g.plain_name g.bare) g.dot_name g.qualify)
test_column_total = optional_total test_column_optional (mapped_total g.plain_name g.bare plain_name_total) dot_name_total

as_name_total : Total (both (g.keyword words.As) g.name g.second)
as_name_total = joint_total as_name_joint (keyword_total words.As) name_total

alias_total : Total (either g.as_name g.name)
alias_total = choice_total alias_choice as_name_total name_total

dotted_total : Total (perhaps (mapped g.name g.unaliased) g.alias g.aliased)
dotted_total = optional_total dotted_optional (mapped_total g.name g.unaliased name_total) alias_total

behind_dot_total : Total (either (g.meaning words.Star item_rests.Star) g.dotted)
behind_dot_total = choice_total behind_dot_choice (meaning_total words.Star item_rests.Star) dotted_total

dot_rest_total : Total (both (g.keyword words.Dot) g.behind_dot g.second)
dot_rest_total = joint_total dot_rest_joint (keyword_total words.Dot) behind_dot_total

item_rest_total : Total (either g.dot_rest (mapped g.alias item_rests.Alias))
item_rest_total = choice_total item_rest_choice dot_rest_total (mapped_total g.alias item_rests.Alias alias_total)

served_item_total : Total (perhaps (mapped g.plain_name g.bare_item) g.item_rest g.with_rest)
served_item_total = optional_total served_item_optional (mapped_total g.plain_name g.bare_item plain_name_total) item_rest_total

item_total : Total (stands g.served_item g.left_out)
item_total = standing_total item_standing served_item_total

items_total : Total (chain (mapped g.item g.alone) (g.comma_then g.item) g.append)
items_total = listing_total items_listing (mapped_total g.item g.alone item_total) (joint_total (comma_joint g.item item_sane) (keyword_total words.Comma) item_total)

selection_total : Total (either (g.meaning words.Star selections.All) (mapped (g.list_of g.item) selections.Columns))
selection_total = choice_total selection_choice (meaning_total words.Star selections.All) (mapped_total (g.list_of g.item) selections.Columns items_total)

served_table_total : Total (perhaps (mapped g.plain_name g.bare_table) g.alias g.with_alias)
served_table_total = optional_total served_table_optional (mapped_total g.plain_name g.bare_table plain_name_total) alias_total

table_total : Total (stands g.served_table g.left_out)
table_total = standing_total table_standing served_table_total

timestamp_total : Total (both (g.keyword words.Timestamp) g.moment g.timed)
timestamp_total = joint_total timestamp_joint (keyword_total words.Timestamp) moment_total

false_or_time_total : Total (either (g.meaning words.False (literals.Flag false)) g.timestamp)
false_or_time_total = choice_total false_or_time_choice (meaning_total words.False (literals.Flag false)) timestamp_total

flag_or_time_total : Total (either (g.meaning words.True (literals.Flag true)) g.false_or_time)
flag_or_time_total = choice_total flag_or_time_choice (meaning_total words.True (literals.Flag true)) false_or_time_total

no_text_total : Total (either (mapped g.number literals.Whole) g.flag_or_time)
no_text_total = choice_total no_text_choice (mapped_total g.number literals.Whole number_total) flag_or_time_total

served_literal_total : Total (either (mapped g.quoted literals.Words) g.no_text)
served_literal_total = choice_total served_literal_choice (mapped_total g.quoted literals.Words quoted_total) no_text_total

literal_total : Total (stands g.served_literal g.left_out)
literal_total = standing_total literal_standing served_literal_total

literals_total : Total (chain (mapped g.literal g.alone) (g.comma_then g.literal) g.append)
literals_total = listing_total literals_listing (mapped_total g.literal g.alone literal_total) (joint_total (comma_joint g.literal literal_sane) (keyword_total words.Comma) literal_total)

closed_literals_total : Total (both (g.list_of g.literal) (g.keyword words.Close) g.first)
closed_literals_total = joint_total closed_literals_joint literals_total (keyword_total words.Close)

group_literals_total : Total (both (g.keyword words.Open) (g.closed (g.list_of g.literal)) g.second)
group_literals_total = joint_total group_literals_joint (keyword_total words.Open) closed_literals_total

in_list_total : Total (both (g.keyword words.In) (g.group (g.list_of g.literal)) g.second)
in_list_total = joint_total in_list_joint (keyword_total words.In) group_literals_total

like_total : Total (both (g.keyword words.Like) g.pattern g.second)
like_total = joint_total like_joint (keyword_total words.Like) pattern_total

not_null_total : Total (both (g.keyword words.Not) (g.meaning words.Null true) g.second)
not_null_total = joint_total not_null_joint (keyword_total words.Not) (meaning_total words.Null true)

nullness_total : Total (either g.not_null (g.meaning words.Null false))
nullness_total = choice_total nullness_choice not_null_total (meaning_total words.Null false)

is_null_total : Total (both (g.keyword words.Is) (mapped g.nullness test_rests.Null) g.second)
is_null_total = joint_total is_null_joint (keyword_total words.Is) (mapped_total g.nullness test_rests.Null nullness_total)

at_most_total : Total (either (g.meaning words.LessEqual comparisons.LessEqual) (g.meaning words.GreaterEqual comparisons.GreaterEqual))
at_most_total = choice_total at_most_choice (meaning_total words.LessEqual comparisons.LessEqual) (meaning_total words.GreaterEqual comparisons.GreaterEqual)

greater_total : Total (either (g.meaning words.Greater comparisons.Greater) g.at_most)
greater_total = choice_total greater_choice (meaning_total words.Greater comparisons.Greater) at_most_total

less_total : Total (either (g.meaning words.Less comparisons.Less) g.greater)
less_total = choice_total less_choice (meaning_total words.Less comparisons.Less) greater_total

unequal_total : Total (either (g.meaning words.NotEqual comparisons.NotEqual) g.less)
unequal_total = choice_total unequal_choice (meaning_total words.NotEqual comparisons.NotEqual) less_total

comparison_total : Total (either (g.meaning words.Equal comparisons.Equal) g.unequal)
comparison_total = choice_total comparison_choice (meaning_total words.Equal comparisons.Equal) unequal_total

compared_total : Total (both g.comparison g.literal test_rests.Compare)
compared_total = joint_total compared_joint comparison_total literal_total

among_or_like_total : (negated : Bool) → Total (either (mapped g.in_list (test_rests.In negated)) (mapped g.like (test_rests.Like negated)))
among_or_like_total negated = choice_total (among_or_like_choice negated) (mapped_total g.in_list (test_rests.In negated) in_list_total) (mapped_total g.like (test_rests.Like negated) like_total)

negative_total : Total (both (g.keyword words.Not) (g.among_or_like true) g.second)
negative_total = joint_total negative_joint (keyword_total words.Not) (among_or_like_total true)

positive_total : Total (either (g.among_or_like false) g.is_null)
positive_total = choice_total positive_choice (among_or_like_total false) is_null_total

no_comparison_total : Total (either g.negative g.positive)
no_comparison_total = choice_total no_comparison_choice negative_total positive_total

test_rest_total : Total (either g.compared g.no_comparison)
test_rest_total = choice_total test_rest_choice compared_total no_comparison_total

of_column_total : Total (both g.test_column g.test_rest g.with_column)
of_column_total = joint_total of_column_joint test_column_total test_rest_total

any_column_total : Total (both (g.keyword words.Any) g.column g.second)
any_column_total = joint_total any_column_joint (keyword_total words.Any) column_total

equal_any_total : Total (both (g.keyword words.Equal) g.any_column g.second)
equal_any_total = joint_total equal_any_joint (keyword_total words.Equal) any_column_total

of_literal_total : Total (both g.served_literal g.equal_any conds.EqualAny)
of_literal_total = joint_total of_literal_joint served_literal_total equal_any_total

not_among_total : Total (both (g.keyword words.Not) (mapped g.in_list (g.among true)) g.second)
not_among_total = joint_total not_among_joint (keyword_total words.Not) (mapped_total g.in_list (g.among true) in_list_total)

among_list_total : Total (either g.not_among (mapped g.in_list (g.among false)))
among_list_total = choice_total among_list_choice not_among_total (mapped_total g.in_list (g.among false) in_list_total)

any_rest_total : Total (both g.column g.among_list g.any_in)
any_rest_total = joint_total any_rest_joint column_total among_list_total

of_any_total : Total (both (g.keyword words.Any) g.any_rest g.second)
of_any_total = joint_total of_any_joint (keyword_total words.Any) any_rest_total

comma_text_total : Total (both (g.keyword words.Comma) g.quoted g.second)
comma_text_total = joint_total comma_text_joint (keyword_total words.Comma) quoted_total

table_and_text_total : Total (both g.name g.comma_text g.in_table)
table_and_text_total = joint_total table_and_text_joint name_total comma_text_total

arguments_total : Total (either g.table_and_text (mapped g.quoted g.anywhere))
arguments_total = choice_total arguments_choice table_and_text_total (mapped_total g.quoted g.anywhere quoted_total)

closed_arguments_total : Total (both g.arguments (g.keyword words.Close) g.first)
closed_arguments_total = joint_total closed_arguments_joint arguments_total (keyword_total words.Close)

group_arguments_total : Total (both (g.keyword words.Open) (g.closed g.arguments) g.second)
group_arguments_total = joint_total group_arguments_joint (keyword_total words.Open) closed_arguments_total

in_folder_total : Total (both (g.keyword words.InFolder) (g.group g.arguments) g.folder)
in_folder_total = joint_total in_folder_joint (keyword_total words.InFolder) group_arguments_total

in_tree_total : Total (both (g.keyword words.InTree) (g.group g.arguments) g.tree)
in_tree_total = joint_total in_tree_joint (keyword_total words.InTree) group_arguments_total

of_place_total : Total (either g.in_folder g.in_tree)
of_place_total = choice_total of_place_choice in_folder_total in_tree_total

any_or_place_total : Total (either g.of_any g.of_place)
any_or_place_total = choice_total any_or_place_choice of_any_total of_place_total

no_column_total : Total (either g.of_literal g.any_or_place)
no_column_total = choice_total no_column_choice of_literal_total any_or_place_total

simple_total : Total (either g.of_column g.no_column)
simple_total = choice_total simple_choice of_column_total no_column_total

test_simple_total : Total (stands g.simple g.left_out)
test_simple_total = standing_total simple_standing simple_total

direction_total : Total (either (g.meaning words.Asc false) (g.meaning words.Desc true))
direction_total = choice_total direction_choice (meaning_total words.Asc false) (meaning_total words.Desc true)

key_total : Total (perhaps (mapped g.column g.ascending) g.direction g.ordered)
key_total = optional_total key_optional (mapped_total g.column g.ascending column_total) direction_total

keys_total : Total (chain (mapped g.key g.alone) (g.comma_then g.key) g.append)
keys_total = listing_total keys_listing (mapped_total g.key g.alone key_total) (joint_total (comma_joint g.key key_sane) (keyword_total words.Comma) key_total)

by_keys_total : Total (both (g.keyword words.By) (g.list_of g.key) g.second)
by_keys_total = joint_total by_keys_joint (keyword_total words.By) keys_total

order_total : Total (both (g.keyword words.Order) g.by_keys g.second)
order_total = joint_total order_joint (keyword_total words.Order) by_keys_total

source_total : Total (both (g.keyword words.From) g.table g.second)
source_total = joint_total source_joint (keyword_total words.From) table_total

columns_of_total : Total (both g.selection g.source g.all_rows)
columns_of_total = joint_total columns_of_joint selection_total source_total

select_total : Total (both (g.keyword words.Select) g.columns_of g.second)
select_total = joint_total select_joint (keyword_total words.Select) columns_of_total

-- conditions of each depth
record LevelTotal (d : ℕ) : Type 0 where
  pub test : Total (g.level d).test
  pub negated : Total (g.level d).negated

module _ (d : ℕ) (h : LevelTotal d) where
  conjunction_total : Total (g.conjunction (g.level d).negated)
  conjunction_total = listing_total (conjunction_listing d) h.negated (joint_total (and_joint d) (keyword_total words.And) h.negated)

  cond_total : Total (g.cond d)
  cond_total = listing_total (cond_listing d) conjunction_total (joint_total (or_joint d) (keyword_total words.Or) conjunction_total)

  test_total : Total (g.test_over (g.level d))
  test_total = standing_total (test_standing d)
      (choice_total (served_test_choice d) (joint_total (group_cond_joint d) (keyword_total words.Open) (joint_total (closed_cond_joint d) cond_total (keyword_total words.Close))) simple_total)

  negated_total : Total (g.level (suc d)).negated
  negated_total = choice_total (negated_choice d) (joint_total (not_joint d) (keyword_total words.Not) h.test) test_total

level_total : (d : ℕ) → LevelTotal d
level_total zero = record { test = test_simple_total; negated = test_simple_total }
level_total (suc d) = record { test = test_total d (level_total d); negated = negated_total d (level_total d) }

pub query_total : (d : ℕ) → Total (g.query d)
query_total d = optional_total (query_optional d) (optional_total (chosen_optional d) select_total (joint_total (filter_joint d) (keyword_total words.Where) (cond_total d (level_total d)))) order_total
