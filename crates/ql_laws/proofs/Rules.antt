-- The rules of names, constants and tests, printed again.
use Rattle.std.proofs.Common.{◌≡◌, ℕ, Bool, true, false, List, [], ◌∷◌, ◌++◌, map, Option, Some, None, inl, inr, refl, sym, ◌∙◌, ap, subst}
use Rattle.grammar_rules.specs.Rules.{Rule, Mapped, mapped}
use Rattle.ql_lex.specs.declared.word.Word.TheVariants as words
use Rattle.ql_lex.specs.declared.token.Kind.{Kind}
use Rattle.ql_lex.specs.declared.token.Kind.TheVariants as kinds
use Rattle.ql_lex.specs.declared.token.Token.{Token}
use Rattle.ql_tree.specs.Stripped.{without_place}
use Rattle.ql_tree.specs.Printed as p
use Rattle.ql_tree.specs.declared.tree.Column.{Column}
use Rattle.ql_tree.specs.declared.tree.Literal.{Literal}
use Rattle.ql_tree.specs.declared.tree.Literal.TheVariants as literals
use Rattle.ql_tree.specs.declared.tree.Comparison.{Comparison}
use Rattle.ql_tree.specs.declared.tree.Comparison.TheVariants as comparisons
use Rattle.ql_grammar.specs.declared.parts.TestRest.{TestRest}
use Rattle.ql_grammar.specs.declared.parts.TestRest.TheVariants as test_rests
use Rattle.ql_grammar.specs.declared.parts.Among.{Among}
use Rattle.ql_grammar.specs.declared.parts.Placed.{Placed}
use Rattle.ql_grammar.specs.Grammar as g
use Rattle.ql_laws.proofs.Reprints as again
use Rattle.ql_laws.proofs.Written.{IsServed, IsWritten}
use Rattle.ql_laws.proofs.Parts.{kind, Same, Alike, place_free, two, stripped_rest, stripped_among, rest_tokens, among_tokens, placed_tokens, Printed, Reprint, Prints, printed_word, word_sound, printed_meaning, meaning_prints, name_prints, plain_prints, pattern_prints, number_prints, quoted_prints, moment_prints, after_word, group_prints, list_prints}

-- begin [. name]
module _ (begin : Rule Token (List ℕ)) (q : Prints begin p.name Same) where
  -- a column that is a name alone
  abbrev IsBare : Column → Type 0
  IsBare c = (text : List ℕ) × (c ≡ g.bare text)

  bare_first : (ts : List Token) (c : Column) → (mapped begin g.bare).is ts c → IsBare c
  bare_first ts c w = (w.x, w.value)

  qualified : (c : Column) (text : List ℕ) → IsBare c → p.column_tokens (g.qualify c text) ≡ p.column_tokens c ++ (p.word words.Dot ++ p.name text)
  qualified c text b = subst (λ v. p.column_tokens (g.qualify v text) ≡ p.column_tokens v ++ (p.word words.Dot ++ p.name text)) (sym b.1) refl

  pub column_from_prints : Prints (g.column_from begin) p.column_tokens Same
  column_from_prints =
      again.perhaps_prints kind IsServed IsWritten (mapped begin g.bare) g.dot_name g.qualify p.column_tokens (λ text. p.word words.Dot ++ p.name text) Same Same IsBare
      bare_first qualified (λ x y u v e d. two g.qualify x u y v e d)
      (again.mapped_prints kind IsServed IsWritten begin g.bare p.name p.column_tokens Same Same (λ x. refl) (λ x y e. ap g.bare e) q)
      (after_word words.Dot g.name p.name (λ text. p.word words.Dot ++ p.name text) Same (λ x. refl) name_prints)

pub column_prints : Prints g.column p.column_tokens Same
column_prints = column_from_prints g.name name_prints

pub test_column_prints : Prints g.test_column p.column_tokens Same
test_column_prints = column_from_prints g.plain_name plain_prints

-- constants
timestamp_prints : Prints g.timestamp p.literal_tokens (Alike without_place)
timestamp_prints =
    again.both_prints kind IsServed IsWritten (g.keyword words.Timestamp) g.moment g.timed (λ _. p.word words.Timestamp) (λ x. p.quoted x.text) p.literal_tokens Same (Alike place_free) (Alike without_place)
    (λ x y. refl) (λ x y u v e d. ap (λ text. literals.Time (record { text = text; at = 0 })) d)
    (λ ts x w. (word_sound words.Timestamp ts x w, λ each. printed_word words.Timestamp)) moment_prints

false_or_time_prints : Prints g.false_or_time p.literal_tokens (Alike without_place)
false_or_time_prints = again.choice_prints kind IsServed IsWritten (g.meaning words.False (literals.Flag false)) g.timestamp p.literal_tokens (Alike without_place)
    (meaning_prints words.False (literals.Flag false) p.literal_tokens (Alike without_place) refl refl) timestamp_prints

flag_or_time_prints : Prints g.flag_or_time p.literal_tokens (Alike without_place)
flag_or_time_prints = again.choice_prints kind IsServed IsWritten (g.meaning words.True (literals.Flag true)) g.false_or_time p.literal_tokens (Alike without_place)
    (meaning_prints words.True (literals.Flag true) p.literal_tokens (Alike without_place) refl refl) false_or_time_prints

no_text_prints : Prints g.no_text p.literal_tokens (Alike without_place)
no_text_prints = again.choice_prints kind IsServed IsWritten (mapped g.number literals.Whole) g.flag_or_time p.literal_tokens (Alike without_place)
    (again.mapped_prints kind IsServed IsWritten g.number literals.Whole (λ x. kinds.Number x ∷ []) p.literal_tokens Same (Alike without_place) (λ x. refl) (λ x y e. ap literals.Whole e) number_prints)
    flag_or_time_prints

pub served_literal_prints : Prints g.served_literal p.literal_tokens (Alike without_place)
served_literal_prints = again.choice_prints kind IsServed IsWritten (mapped g.quoted literals.Words) g.no_text p.literal_tokens (Alike without_place)
    (again.mapped_prints kind IsServed IsWritten g.quoted literals.Words p.quoted p.literal_tokens Same (Alike without_place) (λ x. refl) (λ x y e. ap literals.Words e) quoted_prints)
    no_text_prints

pub literal_prints : Prints g.literal p.literal_tokens (Alike without_place)
literal_prints = again.stands_prints kind IsServed IsWritten g.served_literal g.left_out p.literal_tokens (Alike without_place) served_literal_prints

abbrev list_tokens : List Literal → List Kind
list_tokens xs = p.word words.In ++ p.group (p.separated p.literal_tokens xs)

in_list_prints : Prints g.in_list list_tokens (Alike (map without_place))
in_list_prints = after_word words.In (g.group (g.list_of g.literal)) (λ xs. p.group (p.separated p.literal_tokens xs)) list_tokens (Alike (map without_place)) (λ x. refl)
    (group_prints (g.list_of g.literal) (p.separated p.literal_tokens) (Alike (map without_place)) (list_prints g.literal p.literal_tokens without_place literal_prints))

like_prints : Prints g.like (λ text. p.word words.Like ++ (kinds.Quoted text ∷ [])) Same
like_prints = after_word words.Like g.pattern (λ x. kinds.Quoted x ∷ []) (λ text. p.word words.Like ++ (kinds.Quoted text ∷ [])) Same (λ x. refl) pattern_prints

-- [NOT] IN ( .. ) | [NOT] LIKE text, without its NOT
abbrev bare_tokens : TestRest → List Kind
bare_tokens (test_rests.Compare by x) = []
bare_tokens (test_rests.In negated xs) = list_tokens xs
bare_tokens (test_rests.Like negated text) = p.word words.Like ++ (kinds.Quoted text ∷ [])
bare_tokens (test_rests.Null negated) = []

among_or_like_prints : (negated : Bool) → Prints (g.among_or_like negated) bare_tokens (Alike stripped_rest)
among_or_like_prints negated = again.choice_prints kind IsServed IsWritten (mapped g.in_list (test_rests.In negated)) (mapped g.like (test_rests.Like negated)) bare_tokens (Alike stripped_rest)
    (again.mapped_prints kind IsServed IsWritten g.in_list (test_rests.In negated) list_tokens bare_tokens (Alike (map without_place)) (Alike stripped_rest) (λ x. refl) (λ x y e. ap (test_rests.In negated) e) in_list_prints)
    (again.mapped_prints kind IsServed IsWritten g.like (test_rests.Like negated) (λ text. p.word words.Like ++ (kinds.Quoted text ∷ [])) bare_tokens Same (Alike stripped_rest) (λ x. refl) (λ x y e. ap (test_rests.Like negated) e) like_prints)

-- what stands behind the NOT is a list or LIKE that is negated
denied : (ts : List Token) (x : TestRest) → (g.among_or_like true).is ts x → rest_tokens x ≡ p.word words.Not ++ bare_tokens x
denied ts x (inl w) = subst (λ v. rest_tokens v ≡ p.word words.Not ++ bare_tokens v) (sym w.value) refl
denied ts x (inr w) = subst (λ v. rest_tokens v ≡ p.word words.Not ++ bare_tokens v) (sym w.value) refl

affirmed : (ts : List Token) (x : TestRest) → (g.among_or_like false).is ts x → rest_tokens x ≡ bare_tokens x
affirmed ts x (inl w) = subst (λ v. rest_tokens v ≡ bare_tokens v) (sym w.value) refl
affirmed ts x (inr w) = subst (λ v. rest_tokens v ≡ bare_tokens v) (sym w.value) refl

negative_prints : Prints g.negative rest_tokens (Alike stripped_rest)
negative_prints ts z w =
    let below : Reprint g.negative (p.word words.Not ++ bare_tokens z) (Alike stripped_rest) ts z =
    after_word words.Not (g.among_or_like true) bare_tokens (λ x. p.word words.Not ++ bare_tokens x) (Alike stripped_rest) (λ x. refl) (among_or_like_prints true) ts z w in
    let same : rest_tokens z ≡ p.word words.Not ++ bare_tokens z = subst (λ v. rest_tokens v ≡ p.word words.Not ++ bare_tokens v) (sym w.value) (denied w.vs w.y w.right) in
    (below.0, λ each. again.printed_as kind IsServed IsWritten g.negative (p.word words.Not ++ bare_tokens z) (rest_tokens z) (Alike stripped_rest) z same (below.1 each))

positive_among : again.Prints kind IsServed IsWritten (g.among_or_like false) (g.among_or_like false) rest_tokens (Alike stripped_rest)
positive_among ts z w =
    let below : Reprint (g.among_or_like false) (bare_tokens z) (Alike stripped_rest) ts z = among_or_like_prints false ts z w in
    (below.0, λ each. again.printed_as kind IsServed IsWritten (g.among_or_like false) (bare_tokens z) (rest_tokens z) (Alike stripped_rest) z (affirmed ts z w) (below.1 each))

abbrev null_tokens : Bool → List Kind
null_tokens negated = p.negation negated ++ p.word words.Null

not_null_prints : Prints g.not_null null_tokens Same
not_null_prints ts z w =
    let right : Mapped (g.keyword words.Null).is (λ _. true) w.vs w.y = w.right in (
      again.sound_append kind IsServed IsWritten ts w.us w.vs w.text (word_sound words.Not w.us w.x w.left) (word_sound words.Null w.vs right.x right.inside),
      λ each. subst (λ v. Printed g.not_null (null_tokens v) Same v) (sym (w.value ∙ right.value))
          (again.printed_both kind IsServed IsWritten (g.keyword words.Not) (g.meaning words.Null true) g.second (p.word words.Not) (p.word words.Null) Same Same Same (tt {0}) true (λ u v e d. d)
          (printed_word words.Not) (printed_meaning words.Null true Same refl)),
    )

nullness_prints : Prints g.nullness null_tokens Same
nullness_prints = again.choice_prints kind IsServed IsWritten g.not_null (g.meaning words.Null false) null_tokens Same not_null_prints (meaning_prints words.Null false null_tokens Same refl refl)

-- what stands behind IS
abbrev null_rest : TestRest → List Kind
null_rest (test_rests.Compare by x) = []
null_rest (test_rests.In negated xs) = []
null_rest (test_rests.Like negated text) = []
null_rest (test_rests.Null negated) = null_tokens negated

null_rest_prints : Prints (mapped g.nullness test_rests.Null) null_rest (Alike stripped_rest)
null_rest_prints = again.mapped_prints kind IsServed IsWritten g.nullness test_rests.Null null_tokens null_rest Same (Alike stripped_rest) (λ x. refl) (λ x y e. ap test_rests.Null e) nullness_prints

behind_is : (ts : List Token) (x : TestRest) → (mapped g.nullness test_rests.Null).is ts x → rest_tokens x ≡ p.word words.Is ++ null_rest x
behind_is ts x w = subst (λ v. rest_tokens v ≡ p.word words.Is ++ null_rest v) (sym w.value) refl

is_null_prints : Prints g.is_null rest_tokens (Alike stripped_rest)
is_null_prints ts z w =
    let below : Reprint g.is_null (p.word words.Is ++ null_rest z) (Alike stripped_rest) ts z =
    after_word words.Is (mapped g.nullness test_rests.Null) null_rest (λ x. p.word words.Is ++ null_rest x) (Alike stripped_rest) (λ x. refl) null_rest_prints ts z w in
    let same : rest_tokens z ≡ p.word words.Is ++ null_rest z = subst (λ v. rest_tokens v ≡ p.word words.Is ++ null_rest v) (sym w.value) (behind_is w.vs w.y w.right) in
    (below.0, λ each. again.printed_as kind IsServed IsWritten g.is_null (p.word words.Is ++ null_rest z) (rest_tokens z) (Alike stripped_rest) z same (below.1 each))

-- comparisons
abbrev by_tokens : Comparison → List Kind
by_tokens by = p.word (p.comparison_word by)

at_most_prints : Prints g.at_most by_tokens Same
at_most_prints = again.choice_prints kind IsServed IsWritten (g.meaning words.LessEqual comparisons.LessEqual) (g.meaning words.GreaterEqual comparisons.GreaterEqual) by_tokens Same
    (meaning_prints words.LessEqual comparisons.LessEqual by_tokens Same refl refl) (meaning_prints words.GreaterEqual comparisons.GreaterEqual by_tokens Same refl refl)

greater_prints : Prints g.greater by_tokens Same
greater_prints = again.choice_prints kind IsServed IsWritten (g.meaning words.Greater comparisons.Greater) g.at_most by_tokens Same (meaning_prints words.Greater comparisons.Greater by_tokens Same refl refl) at_most_prints

less_prints : Prints g.less by_tokens Same
less_prints = again.choice_prints kind IsServed IsWritten (g.meaning words.Less comparisons.Less) g.greater by_tokens Same (meaning_prints words.Less comparisons.Less by_tokens Same refl refl) greater_prints

unequal_prints : Prints g.unequal by_tokens Same
unequal_prints = again.choice_prints kind IsServed IsWritten (g.meaning words.NotEqual comparisons.NotEqual) g.less by_tokens Same (meaning_prints words.NotEqual comparisons.NotEqual by_tokens Same refl refl) less_prints

comparison_prints : Prints g.comparison by_tokens Same
comparison_prints = again.choice_prints kind IsServed IsWritten (g.meaning words.Equal comparisons.Equal) g.unequal by_tokens Same (meaning_prints words.Equal comparisons.Equal by_tokens Same refl refl) unequal_prints

compared_alike : (x : Comparison) (y : Literal) (u : Comparison) (v : Literal) → u ≡ x → without_place v ≡ without_place y → stripped_rest (test_rests.Compare u v) ≡ stripped_rest (test_rests.Compare x y)
compared_alike x y u v e d = two test_rests.Compare x u (without_place y) (without_place v) e d

compared_prints : Prints g.compared rest_tokens (Alike stripped_rest)
compared_prints = again.both_prints kind IsServed IsWritten g.comparison g.literal test_rests.Compare by_tokens p.literal_tokens rest_tokens Same (Alike without_place) (Alike stripped_rest)
    (λ x y. refl) compared_alike comparison_prints literal_prints

pub test_rest_prints : Prints g.test_rest rest_tokens (Alike stripped_rest)
test_rest_prints = again.choice_prints kind IsServed IsWritten g.compared g.no_comparison rest_tokens (Alike stripped_rest) compared_prints
    (again.choice_prints kind IsServed IsWritten g.negative g.positive rest_tokens (Alike stripped_rest) negative_prints
    (again.choice_prints kind IsServed IsWritten (g.among_or_like false) g.is_null rest_tokens (Alike stripped_rest) positive_among is_null_prints))

-- [NOT] IN ( .. ) behind ANY and its column
among_alike : (negated : Bool) (x y : List Literal) → map without_place y ≡ map without_place x → stripped_among (g.among negated y) ≡ stripped_among (g.among negated x)
among_alike negated x y e = ap (λ xs. record { negated = negated; literals = xs }) e

abbrev bare_among : Among → List Kind
bare_among x = list_tokens x.literals

among_prints : (negated : Bool) → Prints (mapped g.in_list (g.among negated)) bare_among (Alike stripped_among)
among_prints negated = again.mapped_prints kind IsServed IsWritten g.in_list (g.among negated) list_tokens bare_among (Alike (map without_place)) (Alike stripped_among) (λ x. refl) (λ x y e. among_alike negated x y e) in_list_prints

not_among_prints : Prints g.not_among among_tokens (Alike stripped_among)
not_among_prints ts z w =
    let below : Reprint g.not_among (p.word words.Not ++ bare_among z) (Alike stripped_among) ts z =
    after_word words.Not (mapped g.in_list (g.among true)) bare_among (λ x. p.word words.Not ++ bare_among x) (Alike stripped_among) (λ x. refl) (among_prints true) ts z w in
    let same : among_tokens z ≡ p.word words.Not ++ bare_among z = subst (λ v. among_tokens v ≡ p.word words.Not ++ bare_among v) (sym (w.value ∙ w.right.value)) refl in
    (below.0, λ each. again.printed_as kind IsServed IsWritten g.not_among (p.word words.Not ++ bare_among z) (among_tokens z) (Alike stripped_among) z same (below.1 each))

plain_among_prints : Prints (mapped g.in_list (g.among false)) among_tokens (Alike stripped_among)
plain_among_prints = again.mapped_prints kind IsServed IsWritten g.in_list (g.among false) list_tokens among_tokens (Alike (map without_place)) (Alike stripped_among) (λ x. refl) (λ x y e. among_alike false x y e) in_list_prints

pub among_list_prints : Prints g.among_list among_tokens (Alike stripped_among)
among_list_prints = again.choice_prints kind IsServed IsWritten g.not_among (mapped g.in_list (g.among false)) among_tokens (Alike stripped_among) not_among_prints plain_among_prints

-- ( [name ,] text )
abbrev argument_tokens : Option (List ℕ) → List ℕ → List Kind
argument_tokens None text = p.quoted text
argument_tokens (Some table) text = p.name table ++ (p.word words.Comma ++ p.quoted text)

abbrev arguments_tokens : Placed → List Kind
arguments_tokens x = argument_tokens x.table x.text

arguments_prints : Prints g.arguments arguments_tokens Same
arguments_prints = again.choice_prints kind IsServed IsWritten g.table_and_text (mapped g.quoted g.anywhere) arguments_tokens Same
    (again.both_prints kind IsServed IsWritten g.name g.comma_text g.in_table p.name (λ text. p.word words.Comma ++ p.quoted text) arguments_tokens Same Same Same (λ x y. refl) (λ x y u v e d. two g.in_table x u y v e d)
    name_prints (after_word words.Comma g.quoted p.quoted (λ text. p.word words.Comma ++ p.quoted text) Same (λ x. refl) quoted_prints))
    (again.mapped_prints kind IsServed IsWritten g.quoted g.anywhere p.quoted arguments_tokens Same Same (λ x. refl) (λ x y e. ap g.anywhere e) quoted_prints)

group_of : (table : Option (List ℕ)) (text : List ℕ) → p.place_tokens table text ≡ p.group (argument_tokens table text)
group_of None text = refl
group_of (Some table) text = refl

pub placed_prints : Prints (g.group g.arguments) placed_tokens Same
placed_prints ts z w =
    let below : Reprint (g.group g.arguments) (p.group (arguments_tokens z)) Same ts z = group_prints g.arguments arguments_tokens Same arguments_prints ts z w in
    (below.0, λ each. again.printed_as kind IsServed IsWritten (g.group g.arguments) (p.group (arguments_tokens z)) (placed_tokens z) Same z (group_of z.table z.text) (below.1 each))
