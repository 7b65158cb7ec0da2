-- Simple tests, printed again.
use Rattle.std.proofs.Common.{◌≡◌, ℕ, List, ◌++◌, drop, inl, inr, refl, sym, ◌∙◌, ap, subst}
use Rattle.ql_lex.specs.declared.word.Word.TheVariants as words
use Rattle.ql_lex.specs.declared.token.Kind.{Kind}
use Rattle.ql_lex.specs.declared.token.Token.{Token}
use Rattle.ql_tree.specs.Stripped.{without_place, stripped_cond}
use Rattle.ql_tree.specs.Printed as p
use Rattle.ql_tree.specs.Printed.{shape}
use Rattle.ql_tree.specs.declared.tree.Column.{Column}
use Rattle.ql_tree.specs.declared.tree.Literal.{Literal}
use Rattle.ql_tree.specs.declared.tree.Cond.{Cond}
use Rattle.ql_tree.specs.declared.tree.Cond.TheVariants as conds
use Rattle.ql_grammar.specs.declared.parts.TestRest.{TestRest}
use Rattle.ql_grammar.specs.declared.parts.TestRest.TheVariants as test_rests
use Rattle.ql_grammar.specs.declared.parts.Among.{Among}
use Rattle.ql_grammar.specs.Grammar as g
use Rattle.ql_laws.proofs.Reprints as again
use Rattle.ql_laws.proofs.Written.{IsServed, IsWritten}
use Rattle.ql_laws.proofs.Shapes as shapes
use Rattle.ql_laws.proofs.Parts.{kind, Same, Alike, two, stripped_rest, stripped_among, rest_tokens, among_tokens, placed_tokens, Reprint, Prints, printed_word, word_sound, after_word}
use Rattle.ql_laws.proofs.Rules.{column_prints, test_column_prints, served_literal_prints, test_rest_prints, among_list_prints, placed_prints}

-- the tokens of a condition without parentheses
abbrev pub tokens : Cond → List Kind
tokens x = (shape x).tokens

abbrev pub rank : Cond → ℕ
rank x = (shape x).rank

shape_with : (c : Column) (x : TestRest) → shape (g.with_column c x) ≡ p.test_shape (p.column_tokens c ++ rest_tokens x)
shape_with c (test_rests.Compare by x) = shapes.shape_compare c by x
shape_with c (test_rests.In negated xs) = shapes.shape_in c negated xs
shape_with c (test_rests.Like negated text) = shapes.shape_like c negated text
shape_with c (test_rests.Null negated) = shapes.shape_null c negated

stripped_with : (c : Column) (x : TestRest) → stripped_cond (g.with_column c x) ≡ g.with_column c (stripped_rest x)
stripped_with c (test_rests.Compare by x) = shapes.stripped_compare c by x
stripped_with c (test_rests.In negated xs) = shapes.stripped_in c negated xs
stripped_with c (test_rests.Like negated text) = shapes.stripped_like c negated text
stripped_with c (test_rests.Null negated) = shapes.stripped_null c negated

with_alike : (c : Column) (x : TestRest) (d : Column) (y : TestRest) → d ≡ c → stripped_rest y ≡ stripped_rest x → stripped_cond (g.with_column d y) ≡ stripped_cond (g.with_column c x)
with_alike c x d y e f = stripped_with d y ∙ two g.with_column c d (stripped_rest x) (stripped_rest y) e f ∙ sym (stripped_with c x)

of_column_prints : Prints g.of_column tokens (Alike stripped_cond)
of_column_prints = again.both_prints kind IsServed IsWritten g.test_column g.test_rest g.with_column p.column_tokens rest_tokens tokens Same (Alike stripped_rest) (Alike stripped_cond)
    (λ c x. ap (λ s. s.tokens) (shape_with c x)) with_alike test_column_prints test_rest_prints

equal_alike : (x : Literal) (c : Column) (y : Literal) (d : Column) → without_place y ≡ without_place x → d ≡ c → stripped_cond (conds.EqualAny y d) ≡ stripped_cond (conds.EqualAny x c)
equal_alike x c y d e f = shapes.stripped_equal_any y d ∙ two conds.EqualAny (without_place x) (without_place y) c d e f ∙ sym (shapes.stripped_equal_any x c)

of_literal_prints : Prints g.of_literal tokens (Alike stripped_cond)
of_literal_prints = again.both_prints kind IsServed IsWritten g.served_literal g.equal_any conds.EqualAny p.literal_tokens (λ c. p.word words.Equal ++ (p.word words.Any ++ p.column_tokens c)) tokens (Alike without_place) Same (Alike stripped_cond)
    (λ x c. ap (λ s. s.tokens) (shapes.shape_equal_any x c)) equal_alike served_literal_prints
    (after_word words.Equal g.any_column (λ c. p.word words.Any ++ p.column_tokens c) (λ c. p.word words.Equal ++ (p.word words.Any ++ p.column_tokens c)) Same (λ c. refl)
    (after_word words.Any g.column p.column_tokens (λ c. p.word words.Any ++ p.column_tokens c) Same (λ c. refl) column_prints))

-- behind ANY
abbrev behind_any : Cond → List Kind
behind_any x = drop 1 (tokens x)

any_alike : (c : Column) (x : Among) (d : Column) (y : Among) → d ≡ c → stripped_among y ≡ stripped_among x → stripped_cond (g.any_in d y) ≡ stripped_cond (g.any_in c x)
any_alike c x d y e f =
    shapes.stripped_any_in d y.negated y.literals
    ∙ two (λ v z. g.any_in v z) c d (stripped_among x) (stripped_among y) e f
    ∙ sym (shapes.stripped_any_in c x.negated x.literals)

any_rest_prints : Prints g.any_rest behind_any (Alike stripped_cond)
any_rest_prints = again.both_prints kind IsServed IsWritten g.column g.among_list g.any_in p.column_tokens among_tokens behind_any Same (Alike stripped_among) (Alike stripped_cond)
    (λ c x. ap (λ s. drop 1 s.tokens) (shapes.shape_any_in c x.negated x.literals)) any_alike column_prints among_list_prints

begins_any : (ts : List Token) (x : Cond) → g.any_rest.is ts x → tokens x ≡ p.word words.Any ++ behind_any x
begins_any ts x w =
    subst (λ v. tokens v ≡ p.word words.Any ++ behind_any v) (sym w.value)
    (ap (λ s. s.tokens) (shapes.shape_any_in w.x w.y.negated w.y.literals) ∙ ap (λ s. p.word words.Any ++ drop 1 s.tokens) (sym (shapes.shape_any_in w.x w.y.negated w.y.literals)))

of_any_prints : Prints g.of_any tokens (Alike stripped_cond)
of_any_prints ts z w =
    let below : Reprint g.of_any (p.word words.Any ++ behind_any z) (Alike stripped_cond) ts z =
    after_word words.Any g.any_rest behind_any (λ x. p.word words.Any ++ behind_any x) (Alike stripped_cond) (λ x. refl) any_rest_prints ts z w in
    let same : tokens z ≡ p.word words.Any ++ behind_any z = subst (λ v. tokens v ≡ p.word words.Any ++ behind_any v) (sym w.value) (begins_any w.vs w.y w.right) in
    (below.0, λ each. again.printed_as kind IsServed IsWritten g.of_any (p.word words.Any ++ behind_any z) (tokens z) (Alike stripped_cond) z same (below.1 each))

in_folder_prints : Prints g.in_folder tokens (Alike stripped_cond)
in_folder_prints = again.both_prints kind IsServed IsWritten (g.keyword words.InFolder) (g.group g.arguments) g.folder (λ _. p.word words.InFolder) placed_tokens tokens Same Same (Alike stripped_cond)
    (λ u x. ap (λ s. s.tokens) (shapes.shape_in_folder x.table x.text)) (λ x y u v e d. ap (λ z. stripped_cond (g.folder (tt {0}) z)) d)
    (λ ts x w. (word_sound words.InFolder ts x w, λ each. printed_word words.InFolder)) placed_prints

in_tree_prints : Prints g.in_tree tokens (Alike stripped_cond)
in_tree_prints = again.both_prints kind IsServed IsWritten (g.keyword words.InTree) (g.group g.arguments) g.tree (λ _. p.word words.InTree) placed_tokens tokens Same Same (Alike stripped_cond)
    (λ u x. ap (λ s. s.tokens) (shapes.shape_in_tree x.table x.text)) (λ x y u v e d. ap (λ z. stripped_cond (g.tree (tt {0}) z)) d)
    (λ ts x w. (word_sound words.InTree ts x w, λ each. printed_word words.InTree)) placed_prints

pub simple_prints : Prints g.simple tokens (Alike stripped_cond)
simple_prints =
    again.choice_prints kind IsServed IsWritten g.of_column g.no_column tokens (Alike stripped_cond) of_column_prints
    (again.choice_prints kind IsServed IsWritten g.of_literal g.any_or_place tokens (Alike stripped_cond) of_literal_prints
    (again.choice_prints kind IsServed IsWritten g.of_any g.of_place tokens (Alike stripped_cond) of_any_prints
    (again.choice_prints kind IsServed IsWritten g.in_folder g.in_tree tokens (Alike stripped_cond) in_folder_prints in_tree_prints)))

-- a simple test binds most tightly
pub simple_rank : (ts : List Token) (x : Cond) → g.simple.is ts x → rank x ≡ 3
simple_rank ts x (inl w) = ap rank w.value ∙ ap (λ s. s.rank) (shape_with w.x w.y)
simple_rank ts x (inr (inl w)) = ap rank w.value ∙ ap (λ s. s.rank) (shapes.shape_equal_any w.x w.y)
simple_rank ts x (inr (inr (inl w))) = ap rank (w.value ∙ w.right.value) ∙ ap (λ s. s.rank) (shapes.shape_any_in w.right.x w.right.y.negated w.right.y.literals)
simple_rank ts x (inr (inr (inr (inl w)))) = ap rank w.value ∙ ap (λ s. s.rank) (shapes.shape_in_folder w.y.table w.y.text)
simple_rank ts x (inr (inr (inr (inr w)))) = ap rank w.value ∙ ap (λ s. s.rank) (shapes.shape_in_tree w.y.table w.y.text)
