-- The shape of a condition, and the condition without offsets, one equation a kind of condition.
use Rattle.std.proofs.Common.{◌≡◌, ℕ, Bool, List, [], ◌∷◌, ◌++◌, map, Option, sym, ◌∙◌, ap}
use Rattle.ql_lex.specs.declared.word.Word.TheVariants as words
use Rattle.ql_lex.specs.declared.token.Kind.TheVariants as kinds
use Rattle.ql_tree.specs.Stripped.{without_place, stripped_cond, stripped_step}
use Rattle.ql_tree.specs.Printed as p
use Rattle.ql_tree.specs.Printed.{Shape, shape, shape_step, test_shape, placed, word}
use Rattle.ql_tree.specs.declared.tree.Column.{Column}
use Rattle.ql_tree.specs.declared.tree.Literal.{Literal}
use Rattle.ql_tree.specs.declared.tree.Comparison.{Comparison}
use Rattle.ql_tree.specs.declared.tree.Cond.{Cond}
use Rattle.ql_tree.specs.declared.tree.Cond.TheOpen.{Cond-F}
use Rattle.ql_tree.specs.declared.tree.Cond.TheVariants as conds
use Rattle.ql_tree.specs.declared.tree.Cond.TheVariants.{rolls-Or, rolls-And, rolls-Not, rolls-Compare, rolls-EqualAny, rolls-In, rolls-AnyIn, rolls-Like, rolls-Null, rolls-InFolder, rolls-InTree}
use Rattle.ql_tree.specs.declared.tree.Cond.TheFolds.{fold-roll-Cond}

pub shape_or : (a b : Cond) → shape (conds.Or a b) ≡ record { rank = 0; tokens = placed 0 (shape a) ++ (word words.Or ++ placed 1 (shape b)) }
unfolding shape
shape_or a b = ap shape (sym (rolls-Or a b)) ∙ fold-roll-Cond Shape shape_step (Cond-F.Or a b)

pub shape_and : (a b : Cond) → shape (conds.And a b) ≡ record { rank = 1; tokens = placed 1 (shape a) ++ (word words.And ++ placed 2 (shape b)) }
unfolding shape
shape_and a b = ap shape (sym (rolls-And a b)) ∙ fold-roll-Cond Shape shape_step (Cond-F.And a b)

pub shape_not : (a : Cond) → shape (conds.Not a) ≡ record { rank = 2; tokens = word words.Not ++ placed 3 (shape a) }
unfolding shape
shape_not a = ap shape (sym (rolls-Not a)) ∙ fold-roll-Cond Shape shape_step (Cond-F.Not a)

pub shape_compare : (c : Column) (by : Comparison) (x : Literal) → shape (conds.Compare c by x) ≡ test_shape (p.column_tokens c ++ (word (p.comparison_word by) ++ p.literal_tokens x))
unfolding shape
shape_compare c by x = ap shape (sym (rolls-Compare c by x)) ∙ fold-roll-Cond Shape shape_step (Cond-F.Compare c by x)

pub shape_equal_any : (x : Literal) (c : Column) → shape (conds.EqualAny x c) ≡ test_shape (p.literal_tokens x ++ (word words.Equal ++ (word words.Any ++ p.column_tokens c)))
unfolding shape
shape_equal_any x c = ap shape (sym (rolls-EqualAny x c)) ∙ fold-roll-Cond Shape shape_step (Cond-F.EqualAny x c)

pub shape_in : (c : Column) (negated : Bool) (xs : List Literal) → shape (conds.In c negated xs) ≡ test_shape (p.column_tokens c ++ p.in_tokens negated xs)
unfolding shape
shape_in c negated xs = ap shape (sym (rolls-In c negated xs)) ∙ fold-roll-Cond Shape shape_step (Cond-F.In c negated xs)

pub shape_any_in : (c : Column) (negated : Bool) (xs : List Literal) → shape (conds.AnyIn c negated xs) ≡ test_shape (word words.Any ++ (p.column_tokens c ++ p.in_tokens negated xs))
unfolding shape
shape_any_in c negated xs = ap shape (sym (rolls-AnyIn c negated xs)) ∙ fold-roll-Cond Shape shape_step (Cond-F.AnyIn c negated xs)

pub shape_like : (c : Column) (negated : Bool) (text : List ℕ) → shape (conds.Like c negated text) ≡ test_shape (p.column_tokens c ++ (p.negation negated ++ (word words.Like ++ (kinds.Quoted text ∷ []))))
unfolding shape
shape_like c negated text = ap shape (sym (rolls-Like c negated text)) ∙ fold-roll-Cond Shape shape_step (Cond-F.Like c negated text)

pub shape_null : (c : Column) (negated : Bool) → shape (conds.Null c negated) ≡ test_shape (p.column_tokens c ++ (word words.Is ++ (p.negation negated ++ word words.Null)))
unfolding shape
shape_null c negated = ap shape (sym (rolls-Null c negated)) ∙ fold-roll-Cond Shape shape_step (Cond-F.Null c negated)

pub shape_in_folder : (table : Option (List ℕ)) (text : List ℕ) → shape (conds.InFolder table text) ≡ test_shape (word words.InFolder ++ p.place_tokens table text)
unfolding shape
shape_in_folder table text = ap shape (sym (rolls-InFolder table text)) ∙ fold-roll-Cond Shape shape_step (Cond-F.InFolder table text)

pub shape_in_tree : (table : Option (List ℕ)) (text : List ℕ) → shape (conds.InTree table text) ≡ test_shape (word words.InTree ++ p.place_tokens table text)
unfolding shape
shape_in_tree table text = ap shape (sym (rolls-InTree table text)) ∙ fold-roll-Cond Shape shape_step (Cond-F.InTree table text)

pub stripped_or : (a b : Cond) → stripped_cond (conds.Or a b) ≡ conds.Or (stripped_cond a) (stripped_cond b)
unfolding stripped_cond
stripped_or a b = ap stripped_cond (sym (rolls-Or a b)) ∙ fold-roll-Cond Cond stripped_step (Cond-F.Or a b)

pub stripped_and : (a b : Cond) → stripped_cond (conds.And a b) ≡ conds.And (stripped_cond a) (stripped_cond b)
unfolding stripped_cond
stripped_and a b = ap stripped_cond (sym (rolls-And a b)) ∙ fold-roll-Cond Cond stripped_step (Cond-F.And a b)

pub stripped_not : (a : Cond) → stripped_cond (conds.Not a) ≡ conds.Not (stripped_cond a)
unfolding stripped_cond
stripped_not a = ap stripped_cond (sym (rolls-Not a)) ∙ fold-roll-Cond Cond stripped_step (Cond-F.Not a)

pub stripped_compare : (c : Column) (by : Comparison) (x : Literal) → stripped_cond (conds.Compare c by x) ≡ conds.Compare c by (without_place x)
unfolding stripped_cond
stripped_compare c by x = ap stripped_cond (sym (rolls-Compare c by x)) ∙ fold-roll-Cond Cond stripped_step (Cond-F.Compare c by x)

pub stripped_equal_any : (x : Literal) (c : Column) → stripped_cond (conds.EqualAny x c) ≡ conds.EqualAny (without_place x) c
unfolding stripped_cond
stripped_equal_any x c = ap stripped_cond (sym (rolls-EqualAny x c)) ∙ fold-roll-Cond Cond stripped_step (Cond-F.EqualAny x c)

pub stripped_in : (c : Column) (negated : Bool) (xs : List Literal) → stripped_cond (conds.In c negated xs) ≡ conds.In c negated (map without_place xs)
unfolding stripped_cond
stripped_in c negated xs = ap stripped_cond (sym (rolls-In c negated xs)) ∙ fold-roll-Cond Cond stripped_step (Cond-F.In c negated xs)

pub stripped_any_in : (c : Column) (negated : Bool) (xs : List Literal) → stripped_cond (conds.AnyIn c negated xs) ≡ conds.AnyIn c negated (map without_place xs)
unfolding stripped_cond
stripped_any_in c negated xs = ap stripped_cond (sym (rolls-AnyIn c negated xs)) ∙ fold-roll-Cond Cond stripped_step (Cond-F.AnyIn c negated xs)

pub stripped_like : (c : Column) (negated : Bool) (text : List ℕ) → stripped_cond (conds.Like c negated text) ≡ conds.Like c negated text
unfolding stripped_cond
stripped_like c negated text = ap stripped_cond (sym (rolls-Like c negated text)) ∙ fold-roll-Cond Cond stripped_step (Cond-F.Like c negated text)

pub stripped_null : (c : Column) (negated : Bool) → stripped_cond (conds.Null c negated) ≡ conds.Null c negated
unfolding stripped_cond
stripped_null c negated = ap stripped_cond (sym (rolls-Null c negated)) ∙ fold-roll-Cond Cond stripped_step (Cond-F.Null c negated)
