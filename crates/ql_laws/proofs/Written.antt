-- Tokens that are read again as they are written.
use Rattle.std.proofs.Common.{◌≡◌, ℕ, suc, ◌+◌, ◌<◌, Bool, true, false, ◌==◌, List, [], ◌∷◌, ◌++◌, length, take, slice_index, codes, Option, Some, None, refl, sym, ◌∙◌, ap, subst, arith, add-one, append_assoc}
use Rattle.std.specs.Option.{option_map, option_map_or}
use Rattle.std.proofs.Math.Seq.{take-append_seam}
use Rattle.std.proofs.lemmas.List.{length-append}
use Rattle.std.proofs.lemmas.Bool.Decides.{nat_tests}
use Rattle.ql_lex.specs.Words.{keyword_of}
use Rattle.ql_lex.specs.Lexes.{lexeme, is_blank, is_escapable, closing, wrong_escape, wrong_token, ends_with}
use Rattle.ql_lex.specs.declared.word.Word.{Word}
use Rattle.ql_lex.specs.declared.word.Word.TheVariants as words
use Rattle.ql_lex.specs.declared.token.Kind.{Kind}
use Rattle.ql_lex.specs.declared.token.Kind.TheVariants as kinds
use Rattle.ql_tree.specs.Texts.{escaped, is_special}
use Rattle.ql_tree.specs.Printed.{kind_text}

-- a kind that the grammar has
abbrev pub is_served : Kind → Bool
is_served (kinds.Word w) = true
is_served (kinds.Name text) = true
is_served (kinds.Quoted text) = true
is_served (kinds.Number text) = true
is_served (kinds.Decimal text) = false
is_served kinds.Wrong = false

abbrev pub IsServed : Kind → Type 0
IsServed k = is_served k ≡ true

-- nothing follows, or a blank
abbrev pub Ends : List ℕ → Type 0
Ends [] = Unit {0}
Ends (b ∷ bs) = b ≡ 32

pub by_end : (P : List ℕ → Type 0) → P [] → ((r : List ℕ) → P (32 ∷ r)) → (rest : List ℕ) → Ends rest → P rest
by_end P h k [] e = h
by_end P h k (b ∷ r) e = subst (λ c. P (c ∷ r)) (sym e) (k r)

-- What is written of the token, before a blank or the end, is read as this token, and more is read behind it.
pub record IsWritten (k : Kind) : Type 0 where
  pub some : 0 < length (kind_text k)
  pub starts : is_blank (slice_index (kind_text k) 0) ≡ false
  pub reads : (rest : List ℕ) → Ends rest → lexeme (kind_text k ++ rest) ≡ (k, length (kind_text k))
  pub whole : (at : ℕ) → ends_with k at ≡ None

pub word_written : (w : Word) → IsWritten (kinds.Word w)
unfolding lexeme keyword_of
word_written words.Select = record { some = omega arith; starts = refl; reads = by_end (λ rest. lexeme (codes "SELECT" ++ rest) ≡ (kinds.Word words.Select, length (codes "SELECT"))) refl (λ r. refl); whole = λ at. refl }
word_written words.From = record { some = omega arith; starts = refl; reads = by_end (λ rest. lexeme (codes "FROM" ++ rest) ≡ (kinds.Word words.From, length (codes "FROM"))) refl (λ r. refl); whole = λ at. refl }
word_written words.As = record { some = omega arith; starts = refl; reads = by_end (λ rest. lexeme (codes "AS" ++ rest) ≡ (kinds.Word words.As, length (codes "AS"))) refl (λ r. refl); whole = λ at. refl }
word_written words.Where = record { some = omega arith; starts = refl; reads = by_end (λ rest. lexeme (codes "WHERE" ++ rest) ≡ (kinds.Word words.Where, length (codes "WHERE"))) refl (λ r. refl); whole = λ at. refl }
word_written words.Order = record { some = omega arith; starts = refl; reads = by_end (λ rest. lexeme (codes "ORDER" ++ rest) ≡ (kinds.Word words.Order, length (codes "ORDER"))) refl (λ r. refl); whole = λ at. refl }
word_written words.By = record { some = omega arith; starts = refl; reads = by_end (λ rest. lexeme (codes "BY" ++ rest) ≡ (kinds.Word words.By, length (codes "BY"))) refl (λ r. refl); whole = λ at. refl }
word_written words.Asc = record { some = omega arith; starts = refl; reads = by_end (λ rest. lexeme (codes "ASC" ++ rest) ≡ (kinds.Word words.Asc, length (codes "ASC"))) refl (λ r. refl); whole = λ at. refl }
word_written words.Desc = record { some = omega arith; starts = refl; reads = by_end (λ rest. lexeme (codes "DESC" ++ rest) ≡ (kinds.Word words.Desc, length (codes "DESC"))) refl (λ r. refl); whole = λ at. refl }
word_written words.Or = record { some = omega arith; starts = refl; reads = by_end (λ rest. lexeme (codes "OR" ++ rest) ≡ (kinds.Word words.Or, length (codes "OR"))) refl (λ r. refl); whole = λ at. refl }
word_written words.And = record { some = omega arith; starts = refl; reads = by_end (λ rest. lexeme (codes "AND" ++ rest) ≡ (kinds.Word words.And, length (codes "AND"))) refl (λ r. refl); whole = λ at. refl }
word_written words.Not = record { some = omega arith; starts = refl; reads = by_end (λ rest. lexeme (codes "NOT" ++ rest) ≡ (kinds.Word words.Not, length (codes "NOT"))) refl (λ r. refl); whole = λ at. refl }
word_written words.Any = record { some = omega arith; starts = refl; reads = by_end (λ rest. lexeme (codes "ANY" ++ rest) ≡ (kinds.Word words.Any, length (codes "ANY"))) refl (λ r. refl); whole = λ at. refl }
word_written words.In = record { some = omega arith; starts = refl; reads = by_end (λ rest. lexeme (codes "IN" ++ rest) ≡ (kinds.Word words.In, length (codes "IN"))) refl (λ r. refl); whole = λ at. refl }
word_written words.Like = record { some = omega arith; starts = refl; reads = by_end (λ rest. lexeme (codes "LIKE" ++ rest) ≡ (kinds.Word words.Like, length (codes "LIKE"))) refl (λ r. refl); whole = λ at. refl }
word_written words.Is = record { some = omega arith; starts = refl; reads = by_end (λ rest. lexeme (codes "IS" ++ rest) ≡ (kinds.Word words.Is, length (codes "IS"))) refl (λ r. refl); whole = λ at. refl }
word_written words.Null = record { some = omega arith; starts = refl; reads = by_end (λ rest. lexeme (codes "NULL" ++ rest) ≡ (kinds.Word words.Null, length (codes "NULL"))) refl (λ r. refl); whole = λ at. refl }
word_written words.InFolder = record { some = omega arith; starts = refl; reads = by_end (λ rest. lexeme (codes "IN_FOLDER" ++ rest) ≡ (kinds.Word words.InFolder, length (codes "IN_FOLDER"))) refl (λ r. refl); whole = λ at. refl }
word_written words.InTree = record { some = omega arith; starts = refl; reads = by_end (λ rest. lexeme (codes "IN_TREE" ++ rest) ≡ (kinds.Word words.InTree, length (codes "IN_TREE"))) refl (λ r. refl); whole = λ at. refl }
word_written words.True = record { some = omega arith; starts = refl; reads = by_end (λ rest. lexeme (codes "TRUE" ++ rest) ≡ (kinds.Word words.True, length (codes "TRUE"))) refl (λ r. refl); whole = λ at. refl }
word_written words.False = record { some = omega arith; starts = refl; reads = by_end (λ rest. lexeme (codes "FALSE" ++ rest) ≡ (kinds.Word words.False, length (codes "FALSE"))) refl (λ r. refl); whole = λ at. refl }
word_written words.Timestamp = record { some = omega arith; starts = refl; reads = by_end (λ rest. lexeme (codes "TIMESTAMP" ++ rest) ≡ (kinds.Word words.Timestamp, length (codes "TIMESTAMP"))) refl (λ r. refl); whole = λ at. refl }
word_written words.Star = record { some = omega arith; starts = refl; reads = by_end (λ rest. lexeme (codes "*" ++ rest) ≡ (kinds.Word words.Star, length (codes "*"))) refl (λ r. refl); whole = λ at. refl }
word_written words.Dot = record { some = omega arith; starts = refl; reads = by_end (λ rest. lexeme (codes "." ++ rest) ≡ (kinds.Word words.Dot, length (codes "."))) refl (λ r. refl); whole = λ at. refl }
word_written words.Comma = record { some = omega arith; starts = refl; reads = by_end (λ rest. lexeme (codes "," ++ rest) ≡ (kinds.Word words.Comma, length (codes ","))) refl (λ r. refl); whole = λ at. refl }
word_written words.Open = record { some = omega arith; starts = refl; reads = by_end (λ rest. lexeme (codes "(" ++ rest) ≡ (kinds.Word words.Open, length (codes "("))) refl (λ r. refl); whole = λ at. refl }
word_written words.Close = record { some = omega arith; starts = refl; reads = by_end (λ rest. lexeme (codes ")" ++ rest) ≡ (kinds.Word words.Close, length (codes ")"))) refl (λ r. refl); whole = λ at. refl }
word_written words.Equal = record { some = omega arith; starts = refl; reads = by_end (λ rest. lexeme (codes "=" ++ rest) ≡ (kinds.Word words.Equal, length (codes "="))) refl (λ r. refl); whole = λ at. refl }
word_written words.NotEqual = record { some = omega arith; starts = refl; reads = by_end (λ rest. lexeme (codes "<>" ++ rest) ≡ (kinds.Word words.NotEqual, length (codes "<>"))) refl (λ r. refl); whole = λ at. refl }
word_written words.Less = record { some = omega arith; starts = refl; reads = by_end (λ rest. lexeme (codes "<" ++ rest) ≡ (kinds.Word words.Less, length (codes "<"))) refl (λ r. refl); whole = λ at. refl }
word_written words.Greater = record { some = omega arith; starts = refl; reads = by_end (λ rest. lexeme (codes ">" ++ rest) ≡ (kinds.Word words.Greater, length (codes ">"))) refl (λ r. refl); whole = λ at. refl }
word_written words.LessEqual = record { some = omega arith; starts = refl; reads = by_end (λ rest. lexeme (codes "<=" ++ rest) ≡ (kinds.Word words.LessEqual, length (codes "<="))) refl (λ r. refl); whole = λ at. refl }
word_written words.GreaterEqual = record { some = omega arith; starts = refl; reads = by_end (λ rest. lexeme (codes ">=" ++ rest) ≡ (kinds.Word words.GreaterEqual, length (codes ">="))) refl (λ r. refl); whole = λ at. refl }

-- a byte that no backslash stands before, and that is no quote or backslash
plain_closing : (b : ℕ) (bs : List ℕ) → is_special b ≡ false → closing false (b ∷ bs) ≡ option_map (λ n. n + 1) (closing false bs)
plain_closing b bs h = let q : (b == 39) ≡ false = grind (arith, nat_tests) in let s : (b == 92) ≡ false = grind (arith, nat_tests) in rw (q, s) refl

some_more : (o : Option ℕ) (n : ℕ) → o ≡ Some n → option_map (λ m. m + 1) o ≡ Some (suc n)
some_more o n e = ap (option_map (λ m. m + 1)) e ∙ ap Some (add-one n)

closes_step : (b : ℕ) (bs rest : List ℕ) (v : Bool) → is_special b ≡ v → closing false ((escaped bs ++ 39 ∷ []) ++ rest) ≡ Some (length (escaped bs))
    → closing false ((escaped (b ∷ bs) ++ 39 ∷ []) ++ rest) ≡ Some (length (escaped (b ∷ bs)))
closes_step b bs rest true h e = rw h (some_more (option_map (λ m. m + 1) (closing false ((escaped bs ++ 39 ∷ []) ++ rest))) (suc (length (escaped bs))) (some_more (closing false ((escaped bs ++ 39 ∷ []) ++ rest)) (length (escaped bs)) e))
closes_step b bs rest false h e = rw h (plain_closing b ((escaped bs ++ 39 ∷ []) ++ rest) h ∙ some_more (closing false ((escaped bs ++ 39 ∷ []) ++ rest)) (length (escaped bs)) e)

-- a text as it is written is closed behind its end
escaped_closes : (bs rest : List ℕ) → closing false ((escaped bs ++ 39 ∷ []) ++ rest) ≡ Some (length (escaped bs))
escaped_closes [] rest = refl
escaped_closes (b ∷ bs) rest = closes_step b bs rest (is_special b) refl (escaped_closes bs rest)

special_escapable : (b : ℕ) → is_special b ≡ true → is_escapable b ≡ true
special_escapable b h = grind (arith, nat_tests)

plain_backslash : (b : ℕ) → is_special b ≡ false → (b == 92) ≡ false
plain_backslash b h = grind (arith, nat_tests)

escapes_step : (b : ℕ) (bs : List ℕ) (n : ℕ) (v : Bool) → is_special b ≡ v → ((m : ℕ) → wrong_escape m false (escaped bs) ≡ None) → wrong_escape n false (escaped (b ∷ bs)) ≡ None
escapes_step b bs n true h e = let k : is_escapable b ≡ true = special_escapable b h in rw h (rw k (e (n + 1 + 1)))
escapes_step b bs n false h e = let k : (b == 92) ≡ false = plain_backslash b h in rw h (rw k (e (n + 1)))

-- and each of its backslashes may stand there
escaped_escapes : (bs : List ℕ) (n : ℕ) → wrong_escape n false (escaped bs) ≡ None
escaped_escapes [] n = refl
escaped_escapes (b ∷ bs) n = escapes_step b bs n (is_special b) refl (λ m. escaped_escapes bs m)

-- a text that is closed behind its end, and whose backslashes may stand there
pub quoted_written : (raw : List ℕ) → ((rest : List ℕ) → closing false ((raw ++ 39 ∷ []) ++ rest) ≡ Some (length raw)) → ((n : ℕ) → wrong_escape n false raw ≡ None) → IsWritten (kinds.Quoted raw)
unfolding lexeme
quoted_written raw closes escapes = record {
  some = omega arith;
  starts = refl;
  reads = λ rest e. quoted_read rest;
  whole = λ at. ap (option_map wrong_token) (escapes (at + 1));
}
  where
    quoted_size : length raw + 2 ≡ suc (length (raw ++ 39 ∷ []))
    quoted_size = omega (arith, length-append raw (39 ∷ []))

    quoted_text : (rest : List ℕ) → take (length raw) ((raw ++ 39 ∷ []) ++ rest) ≡ raw
    quoted_text rest = ap (take (length raw)) (append_assoc raw (39 ∷ []) rest) ∙ take-append_seam raw (39 ∷ rest)

    quoted_read : (rest : List ℕ) → lexeme (39 ∷ ((raw ++ 39 ∷ []) ++ rest)) ≡ (kinds.Quoted raw, suc (length (raw ++ 39 ∷ [])))
    quoted_read rest =
        ap (λ o. option_map_or (λ n. (kinds.Quoted (take n ((raw ++ 39 ∷ []) ++ rest)), n + 2)) o (kinds.Wrong, 1)) (closes rest)
        ∙ ap (λ t. (kinds.Quoted t, length raw + 2)) (quoted_text rest) ∙ ap (λ n. (kinds.Quoted raw, n)) quoted_size

pub escaped_written : (bs : List ℕ) → IsWritten (kinds.Quoted (escaped bs))
escaped_written bs = quoted_written (escaped bs) (λ rest. escaped_closes bs rest) (λ n. escaped_escapes bs n)
