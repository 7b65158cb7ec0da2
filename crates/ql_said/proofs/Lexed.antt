-- Each text has tokens.
use Rattle.std.proofs.Common.{◌≡◌, ℕ, zero, suc, ◌+◌, ◌<◌, ◌≤◌, ◌==◌, Bool, true, false, ◌||◌, nat_lt, List, [], ◌∷◌, length, take, drop, slice_index, Option, Some, None, inl, inr, refl, arith}
use Rattle.std.specs.List.{prefix_len}
use Rattle.std.proofs.lemmas.Bool.Decides.{nat_tests}
use Rattle.std.proofs.lemmas.List.{length-drop}
use Rattle.std.proofs.lemmas.List.Folds.{length-prefix_len}
use Rattle.ql_lex.specs.Lexes.{Lexes, Follow, begins_name, is_name_byte, is_digit, blanks, lexeme, name_lexeme, quoted_lexeme, closing, number_lexeme, digits_lexeme, whole_len, minus_len, fraction_len, sign_at, ends_with}
use Rattle.ql_lex.specs.declared.token.Token.{Token}

pub by_test : {A : Type 0} (b : Bool) → (b ≡ true → A) → (b ≡ false → A) → A
by_test true f g = f refl
by_test false f g = g refl

-- ---- a token takes a byte at least

name_takes : (text : List ℕ) → begins_name (slice_index text 0) ≡ true → 0 < (name_lexeme (take (prefix_len is_name_byte text) text)).1
name_takes [] h = absurd cc
name_takes (b ∷ bs) h =
    let passes : is_name_byte b ≡ true = rw h refl in
    let long : prefix_len is_name_byte (b ∷ bs) ≡ 1 + prefix_len is_name_byte bs = rw passes refl in
    omega (arith, long, length-prefix_len is_name_byte (b ∷ bs))

quoted_takes : (bytes : List ℕ) → 0 < (quoted_lexeme bytes).1
quoted_takes bytes = by (closing false bytes) refl
  where
    by : (o : Option ℕ) → closing false bytes ≡ o → 0 < (quoted_lexeme bytes).1
    by None e = rw e (omega arith)
    by (Some n) e = rw e (omega arith)

digits_take : (text : List ℕ) (whole fraction : ℕ) → 0 < whole → 0 < (digits_lexeme text whole fraction).1
digits_take text whole fraction h = by_test (fraction == 0) (λ e. rw e h) (λ e. rw e (omega arith))

number_takes : (text : List ℕ) → 0 < (number_lexeme text).1
number_takes text = by_test (whole_len text == minus_len text)
    (λ e. rw e (omega arith))
    (λ e. rw e (digits_take text (whole_len text) (fraction_len (drop (whole_len text) text)) (grind (arith, nat_tests, e))))

sign_takes : (b next : ℕ) → 0 < (sign_at b next).1
sign_takes b next =
    by_test (b == 42) (λ e. rw e (omega arith)) (λ e1.
    by_test (b == 46) (λ e. rw (e1, e) (omega arith)) (λ e2.
    by_test (b == 44) (λ e. rw (e1, e2, e) (omega arith)) (λ e3.
    by_test (b == 40) (λ e. rw (e1, e2, e3, e) (omega arith)) (λ e4.
    by_test (b == 41) (λ e. rw (e1, e2, e3, e4, e) (omega arith)) (λ e5.
    by_test (b == 61) (λ e. rw (e1, e2, e3, e4, e5, e) (omega arith)) (λ e6.
    by_test (b == 60) (λ e. rw (e1, e2, e3, e4, e5, e6, e) (by_test (next == 62) (λ f. rw f (omega arith)) (λ f. rw f (by_test (next == 61) (λ g. rw g (omega arith)) (λ g. rw g (omega arith)))))) (λ e7.
    by_test (b == 62) (λ e. rw (e1, e2, e3, e4, e5, e6, e7, e) (by_test (next == 61) (λ g. rw g (omega arith)) (λ g. rw g (omega arith)))) (λ e8.
    rw (e1, e2, e3, e4, e5, e6, e7, e8) (omega arith)))))))))

takes : (text : List ℕ) → 0 < (lexeme text).1
unfolding lexeme
takes text = by_test (begins_name (slice_index text 0))
    (λ e. rw e (name_takes text e))
    (λ e1. by_test (slice_index text 0 == 39)
    (λ e. rw (e1, e) (quoted_takes (drop 1 text)))
    (λ e2. by_test (is_digit (slice_index text 0) || slice_index text 0 == 45)
    (λ e. rw (e1, e2, e) (number_takes text))
    (λ e3. rw (e1, e2, e3) (sign_takes (slice_index text 0) (slice_index text 1)))))

-- ---- tokens one after the other

abbrev Lexed : ℕ → ℕ → List ℕ → Type 0
Lexed limit n text = (ts : List Token) × Lexes limit n text ts

-- of what stands behind a token
abbrev Behind : ℕ → ℕ → Type 0
Behind limit size = (n : ℕ) (text : List ℕ) → length text ≤ size → Lexed limit n text

follow_lexed : (o : Option (List Token)) (limit n : ℕ) (text : List ℕ) → Lexed limit n text → (ts : List Token) × Follow o ts (Lexes limit n text ts)
follow_lexed None limit n text h = h
follow_lexed (Some last) limit n text h = (last, refl)

module _ (limit n : ℕ) (text : List ℕ) where
  next_token : (size : ℕ) → Behind limit size → length text ≤ suc size → 0 < length (drop (blanks text) text) → n + blanks text < limit → Lexed limit n text
  next_token size more l some within =
      let rest : List ℕ = drop (blanks text) text in
      let at : ℕ = n + blanks text in
      let left : List ℕ = drop (lexeme rest).1 rest in
      let small : length left ≤ size = omega (arith, l, some, takes rest, length-drop (lexeme rest).1 rest, length-drop (blanks text) text) in
      let behind = follow_lexed (ends_with (lexeme rest).0 at) limit (at + (lexeme rest).1) left (more (at + (lexeme rest).1) left small) in
      (record { kind = (lexeme rest).0; at = at } ∷ behind.0, (some, within, refl, behind.1))

  lexed_step : (size : ℕ) → Behind limit size → length text ≤ suc size → Lexed limit n text
  lexed_step size more l =
      by_test (length (drop (blanks text) text) == 0)
      (λ e. ([], inl (grind (arith, nat_tests, e))))
      (λ e. by_test (nat_lt (n + blanks text) limit)
      (λ d. next_token size more l (grind (arith, nat_tests, e)) (grind (arith, nat_tests, d)))
      (λ d. ([], inr (grind (arith, nat_tests, d)))))

  no_bytes : length text ≤ 0 → Lexed limit n text
  no_bytes l = ([], inl (omega (arith, l, length-drop (blanks text) text)))

lexed_by : (limit size : ℕ) → Behind limit size
lexed_by limit zero n text l = no_bytes limit n text l
lexed_by limit (suc size) n text l = lexed_step limit n text size (lexed_by limit size) l

pub lexed : (limit n : ℕ) (text : List ℕ) → (ts : List Token) × Lexes limit n text ts
lexed limit n text = lexed_by limit (length text) n text (omega arith)
