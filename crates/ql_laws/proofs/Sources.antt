-- The tokens of a text that the grammar has can be written.
use Rattle.std.proofs.Common.{◌≡◌, ℕ, suc, ◌+◌, ◌-◌, ◌<◌, Bool, true, false, not, ◌&&◌, ◌||◌, ◌==◌, List, [], ◌∷◌, ◌++◌, length, take, drop, slice_index, Option, Some, None, refl, sym, ◌∙◌, ap, subst, arith, add-one, zero-add, if◌then◌else◌}
use Rattle.std.specs.Option.{option_map, option_map_or}
use Rattle.std.specs.List.{prefix_len}
use Rattle.std.proofs.Math.Seq.{take-append_seam}
use Rattle.std.proofs.lemmas.List.Folds.{length-prefix_len}
use Rattle.std.proofs.lemmas.Bool.Decides.{nat_tests}
use Rattle.grammar_rules.proofs.Carried.{Each}
use Rattle.ql_lex.specs.Words.{keyword_of}
use Rattle.ql_lex.specs.Lexes.{Lexes, Follow, Lexeme, lexeme, name_lexeme, quoted_lexeme, number_lexeme, digits_lexeme, sign_at, sign_lexeme, minus_len, whole_len, fraction_len, blanks, begins_name, is_name_byte, is_digit, is_blank, is_escapable, closing, wrong_escape, wrong_token, ends_with}
use Rattle.ql_lex.specs.declared.word.Word.{Word}
use Rattle.ql_lex.specs.declared.word.Word.TheVariants as words
use Rattle.ql_lex.specs.declared.token.Kind.{Kind}
use Rattle.ql_lex.specs.declared.token.Kind.TheVariants as kinds
use Rattle.ql_lex.specs.declared.token.Token.{Token}
use Rattle.ql_laws.proofs.Written.{IsServed, IsWritten, Ends, by_end, word_written, quoted_written}

one_more : (n : ℕ) → 1 + n ≡ suc n
one_more n = omega arith

-- a run of bytes that pass, before a blank or the end
module _ (p : ℕ → Bool) (blank : p 32 ≡ false) where
  run_end : (rest : List ℕ) → Ends rest → prefix_len p rest ≡ 0
  run_end = by_end (λ rest. prefix_len p rest ≡ 0) refl (λ r. ap (λ v. if v then 1 + prefix_len p r else 0) blank)

  abbrev run : List ℕ → List ℕ
  run bs = take (prefix_len p bs) bs

  more : (b : ℕ) (bs : List ℕ) → p b ≡ true → prefix_len p (b ∷ bs) ≡ suc (prefix_len p bs)
  more b bs h = ap (λ v. if v then 1 + prefix_len p bs else 0) h ∙ one_more (prefix_len p bs)

  run_more : (b : ℕ) (bs : List ℕ) → p b ≡ true → run (b ∷ bs) ≡ b ∷ run bs
  run_more b bs h = ap (λ n. take n (b ∷ bs)) (more b bs h)

  run_none : (b : ℕ) (bs : List ℕ) → p b ≡ false → run (b ∷ bs) ≡ []
  run_none b bs h = ap (λ n. take n (b ∷ bs)) (ap (λ v. if v then 1 + prefix_len p bs else 0) h)

  run_step : (b : ℕ) (bs rest : List ℕ) (v : Bool) → p b ≡ v → Ends rest → prefix_len p (run bs ++ rest) ≡ length (run bs) → prefix_len p (run (b ∷ bs) ++ rest) ≡ length (run (b ∷ bs))
  run_step b bs rest true h e inner = subst (λ s. prefix_len p (s ++ rest) ≡ length s) (sym (run_more b bs h)) (more b (run bs ++ rest) h ∙ ap suc inner)
  run_step b bs rest false h e inner = subst (λ s. prefix_len p (s ++ rest) ≡ length s) (sym (run_none b bs h)) (run_end rest e)

  -- it is found again
  pub run_kept : (bs rest : List ℕ) → Ends rest → prefix_len p (run bs ++ rest) ≡ length (run bs)
  run_kept [] rest e = run_end rest e
  run_kept (b ∷ bs) rest e = run_step b bs rest (p b) refl e (run_kept bs rest e)

take_run : (us rest : List ℕ) (n : ℕ) → n ≡ length us → take n (us ++ rest) ≡ us
take_run us rest n e = ap (λ m. take m (us ++ rest)) e ∙ take-append_seam us rest

drop_run : (us rest : List ℕ) → drop (length us) (us ++ rest) ≡ rest
drop_run [] rest = refl
drop_run (u ∷ us) rest = drop_run us rest

-- names
name_begins : (b : ℕ) → begins_name b ≡ true → is_name_byte b ≡ true
name_begins b h = grind (arith, nat_tests)

name_is_no_blank : (b : ℕ) → begins_name b ≡ true → is_blank b ≡ false
name_is_no_blank b h = grind (arith, nat_tests)

-- what begins with no name
abbrev nameless : List ℕ → Lexeme
nameless text = if slice_index text 0 == 39 then quoted_lexeme (drop 1 text) else if is_digit (slice_index text 0) || slice_index text 0 == 45 then number_lexeme text else sign_at (slice_index text 0) (slice_index text 1)

name_written : (b : ℕ) (bs : List ℕ) → begins_name b ≡ true → keyword_of (b ∷ run is_name_byte refl bs) ≡ None → IsWritten (kinds.Name (b ∷ run is_name_byte refl bs))
unfolding lexeme
name_written b bs h none = record {
  some = omega arith;
  starts = name_is_no_blank b h;
  reads = name_read;
  whole = λ at. refl;
}
  where
    us : List ℕ
    us = run is_name_byte refl bs

    size : (rest : List ℕ) → Ends rest → prefix_len is_name_byte (b ∷ (us ++ rest)) ≡ suc (length us)
    size rest e = more is_name_byte refl b (us ++ rest) (name_begins b h) ∙ ap suc (run_kept is_name_byte refl bs rest e)

    bytes : (rest : List ℕ) → Ends rest → take (prefix_len is_name_byte (b ∷ (us ++ rest))) (b ∷ (us ++ rest)) ≡ b ∷ us
    bytes rest e = ap (λ n. take n (b ∷ (us ++ rest))) (size rest e) ∙ ap (λ s. b ∷ s) (take_run us rest (length us) refl)

    name_read : (rest : List ℕ) → Ends rest → lexeme (b ∷ (us ++ rest)) ≡ (kinds.Name (b ∷ us), suc (length us))
    name_read rest e =
        ap (λ v. if v then name_lexeme (take (prefix_len is_name_byte (b ∷ (us ++ rest))) (b ∷ (us ++ rest))) else nameless (b ∷ (us ++ rest))) h
        ∙ ap name_lexeme (bytes rest e) ∙ ap (λ o. (option_map_or (λ w. kinds.Word w) o (kinds.Name (b ∷ us)), suc (length us))) none

abbrev kind_of : Lexeme → Kind
kind_of x = x.0

-- What is served of a text, and whole, can be written.
abbrev Good : Kind → Type 0
Good k = IsServed k → (at : ℕ) → ends_with k at ≡ None → IsWritten k

good_word : (w : Word) → Good (kinds.Word w)
good_word w served at whole = word_written w

good_wrong : Good kinds.Wrong
good_wrong served at whole = absurd cc

good_if : (v : Bool) (x y : Lexeme) → Good (kind_of x) → Good (kind_of y) → Good (kind_of (if v then x else y))
good_if true x y h k = h
good_if false x y h k = k

good_name : (b : ℕ) (bs : List ℕ) → begins_name b ≡ true → (o : Option Word) → keyword_of (b ∷ run is_name_byte refl bs) ≡ o → Good (option_map_or (λ w. kinds.Word w) o (kinds.Name (b ∷ run is_name_byte refl bs)))
good_name b bs h None e served at whole = name_written b bs h e
good_name b bs h (Some w) e served at whole = word_written w

good_name_lexeme : (b : ℕ) (bs : List ℕ) → begins_name b ≡ true → Good (kind_of (name_lexeme (take (prefix_len is_name_byte (b ∷ bs)) (b ∷ bs))))
good_name_lexeme b bs h =
    subst (λ s. Good (kind_of (name_lexeme s))) (sym (run_more is_name_byte refl b bs (name_begins b h))) (good_name b bs h (keyword_of (b ∷ run is_name_byte refl bs)) refl)

-- texts
abbrev Closes : Bool → List ℕ → ℕ → Type 0
Closes escaped bs n = ((rest : List ℕ) → closing escaped ((take n bs ++ 39 ∷ []) ++ rest) ≡ Some n) × (length (take n bs) ≡ n)

plus_one : (o : Option ℕ) (n : ℕ) → option_map (λ m. m + 1) o ≡ Some n → (m : ℕ) × (o ≡ Some m) × (n ≡ suc m)
plus_one None n e = absurd cc
plus_one (Some m) n e = (m, refl, (let f : m + 1 ≡ n = cc in sym f ∙ add-one m))

closed_here : (escaped : Bool) (b : ℕ) (rest : List ℕ) → (not escaped && b == 39) ≡ true → closing escaped (39 ∷ rest) ≡ Some 0
closed_here true b rest h = absurd cc
closed_here false b rest h = refl

closes_step : (b : ℕ) (bs : List ℕ) (escaped : Bool) (n : ℕ) (v : Bool) → (not escaped && b == 39) ≡ v → closing escaped (b ∷ bs) ≡ Some n
    → ((m : ℕ) → closing (not escaped && b == 92) bs ≡ Some m → Closes (not escaped && b == 92) bs m) → Closes escaped (b ∷ bs) n
closes_step b bs escaped n true h e inner =
    let found : Some 0 ≡ Some n = sym (ap (λ v. if v then Some 0 else option_map (λ m. m + 1) (closing (not escaped && b == 92) bs)) h) ∙ e in
    let zero_n : 0 ≡ n = cc in
    subst (Closes escaped (b ∷ bs)) zero_n (λ rest. closed_here escaped b rest h, refl)
closes_step b bs escaped n false h e inner =
    let found : option_map (λ m. m + 1) (closing (not escaped && b == 92) bs) ≡ Some n = sym (ap (λ v. if v then Some 0 else option_map (λ m. m + 1) (closing (not escaped && b == 92) bs)) h) ∙ e in
    let m : (m : ℕ) × (closing (not escaped && b == 92) bs ≡ Some m) × (n ≡ suc m) = plus_one (closing (not escaped && b == 92) bs) n found in
    let below : Closes (not escaped && b == 92) bs m.0 = inner m.0 m.1 in
    subst (Closes escaped (b ∷ bs)) (sym m.2) (
      (λ rest.
          ap (λ v. if v then Some 0 else option_map (λ k. k + 1) (closing (not escaped && b == 92) ((take m.0 bs ++ 39 ∷ []) ++ rest))) h
          ∙ ap (option_map (λ k. k + 1)) (below.0 rest) ∙ ap Some (add-one m.0)),
      ap suc below.1,
    )

closes_again : (bs : List ℕ) (escaped : Bool) (n : ℕ) → closing escaped bs ≡ Some n → Closes escaped bs n
closes_again [] escaped n e = absurd cc
closes_again (b ∷ bs) escaped n e = closes_step b bs escaped n (not escaped && b == 39) refl e (λ m h. closes_again bs (not escaped && b == 92) m h)

escape_step : (b : ℕ) (bs : List ℕ) (escaped : Bool) (n m : ℕ) (v : Bool) → (escaped && not (is_escapable b)) ≡ v → wrong_escape n escaped (b ∷ bs) ≡ None
    → ((i j : ℕ) → wrong_escape i (not escaped && b == 92) bs ≡ None → wrong_escape j (not escaped && b == 92) bs ≡ None) → wrong_escape m escaped (b ∷ bs) ≡ None
escape_step b bs escaped n m true h e inner =
    let found : Some (n - 1) ≡ None = sym (ap (λ v. if v then Some (n - 1) else wrong_escape (n + 1) (not escaped && b == 92) bs) h) ∙ e in absurd cc
escape_step b bs escaped n m false h e inner =
    let below : wrong_escape (n + 1) (not escaped && b == 92) bs ≡ None = sym (ap (λ v. if v then Some (n - 1) else wrong_escape (n + 1) (not escaped && b == 92) bs) h) ∙ e in
    ap (λ v. if v then Some (m - 1) else wrong_escape (m + 1) (not escaped && b == 92) bs) h ∙ inner (n + 1) (m + 1) below

-- whether a backslash may not stand in a text doesn't go by its offset
escape_anywhere : (bs : List ℕ) (escaped : Bool) (n m : ℕ) → wrong_escape n escaped bs ≡ None → wrong_escape m escaped bs ≡ None
escape_anywhere [] escaped n m e = refl
escape_anywhere (b ∷ bs) escaped n m e = escape_step b bs escaped n m (escaped && not (is_escapable b)) refl e (λ i j h. escape_anywhere bs (not escaped && b == 92) i j h)

no_token : (o : Option ℕ) → option_map wrong_token o ≡ None → o ≡ None
no_token None e = refl
no_token (Some n) e = absurd cc

good_quoted : (bs : List ℕ) (o : Option ℕ) → closing false bs ≡ o → Good (kind_of (option_map_or (λ n. (kinds.Quoted (take n bs), n + 2)) o (kinds.Wrong, 1)))
good_quoted bs None e served at whole = absurd cc
good_quoted bs (Some n) e served at whole =
    let closed : Closes false bs n = closes_again bs false n e in
    quoted_written (take n bs) (λ rest. closed.0 rest ∙ ap Some (sym closed.1)) (λ m. escape_anywhere (take n bs) false (at + 1) m (no_token (wrong_escape (at + 1) false (take n bs)) whole))

-- numbers
no_fraction : (rest : List ℕ) → Ends rest → fraction_len rest ≡ 0
no_fraction = by_end (λ rest. fraction_len rest ≡ 0) refl (λ r. refl)

number_read : (b : ℕ) (us rest : List ℕ) (m : ℕ) → Ends rest → whole_len (b ∷ (us ++ rest)) ≡ suc (length us) → minus_len (b ∷ (us ++ rest)) ≡ m → (suc (length us) == m) ≡ false
    → number_lexeme (b ∷ (us ++ rest)) ≡ (kinds.Number (b ∷ us), suc (length us))
number_read b us rest m e whole minus differ =
    let t : List ℕ = b ∷ (us ++ rest) in
    ap (λ w. if w == minus_len t then (kinds.Wrong, 1) else digits_lexeme t w (fraction_len (drop w t))) whole
    ∙ ap (λ n. if suc (length us) == n then (kinds.Wrong, 1) else digits_lexeme t (suc (length us)) (fraction_len (drop (suc (length us)) t))) minus
    ∙ ap (λ v. if v then (kinds.Wrong, 1) else digits_lexeme t (suc (length us)) (fraction_len (drop (suc (length us)) t))) differ
    ∙ ap (λ r. digits_lexeme t (suc (length us)) (fraction_len r)) (drop_run us rest)
    ∙ ap (digits_lexeme t (suc (length us))) (no_fraction rest e)
    ∙ ap (λ s. (kinds.Number (b ∷ s), suc (length us))) (take_run us rest (length us) refl)

abbrev begins_number : ℕ → Bool
begins_number b = is_digit b || b == 45

number_is_no_blank : (b : ℕ) → begins_number b ≡ true → is_blank b ≡ false
number_is_no_blank b h = grind (arith, nat_tests)

number_written : (b : ℕ) (us : List ℕ) (m : ℕ) → begins_name b ≡ false → (b == 39) ≡ false → begins_number b ≡ true
    → ((rest : List ℕ) → Ends rest → whole_len (b ∷ (us ++ rest)) ≡ suc (length us)) → ((rest : List ℕ) → minus_len (b ∷ (us ++ rest)) ≡ m) → (suc (length us) == m) ≡ false → IsWritten (kinds.Number (b ∷ us))
unfolding lexeme
number_written b us m no_name no_quote h whole minus differ = record {
  some = omega arith;
  starts = number_is_no_blank b h;
  reads = λ rest e. rw (no_name, no_quote, h) (number_read b us rest m e (whole rest e) (minus rest) differ);
  whole = λ at. refl;
}

run_length : (bs : List ℕ) → length (run is_digit refl bs) ≡ prefix_len is_digit bs
run_length bs = length-prefix_len is_digit bs

-- the number at the front of a text
good_digits : (b : ℕ) (bs : List ℕ) (us : List ℕ) (fraction : ℕ) → take (whole_len (b ∷ bs)) (b ∷ bs) ≡ b ∷ us → IsWritten (kinds.Number (b ∷ us)) → (v : Bool) → (fraction == 0) ≡ v → Good (kind_of (digits_lexeme (b ∷ bs) (whole_len (b ∷ bs)) fraction))
good_digits b bs us fraction e written true h served at whole =
    subst IsWritten (sym (ap (λ v. kind_of (if v then (kinds.Number (take (whole_len (b ∷ bs)) (b ∷ bs)), whole_len (b ∷ bs)) else (kinds.Decimal (take (whole_len (b ∷ bs) + 1 + fraction) (b ∷ bs)), whole_len (b ∷ bs) + 1 + fraction))) h ∙ ap kinds.Number e)) written
good_digits b bs us fraction e written false h served at whole =
    absurd (let k : IsServed (kinds.Decimal (take (whole_len (b ∷ bs) + 1 + fraction) (b ∷ bs))) =
    subst IsServed (ap (λ v. kind_of (if v then (kinds.Number (take (whole_len (b ∷ bs)) (b ∷ bs)), whole_len (b ∷ bs)) else (kinds.Decimal (take (whole_len (b ∷ bs) + 1 + fraction) (b ∷ bs)), whole_len (b ∷ bs) + 1 + fraction))) h) served in cc)

good_number : (b : ℕ) (bs : List ℕ) (us : List ℕ) → take (whole_len (b ∷ bs)) (b ∷ bs) ≡ b ∷ us → (v : Bool) → (whole_len (b ∷ bs) == minus_len (b ∷ bs)) ≡ v → ((whole_len (b ∷ bs) == minus_len (b ∷ bs)) ≡ false → IsWritten (kinds.Number (b ∷ us))) → Good (kind_of (number_lexeme (b ∷ bs)))
good_number b bs us e true h written = subst (λ v. Good (kind_of (if v then (kinds.Wrong, 1) else digits_lexeme (b ∷ bs) (whole_len (b ∷ bs)) (fraction_len (drop (whole_len (b ∷ bs)) (b ∷ bs)))))) (sym h) good_wrong
good_number b bs us e false h written =
    subst (λ v. Good (kind_of (if v then (kinds.Wrong, 1) else digits_lexeme (b ∷ bs) (whole_len (b ∷ bs)) (fraction_len (drop (whole_len (b ∷ bs)) (b ∷ bs)))))) (sym h)
    (good_digits b bs us (fraction_len (drop (whole_len (b ∷ bs)) (b ∷ bs))) e (written h) (fraction_len (drop (whole_len (b ∷ bs)) (b ∷ bs)) == 0) refl)

minus_of : (b : ℕ) (X : List ℕ) (v : Bool) → (b == 45) ≡ v → minus_len (b ∷ X) ≡ (if v then 1 else 0)
minus_of b X v h = ap (λ u. if u then 1 else 0) h

whole_of : (b : ℕ) (X : List ℕ) (v : Bool) → (b == 45) ≡ v → whole_len (b ∷ X) ≡ (if v then 1 else 0) + prefix_len is_digit (drop (if v then 1 else 0) (b ∷ X))
whole_of b X v h = ap (λ u. (if u then 1 else 0) + prefix_len is_digit (drop (if u then 1 else 0) (b ∷ X))) h

digit_of : (b : ℕ) → begins_number b ≡ true → (b == 45) ≡ false → is_digit b ≡ true
digit_of b h k = grind (arith, nat_tests)

suc_not_zero : (n : ℕ) → (suc n == 0) ≡ false
suc_not_zero n = grind (arith, nat_tests)

good_signed : (b : ℕ) (bs : List ℕ) → begins_name b ≡ false → (b == 39) ≡ false → begins_number b ≡ true → (v : Bool) → (b == 45) ≡ v → Good (kind_of (number_lexeme (b ∷ bs)))
good_signed b bs no_name no_quote h true k =
    let us : List ℕ = run is_digit refl bs in
    let size : whole_len (b ∷ bs) ≡ suc (prefix_len is_digit bs) = whole_of b bs true k ∙ one_more (prefix_len is_digit bs) in
    good_number b bs us (ap (λ n. take n (b ∷ bs)) size) (whole_len (b ∷ bs) == minus_len (b ∷ bs)) refl
    (λ differ. number_written b us 1 no_name no_quote h
    (λ rest e. whole_of b (us ++ rest) true k ∙ one_more (prefix_len is_digit (us ++ rest)) ∙ ap suc (run_kept is_digit refl bs rest e))
    (λ rest. minus_of b (us ++ rest) true k)
    (ap (λ n. n == 1) (ap suc (run_length bs) ∙ sym size) ∙ ap (λ n. whole_len (b ∷ bs) == n) (sym (minus_of b bs true k)) ∙ differ))
good_signed b bs no_name no_quote h false k =
    let us : List ℕ = run is_digit refl bs in
    let digit : is_digit b ≡ true = digit_of b h k in
    let size : whole_len (b ∷ bs) ≡ suc (prefix_len is_digit bs) = whole_of b bs false k ∙ zero-add (prefix_len is_digit (b ∷ bs)) ∙ more is_digit refl b bs digit in
    good_number b bs us (ap (λ n. take n (b ∷ bs)) size) (whole_len (b ∷ bs) == minus_len (b ∷ bs)) refl
    (λ differ. number_written b us 0 no_name no_quote h
    (λ rest e. whole_of b (us ++ rest) false k ∙ zero-add (prefix_len is_digit (b ∷ (us ++ rest))) ∙ more is_digit refl b (us ++ rest) digit ∙ ap suc (run_kept is_digit refl bs rest e))
    (λ rest. minus_of b (us ++ rest) false k) (suc_not_zero (length us)))

-- signs
good_sign : (b next : ℕ) → Good (kind_of (sign_at b next))
good_sign b next =
    good_if (b == 42) (sign_lexeme words.Star 1) _ (good_word words.Star)
    (good_if (b == 46) (sign_lexeme words.Dot 1) _ (good_word words.Dot)
    (good_if (b == 44) (sign_lexeme words.Comma 1) _ (good_word words.Comma)
    (good_if (b == 40) (sign_lexeme words.Open 1) _ (good_word words.Open)
    (good_if (b == 41) (sign_lexeme words.Close 1) _ (good_word words.Close)
    (good_if (b == 61) (sign_lexeme words.Equal 1) _ (good_word words.Equal)
    (good_if (b == 60) _ _
    (good_if (next == 62) (sign_lexeme words.NotEqual 2) _ (good_word words.NotEqual) (good_if (next == 61) (sign_lexeme words.LessEqual 2) (sign_lexeme words.Less 1) (good_word words.LessEqual) (good_word words.Less)))
    (good_if (b == 62) _ (kinds.Wrong, 1) (good_if (next == 61) (sign_lexeme words.GreaterEqual 2) (sign_lexeme words.Greater 1) (good_word words.GreaterEqual) (good_word words.Greater)) good_wrong)))))))

good_rest : (b : ℕ) (bs : List ℕ) → begins_name b ≡ false → (v w : Bool) → (b == 39) ≡ v → begins_number b ≡ w
    → Good (kind_of (if v then quoted_lexeme bs else if w then number_lexeme (b ∷ bs) else sign_at b (slice_index (b ∷ bs) 1)))
good_rest b bs no_name true w h k = good_quoted bs (closing false bs) refl
good_rest b bs no_name false true h k = good_signed b bs no_name h k (b == 45) refl
good_rest b bs no_name false false h k = good_sign b (slice_index (b ∷ bs) 1)

good_begin : (b : ℕ) (bs : List ℕ) (v : Bool) → begins_name b ≡ v → Good (kind_of (lexeme (b ∷ bs)))
unfolding lexeme
good_begin b bs true h = subst (λ v. Good (kind_of (if v then name_lexeme (take (prefix_len is_name_byte (b ∷ bs)) (b ∷ bs)) else nameless (b ∷ bs)))) (sym h) (good_name_lexeme b bs h)
good_begin b bs false h =
    subst (λ v. Good (kind_of (if v then name_lexeme (take (prefix_len is_name_byte (b ∷ bs)) (b ∷ bs)) else nameless (b ∷ bs)))) (sym h) (good_rest b bs h (b == 39) (begins_number b) refl refl)

good_lexeme : (text : List ℕ) → 0 < length text → Good (kind_of (lexeme text))
good_lexeme [] some = absurd (omega arith)
good_lexeme (b ∷ bs) some = good_begin b bs (begins_name b) refl

-- a token that nothing but a wrong one follows
last_wrong : (k : Kind) (at : ℕ) (last : List Token) → IsServed k → ends_with k at ≡ Some last → (place : ℕ) × (last ≡ wrong_token place)
last_wrong (kinds.Word w) at last served e = absurd cc
last_wrong (kinds.Name text) at last served e = absurd cc
last_wrong (kinds.Quoted text) at last served e = some_wrong (wrong_escape (at + 1) false text) last e
  where
    some_wrong : (o : Option ℕ) (last : List Token) → option_map wrong_token o ≡ Some last → (place : ℕ) × (last ≡ wrong_token place)
    some_wrong None last e = absurd cc
    some_wrong (Some n) last e = (n, cc)
last_wrong (kinds.Number text) at last served e = absurd cc
last_wrong (kinds.Decimal text) at last served e = absurd cc
last_wrong kinds.Wrong at last served e = absurd cc

abbrev Sound : List Token → Type 0
Sound = Each (λ t. IsServed t.kind)

abbrev Writable : List Token → Type 0
Writable = Each (λ t. IsWritten t.kind)

followed : (k : Kind) (at : ℕ) (ts : List Token) (R : Type 0) → IsServed k → Sound ts → (R → Writable ts) → (o : Option (List Token)) → ends_with k at ≡ o → Follow o ts R → (ends_with k at ≡ None) × Writable ts
followed k at ts R served sound h None e f = (e, h f)
followed k at ts R served sound h (Some last) e f =
    let wrong : (place : ℕ) × (last ≡ wrong_token place) = last_wrong k at last served e in
    absurd (let bad : Sound (wrong_token wrong.0) = subst Sound (f ∙ wrong.1) sound in let no : false ≡ true = bad.0 in cc)

-- The tokens of a text can be written where the grammar has them.
pub tokens_written : (limit n : ℕ) (text : List ℕ) (ts : List Token) → Lexes limit n text ts → Sound ts → Writable ts
tokens_written limit n text [] h sound = tt
tokens_written limit n text (t ∷ ts) h sound =
    let rest : List ℕ = drop (blanks text) text in
    let k : Kind = (lexeme rest).0 in
    let is : t.kind ≡ k = ap (λ u. u.kind) h.2 in
    let served : IsServed k = subst IsServed is sound.0 in
    let next : ℕ = n + blanks text + (lexeme rest).1 in
    let left : List ℕ = drop (lexeme rest).1 rest in
    let behind : (ends_with k (n + blanks text) ≡ None) × Writable ts =
    followed k (n + blanks text) ts (Lexes limit next left ts) served sound.1 (λ g. tokens_written limit next left ts g sound.1) (ends_with k (n + blanks text)) refl h.3 in
    (subst IsWritten (sym is) (good_lexeme rest h.0 served (n + blanks text) behind.0), behind.1)
