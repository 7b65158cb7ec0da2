-- Texts of digits: they are UTF-8, and parse where they are below 2^64.
use Rattle.std.proofs.Common.{◌≡◌, ℕ, ◌<◌, ◌≤◌, ◌^◌, ◌&&◌, Bool, true, false, List, [], ◌∷◌, length, refl, sym, rules, arith, zero, suc}
use Rattle.std.specs.Prelude.{Result, Ok, Some, None, nat_lt, if◌then◌else◌}
use Rattle.std.specs.Char.{is_ascii_digit}
use Rattle.std.specs.List.{list_all}
use Rattle.std.specs.Str.{IsUtf8, IsAscii}
use Rattle.std.specs.Str.Parse.{digits_value, ParsesUnsigned}
use Rattle.std.proofs.lemmas.Grind.{common_steps}
use Rattle.std.proofs.lemmas.Bool.{cond-false, le-ltb}
use Rattle.std.proofs.lemmas.Bool.Decides.{nat_tests}
use Rattle.std.proofs.lemmas.Str.{IsUtf8-from_ascii}
use Rattle.std.proofs.lemmas.Str.Parse.{IsNumeralModel, IsDigitsTest, numerals_by_value, parse_gives}
use Rattle.http_grammar.specs.Fields.{is_decimal, length_of_value}
use Rattle.http_wire.specs.Found.{decimal_below, below_half}

tells : IsDigitsTest (λ ds. list_all is_ascii_digit ds ≡ true)
tells = search rules

own : IsNumeralModel (λ ds. list_all is_ascii_digit ds ≡ true) (digits_value 10)
own = numerals_by_value _ tells

-- a decimal below 2^64 parses
pub parses : {E : Type 0} (w : List ℕ) (r : Result ℕ E) → ParsesUnsigned 64 10 w r → is_decimal w ≡ true → digits_value 10 w < 2 ^ 64 → r ≡ Ok (digits_value 10 w)
parses w r h plain small = parse_gives own 64 w r h (search rules) (search rules) small

digits_ascii : (bs : List ℕ) → list_all is_ascii_digit bs ≡ true → IsAscii bs
digits_ascii [] p i = grind (arith, common_steps)
digits_ascii (b ∷ bs) p zero = grind (arith, common_steps)
digits_ascii (b ∷ bs) p (suc i) = grind (arith, common_steps, digits_ascii bs (grind (arith, common_steps)) i)

second : (a b : Bool) → (a && b) ≡ true → b ≡ true
second true b p = p
second false b p = cc p

none_by : (b c : Bool) (n : ℕ) → (b ≡ true → ⊥) → None ≡ (if b && c then Some n else None)
none_by false c n f = refl
none_by true c n f = absurd (f refl)

-- what is no text is no decimal
pub none_decimal : (bs : List ℕ) → ¬ (IsUtf8 bs) → None ≡ decimal_below 64 bs
none_decimal bs f = none_by (is_decimal bs) (nat_lt (digits_value 10 bs) (2 ^ 64)) (digits_value 10 bs) (λ e. f (IsUtf8-from_ascii bs (digits_ascii bs (second (nat_lt 0 (length bs)) (list_all is_ascii_digit bs) e))))

-- below 2^63, or none
pub length_is_half : (value : List ℕ) → below_half (decimal_below 64 value) ≡ length_of_value value
unfolding length_of_value
length_is_half value = by_decimal (is_decimal value) (nat_lt (digits_value 10 value) (2 ^ 64)) refl
  where
    by_decimal : (t u : Bool) → nat_lt (digits_value 10 value) (2 ^ 64) ≡ u
        → below_half (if t && u then Some (digits_value 10 value) else None) ≡ (if t && nat_lt (digits_value 10 value) (2 ^ 63) then Some (digits_value 10 value) else None)
    by_decimal false u e = refl
    by_decimal true true e = refl
    by_decimal true false e =
        let more : 2 ^ 64 ≤ digits_value 10 value = grind (arith, nat_tests, e) in
        let half : 2 ^ 63 ≤ digits_value 10 value = omega arith in
        sym (cond-false _ _ _ (le-ltb (digits_value 10 value) (2 ^ 63) half))
