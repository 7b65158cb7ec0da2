-- Texts of digits: they are UTF-8, and parse where they are below 2^64.
use Rattle.std.proofs.Common.{◌≡◌, ℕ, ◌<◌, ◌^◌, ◌&&◌, Bool, true, false, List, [], ◌∷◌, refl, rules, arith, zero, suc}
use Rattle.std.specs.Prelude.{Result, Ok, Some, None, nat_lt, if◌then◌else◌}
use Rattle.std.specs.Char.{is_ascii_digit}
use Rattle.std.specs.List.{list_all}
use Rattle.std.specs.Str.{IsUtf8, IsAscii}
use Rattle.std.specs.Str.Parse.{digits_value, ParsesUnsigned}
use Rattle.std.proofs.lemmas.Grind.{common_steps}
use Rattle.std.proofs.lemmas.Str.{IsUtf8-from_ascii}
use Rattle.std.proofs.lemmas.Str.Parse.{IsNumeralModel, IsDigitsTest, numerals_by_value, parse_gives}
use Rattle.ql_bind.specs.Numbers.{is_digits, digits_u64}

tells : IsDigitsTest (λ ds. list_all is_ascii_digit ds ≡ true)
tells = search rules

own : IsNumeralModel (λ ds. list_all is_ascii_digit ds ≡ true) (digits_value 10)
own = numerals_by_value _ tells

all_of : (w : List ℕ) → is_digits w ≡ true → list_all is_ascii_digit w ≡ true
all_of [] h = cc
all_of (d ∷ ds) h = h

-- digits that state a number below 2^64 parse
pub parses : {E : Type 0} (w : List ℕ) (r : Result ℕ E) → ParsesUnsigned 64 10 w r → is_digits w ≡ true → digits_value 10 w < 2 ^ 64 → r ≡ Ok (digits_value 10 w)
parses [] r h plain small = cc plain
parses (d ∷ ds) r h plain small = parse_gives own 64 (d ∷ ds) r h plain (omega arith) small

digits-ascii : (bs : List ℕ) → list_all is_ascii_digit bs ≡ true → IsAscii bs
digits-ascii [] p i = grind (arith, common_steps)
digits-ascii (b ∷ bs) p zero = grind (arith, common_steps)
digits-ascii (b ∷ bs) p (suc i) = grind (arith, common_steps, digits-ascii bs (grind (arith, common_steps)) i)

none_by : (b c : Bool) (n : ℕ) → (b ≡ true → ⊥) → None ≡ (if b && c then Some n else None)
none_by false c n f = refl
none_by true c n f = absurd (f refl)

-- what is no text is no number
pub none-digits : (bs : List ℕ) → ¬ (IsUtf8 bs) → None ≡ digits_u64 bs
none-digits bs f = none_by (is_digits bs) (nat_lt (digits_value 10 bs) (2 ^ 64)) (digits_value 10 bs) (λ e. f (IsUtf8-from_ascii bs (digits-ascii bs (all_of bs e))))
