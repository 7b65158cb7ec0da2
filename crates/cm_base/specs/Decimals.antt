-- Decimal numbers, as arguments, ids and the program's words have them.
use Rattle.std.specs.Prelude.{ℕ, ◌==◌, ◌^◌, nat_lt, nat_le, Bool, true, false, not, ◌&&◌, List, [], ◌∷◌, drop, ℤ, pos, neg_ℤ, Option, Some, None, if◌then◌else◌}
use Rattle.std.specs.Char.{is_ascii_digit}
use Rattle.std.specs.List.{list_all}
use Rattle.std.specs.Str.Parse.{digits_value}

-- there is a digit, and the first is 0 only where it is the last
abbrev pub is_led : List ℕ → Bool
is_led [] = false
is_led (d ∷ []) = true
is_led (d ∷ e ∷ ds) = not (d == 48)

-- decimal digits without a sign or a leading zero
abbrev pub is_decimal : List ℕ → Bool
is_decimal text = is_led text && list_all is_ascii_digit text

-- such a number, where it is below 2^64
abbrev pub decimal_u64 : List ℕ → Option ℕ
decimal_u64 text = if is_decimal text && nat_lt (digits_value 10 text) (2 ^ 64) then Some (digits_value 10 text) else None

abbrev pub is_minus : List ℕ → Bool
is_minus [] = false
is_minus (b ∷ bs) = b == 45

abbrev pub from_zero : Option ℕ → Option ℤ
from_zero None = None
from_zero (Some n) = if nat_lt n (2 ^ 63) then Some (pos n) else None

abbrev pub below_zero : Option ℕ → Option ℤ
below_zero None = None
below_zero (Some n) = if nat_lt 0 n && nat_le n (2 ^ 63) then Some (neg_ℤ (pos n)) else None

-- such a number, a minus before it where it is below zero, from -2^63 to 2^63 - 1; -0 is none
abbrev pub decimal_i64 : List ℕ → Option ℤ
decimal_i64 text = if is_minus text then below_zero (decimal_u64 (drop 1 text)) else from_zero (decimal_u64 text)
