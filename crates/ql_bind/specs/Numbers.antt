-- The numbers of queries: digits, with a minus before them or none (CMIS 1.1, section 2.1.14.2.1). Zeros in front count for nothing, and -0 is 0.
use Rattle.std.specs.Prelude.{ℕ, ◌^◌, nat_lt, nat_le, Bool, false, ◌&&◌, List, [], ◌∷◌, drop, ℤ, pos, neg_ℤ, Option, Some, None, if◌then◌else◌}
use Rattle.std.specs.Char.{is_ascii_digit}
use Rattle.std.specs.List.{list_all}
use Rattle.std.specs.Str.Parse.{digits_value}
use Rattle.cm_base.specs.Decimals.{is_minus, from_zero}

-- one digit or more, and nothing else
abbrev pub is_digits : List ℕ → Bool
is_digits [] = false
is_digits (d ∷ ds) = list_all is_ascii_digit (d ∷ ds)

-- the number that digits state, where it is below 2^64
abbrev pub digits_u64 : List ℕ → Option ℕ
digits_u64 text = if is_digits text && nat_lt (digits_value 10 text) (2 ^ 64) then Some (digits_value 10 text) else None

-- as much below zero, down to -2^63
abbrev pub upto_zero : Option ℕ → Option ℤ
upto_zero None = None
upto_zero (Some n) = if nat_le n (2 ^ 63) then Some (neg_ℤ (pos n)) else None

-- the number that digits and a minus before them state, from -2^63 to 2^63 - 1
abbrev pub whole_number : List ℕ → Option ℤ
whole_number text = if is_minus text then upto_zero (digits_u64 (drop 1 text)) else from_zero (digits_u64 text)
