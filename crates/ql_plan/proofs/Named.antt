-- The id of an object names it.
use Rattle.std.proofs.Common.{◌≡◌, ℕ, ◌+◌, ◌<◌, ◌%◌, ◌^◌, true, List, [], ◌∷◌, ◌++◌, length, get_or, refl, sym, arith, zero, suc, true≢false}
use Rattle.std.specs.Prelude.{nat_lt, decimal, Some}
use Rattle.std.specs.Char.{is_ascii_digit}
use Rattle.std.specs.List.{list_all}
use Rattle.std.specs.Str.Parse.{digits_value}
use Rattle.std.proofs.lemmas.Bool.{lt-ltb}
use Rattle.std.proofs.lemmas.Fmt.{decimal_digit, decimal_by_steps, decimal_is_IsNumeral, decimal_nonempty, first_decimal}
use Rattle.cmis_laws.proofs.Lists.{by_test}
use Rattle.cm_base.specs.declared.number.Oid.{Oid}
use Rattle.cm_base.specs.Decimals.{is_led, decimal_u64}
use Rattle.cmis_spec.specs.Access.{oid_named}

all_then : (xs : List ℕ) (d : ℕ) → list_all is_ascii_digit xs ≡ true → is_ascii_digit d ≡ true → list_all is_ascii_digit (xs ++ d ∷ []) ≡ true
all_then [] d h e = rw e refl
all_then (x ∷ xs) d h e = by_test (is_ascii_digit x)
    (λ k. rw k (all_then xs d (rw k at h) e))
    (λ k. absurd (true≢false (sym (rw k at h))))

digit : (n : ℕ) → n < 10 → is_ascii_digit (48 + n) ≡ true
digit n l = grind arith

pub all_digits : (n : ℕ) → n < 2 ^ 64 → list_all is_ascii_digit (decimal n) ≡ true
all_digits n l = decimal_by_steps (λ n ds. list_all is_ascii_digit ds ≡ true)
    (λ m k. rw (digit m k) refl)
    (λ m ds k h. all_then ds (48 + m % 10) h (digit (m % 10) (omega arith)))
    n l

led : (ds : List ℕ) → 0 < length ds → 48 < get_or ds 0 0 → is_led ds ≡ true
led [] l h = absurd (omega (arith, l))
led (d ∷ []) l h = refl
led (d ∷ e ∷ ds) l h = grind (arith, h)

pub decimal_led : (n : ℕ) → n < 2 ^ 64 → is_led (decimal n) ≡ true
decimal_led zero l = rw (decimal_digit 0 (omega arith)) refl
decimal_led (suc n) l = led (decimal (suc n)) (decimal_nonempty (suc n) l) (first_decimal (suc n) (omega arith) l)

pub decimal_read : (n : ℕ) → n < 2 ^ 64 → decimal_u64 (decimal n) ≡ Some n
decimal_read n l =
    let value : digits_value 10 (decimal n) ≡ n = (decimal_is_IsNumeral n l).1 in
    let below : nat_lt n (2 ^ 64) ≡ true = lt-ltb n (2 ^ 64) l in
    rw (decimal_led n l, all_digits n l, value, below) refl

pub named_decimal : (x : Oid) → x.0 < 2 ^ 64 → oid_named (decimal x.0) ≡ Some x
named_decimal x l = rw (decimal_read x.0 l) refl
