-- A member put in its place by its number.
use Rattle.std.proofs.Common.{◌≡◌, ℕ, ◌<◌, ◌≤◌, nat_lt, List, [], ◌∷◌, ◌++◌, All, filter, false, refl, ap, sym, arith}
use Rattle.std.specs.Ordering.{nat_cmp}
use Rattle.std.specs.Cmp.{nat_cmp_is}
use Rattle.std.proofs.lemmas.Bool.{lt-ltb, ltb-true, ltb-false}
use Rattle.std.proofs.lemmas.List.Elements.{All-head, All-tail}
use Rattle.core.specs.declared.cmp.Ordering.TheVariants.{Less, Equal, Greater}
use Rattle.core.specs.FinMap.Entries as entries
use Rattle.cm_map.specs.Keyed.{keyed, Rises}
use Rattle.cm_map.proofs.Tables.{by_test}

not_less : (a b : ℕ) → b ≤ a → nat_lt a b ≡ false
not_less a b le = by_test (nat_lt a b) (λ e. let less : a < b = ltb-true a b e in absurd (omega (arith, less, le))) (λ e. e)

module _ {V : Type 0} (number : V → ℕ) (m : V) where
  abbrev low : List V → List V
  low xs = filter (λ x. nat_lt (number x) (number m)) xs

  abbrev high : List V → List V
  high xs = filter (λ x. nat_lt (number m) (number x)) xs

  -- behind a number that isn't below the member's, all are above it
  none_low : (n : ℕ) (xs : List V) → number m ≤ n → All (λ y. n < number y) xs → low xs ≡ []
  none_low n [] le all = refl
  none_low n (x ∷ xs) le all =
      let past : n < number x = All-head (λ y. n < number y) x xs all in
      rw (not_less (number x) (number m) (omega (arith, past, le))) (none_low n xs le (All-tail (λ y. n < number y) x xs all))

  all_high : (n : ℕ) (xs : List V) → number m ≤ n → All (λ y. n < number y) xs → high xs ≡ xs
  all_high n [] le all = refl
  all_high n (x ∷ xs) le all =
      let past : n < number x = All-head (λ y. n < number y) x xs all in
      rw (lt-ltb (number m) (number x) (omega (arith, past, le)), all_high n xs le (All-tail (λ y. n < number y) x xs all)) refl

  pub put-keyed : (xs : List V) → Rises number xs → entries.put nat_cmp (number m) m (keyed number xs) ≡ keyed number (low xs ++ m ∷ high xs)
  put-keyed [] rises = refl
  put-keyed (x ∷ xs) rises = by_test (nat_lt (number x) (number m))
      (λ l. let past : number x < number m = ltb-true (number x) (number m) l in
      rw (← nat_cmp_is (number m) (number x) Greater past, l, not_less (number m) (number x) (omega (arith, past))) (ap (λ es. (number x, x) ∷ es) (put-keyed xs rises.1)))
      (λ l. let least : number m ≤ number x = ltb-false (number x) (number m) l in
      by_test (nat_lt (number m) (number x))
      (λ h. let less : number m < number x = ltb-true (number m) (number x) h in
      rw (← nat_cmp_is (number m) (number x) Less less, l, h, none_low (number x) xs least rises.0, all_high (number x) xs least rises.0) refl)
      (λ h. let most : number x ≤ number m = ltb-false (number m) (number x) h in
      let k : number m ≡ number x = omega (arith, least, most) in
      rw (← nat_cmp_is (number m) (number x) Equal k, l, h, none_low (number x) xs least rises.0, all_high (number x) xs least rises.0) (ap (λ n. (n, m) ∷ keyed number xs) (sym k))))
