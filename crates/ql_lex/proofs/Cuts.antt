-- Where a text may be cut: before a byte below 128 and after one.
use Rattle.std.proofs.Common.{◌≡◌, ℕ, zero, suc, not, Option, Some, None, ◌+◌, ◌<◌, ◌≤◌, Bool, true, false, ◌&&◌, ◌==◌, List, [], ◌∷◌, length, drop, get_or, refl, sym, ◌∙◌, ap, subst, arith, if◌then◌else◌, add-one, zero-add}
use Rattle.std.specs.List.{prefix_len}
use Rattle.std.specs.Option.{option_map}
use Rattle.std.specs.Str.{IsUtf8, IsCharBoundary}
use Rattle.std.proofs.lemmas.Bool.Decides.{nat_tests}
use Rattle.std.proofs.lemmas.Str.{IsCharBoundary-after_ascii, IsCharBoundary-before_ascii, IsCharBoundary-start, IsCharBoundary-from_rest}
use Rattle.std.proofs.lemmas.List.Sums.{prefix_len-le-length, prefix_len_passes}
use Rattle.ql_lex.specs.Lexes as spec

-- What passes is ASCII.
pub record Ascii (p : ℕ → Bool) : Type 0 where
  pub below : (b : ℕ) → p b ≡ true → b < 128

pub blank_ascii : Ascii spec.is_blank
blank_ascii = record { below = λ b h. grind (arith, nat_tests) }

pub digit_ascii : Ascii spec.is_digit
digit_ascii = record { below = λ b h. grind (arith, nat_tests) }

pub name_ascii : Ascii spec.is_name_byte
name_ascii = record { below = λ b h. grind (arith, nat_tests) }

-- behind a byte below 128
pub cut_behind : (text : List ℕ) (n : ℕ) → IsUtf8 text → n ≤ length text → ((m : ℕ) → n ≡ m + 1 → get_or text m 0 < 128) → IsCharBoundary text n
cut_behind text zero utf8 h low = IsCharBoundary-start text utf8
cut_behind text (suc m) utf8 h low =
    subst (IsCharBoundary text) (add-one m) (IsCharBoundary-after_ascii text m utf8 (omega arith) (low m (sym (add-one m))))

-- behind the first bytes that pass
pub cut_run : (p : ℕ → Bool) → Ascii p → (text : List ℕ) → IsUtf8 text → IsCharBoundary text (prefix_len p text)
cut_run p ascii text utf8 =
    cut_behind text (prefix_len p text) utf8 (prefix_len-le-length p text) (λ m e. ascii.below (get_or text m 0) (prefix_len_passes p text m 0 (omega arith)))

-- the same, as functions over a text find it
pub cut_found : (p : ℕ → Bool) → Ascii p → (text bytes : List ℕ) (n : ℕ) → IsUtf8 text → bytes ≡ text → n ≡ prefix_len p bytes → IsCharBoundary text n
cut_found p ascii text bytes n utf8 e f = subst (IsCharBoundary text) (sym (f ∙ ap (prefix_len p) e)) (cut_run p ascii text utf8)

-- The quote that closes a text stands where it is said to.
closes_step : (b : ℕ) (bs : List ℕ) (escaped : Bool) (v : Bool) → (not escaped && b == 39) ≡ v → (n : ℕ) → spec.closing escaped (b ∷ bs) ≡ Some n
    → ((e : Bool) (m : ℕ) → spec.closing e bs ≡ Some m → (m < length bs) × (get_or bs m 0 ≡ 39)) → (n < length (b ∷ bs)) × (get_or (b ∷ bs) n 0 ≡ 39)
closes_step b bs escaped true e n found inner =
    let at : if true then Some 0 else option_map (λ k. k + 1) (spec.closing (not escaped && b == 92) bs) ≡ Some n
    = subst (λ v. if v then Some 0 else option_map (λ k. k + 1) (spec.closing (not escaped && b == 92) bs) ≡ Some n) e found in
    let zero_is : 0 ≡ n = cc in
    subst (λ k. (k < length (b ∷ bs)) × (get_or (b ∷ bs) k 0 ≡ 39)) zero_is (omega arith, quote_is escaped b e)
  where
    quote_is : (escaped : Bool) (b : ℕ) → (not escaped && b == 39) ≡ true → b ≡ 39
    quote_is true b e = cc
    quote_is false b e = grind (arith, nat_tests)
closes_step b bs escaped false e n found inner =
    let at : option_map (λ k. k + 1) (spec.closing (not escaped && b == 92) bs) ≡ Some n
    = subst (λ v. if v then Some 0 else option_map (λ k. k + 1) (spec.closing (not escaped && b == 92) bs) ≡ Some n) e found in
    behind (spec.closing (not escaped && b == 92) bs) refl at
  where
    behind : (o : Option ℕ) → spec.closing (not escaped && b == 92) bs ≡ o → option_map (λ k. k + 1) o ≡ Some n → (n < length (b ∷ bs)) × (get_or (b ∷ bs) n 0 ≡ 39)
    behind None f h = cc
    behind (Some m) f h =
        let more : m + 1 ≡ n = cc in
        let rest : (m < length bs) × (get_or bs m 0 ≡ 39) = inner (not escaped && b == 92) m f in
        subst (λ k. (k < length (b ∷ bs)) × (get_or (b ∷ bs) k 0 ≡ 39)) (sym (add-one m) ∙ more) (omega (arith, rest.0), rest.1)

pub closes : (bs : List ℕ) (escaped : Bool) (n : ℕ) → spec.closing escaped bs ≡ Some n → (n < length bs) × (get_or bs n 0 ≡ 39)
closes [] escaped n found = absurd cc
closes (b ∷ bs) escaped n found = closes_step b bs escaped (not escaped && b == 39) refl n found (closes bs)

-- a byte that isn't 0 stands in the text
pub within : (text : List ℕ) (n b : ℕ) → get_or text n 0 ≡ suc b → n < length text
within [] n b e = absurd (past n e)
  where
    past : (n : ℕ) → get_or [] n 0 ≡ suc b → ⊥
    past zero e = cc
    past (suc n) e = cc
within (c ∷ text) zero b e = omega arith
within (c ∷ text) (suc n) b e = let k : n < length text = within text n b e in omega arith

-- behind an ASCII byte that isn't 0
pub cut_after : (text : List ℕ) (n b : ℕ) → IsUtf8 text → get_or text n 0 ≡ suc b → b < 127 → IsCharBoundary text (n + 1)
cut_after text n b utf8 e low = IsCharBoundary-after_ascii text n utf8 (within text n b e) (omega arith)

pub cut_first : (text : List ℕ) (b : ℕ) → IsUtf8 text → get_or text 0 0 ≡ suc b → b < 127 → IsCharBoundary text 1
cut_first text b utf8 e low = subst (IsCharBoundary text) (zero-add 1) (cut_after text 0 b utf8 e low)

-- a place behind the first n bytes
pub cut_rest : (text rest : List ℕ) (n m : ℕ) → IsCharBoundary text n → rest ≡ drop n text → IsCharBoundary rest m → IsCharBoundary text (n + m)
cut_rest text rest n m h e k = IsCharBoundary-from_rest text n m h.0 (subst (λ s. IsCharBoundary s m) e k)

-- before the quote that closes a text, and behind it
pub cut_closing : (bytes : List ℕ) (n : ℕ) → Some n ≡ spec.closing false bytes → IsCharBoundary bytes n
cut_closing bytes n e = let h : (n < length bytes) × (get_or bytes n 0 ≡ 39) = closes bytes false n (sym e) in IsCharBoundary-before_ascii bytes n h.0 (omega (arith, h.1))

pub cut_closed : (text bytes : List ℕ) (n : ℕ) → IsUtf8 text → get_or text 0 0 ≡ 39 → bytes ≡ drop 1 text → IsUtf8 bytes → Some n ≡ spec.closing false bytes → IsCharBoundary text (n + 2)
cut_closed text bytes n utf8 q e utf8' found =
    let h : (n < length bytes) × (get_or bytes n 0 ≡ 39) = closes bytes false n (sym found) in
    let k : IsCharBoundary bytes (n + 1) = cut_after bytes n 38 utf8' h.1 (omega arith) in
    let l : IsCharBoundary text (1 + (n + 1)) = cut_rest text bytes 1 (n + 1) (cut_first text 38 utf8 q (omega arith)) e k in
    subst (IsCharBoundary text) (omega arith) l
