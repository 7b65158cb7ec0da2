-- Writing a text with its backslashes, run by run.
use Rattle.std.proofs.Common.{◌≡◌, ℕ, suc, ◌+◌, ◌<◌, Bool, true, false, not, List, [], ◌∷◌, ◌++◌, length, take, drop, get_or, refl, sym, ◌∙◌, ap, subst, arith, add-one}
use Rattle.std.specs.List.{prefix_len}
use Rattle.std.specs.Str.{IsUtf8, IsCharBoundary}
use Rattle.std.proofs.lemmas.Bool.Decides.{nat_tests}
use Rattle.std.proofs.lemmas.Grind.{common_steps}
use Rattle.std.proofs.Math.Seq.{drop-cons}
use Rattle.std.proofs.lemmas.Str.{IsCharBoundary-after_ascii}
use Rattle.std.proofs.lemmas.List.Sums.{prefix_len-le-length, prefix_len_stops}
use Rattle.ql_tree.specs.Texts.{is_special, escaped}

abbrev pub plain : List ℕ → ℕ
plain = prefix_len (λ b. not (is_special b))

special_low : (b : ℕ) → not (is_special b) ≡ false → b < 128
special_low b h = grind (arith, nat_tests)

special_true : (b : ℕ) → not (is_special b) ≡ false → is_special b ≡ true
special_true b h = flip (is_special b) h
  where
    flip : (v : Bool) → not v ≡ false → v ≡ true
    flip true h = refl
    flip false h = cc

module _ (text : List ℕ) (utf8 : IsUtf8 text) (n : ℕ) (e : n ≡ plain text) where
  at_special : n < length text → not (is_special (get_or text n 0)) ≡ false
  at_special h = let P : ℕ → Type 0 = λ m. m < length text → not (is_special (get_or text m 0)) ≡ false in
      subst P (sym e) (λ k. prefix_len_stops (λ b. not (is_special b)) text 0 k) h

  pub special_at : n < length text → get_or text n 0 < 128
  special_at h = special_low (get_or text n 0) (at_special h)

  pub cut_plain : IsCharBoundary text n
  cut_plain = (omega (arith, prefix_len-le-length (λ b. not (is_special b)) text), λ h k. absurd (let l : get_or text n 0 < 128 = special_at h in omega arith))

  pub cut_special : n < length text → IsCharBoundary text (n + 1)
  cut_special h = IsCharBoundary-after_ascii text n utf8 h (special_at h)

run_step : (b : ℕ) (bs : List ℕ) (v : Bool) → is_special b ≡ v → escaped bs ≡ take (plain bs) bs ++ escaped (drop (plain bs) bs)
    → escaped (b ∷ bs) ≡ take (plain (b ∷ bs)) (b ∷ bs) ++ escaped (drop (plain (b ∷ bs)) (b ∷ bs))
run_step b bs true e inner =
    let none : plain (b ∷ bs) ≡ 0 = rw e refl in
    let P : ℕ → Type 0 = λ m. escaped (b ∷ bs) ≡ take m (b ∷ bs) ++ escaped (drop m (b ∷ bs)) in subst P (sym none) refl
run_step b bs false e inner = rw (e, one_more (plain bs)) (ap (λ s. b ∷ s) inner)
  where
    one_more : (n : ℕ) → 1 + n ≡ suc n
    one_more n = omega arith

-- the first run is written as it is
pub escaped_run : (bs : List ℕ) → escaped bs ≡ take (plain bs) bs ++ escaped (drop (plain bs) bs)
escaped_run [] = refl
escaped_run (b ∷ bs) = run_step b bs (is_special b) refl (escaped_run bs)

pub escaped_run_at : (text : List ℕ) (n : ℕ) → n ≡ plain text → escaped text ≡ take n text ++ escaped (drop n text)
escaped_run_at text n e = let P : ℕ → Type 0 = λ m. escaped text ≡ take m text ++ escaped (drop m text) in subst P (sym e) (escaped_run text)

next_byte : (text : List ℕ) (n : ℕ) → n < length text → drop n text ≡ get_or text n 0 ∷ drop (n + 1) text
next_byte text n h = grind (arith, common_steps, drop-cons text n 0, add-one n)

special_escaped : (b : ℕ) (bs : List ℕ) → is_special b ≡ true → escaped (b ∷ bs) ≡ 92 ∷ b ∷ escaped bs
special_escaped b bs h = rw h refl

-- behind the first run a backslash stands before the next byte
pub escaped_next : (text : List ℕ) (n : ℕ) → n ≡ plain text → n < length text → IsUtf8 text → escaped (drop n text) ≡ 92 ∷ get_or text n 0 ∷ escaped (drop (n + 1) text)
escaped_next text n e h utf8 = ap escaped (next_byte text n h) ∙ special_escaped (get_or text n 0) (drop (n + 1) text) (special_true (get_or text n 0) (at_special text utf8 n e h))
