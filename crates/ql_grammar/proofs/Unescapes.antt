-- Reading a text with its backslashes, run by run.
use Rattle.std.proofs.Common.{◌≡◌, ℕ, suc, ◌+◌, ◌<◌, Bool, true, false, not, ◌||◌, ◌==◌, List, [], ◌∷◌, ◌++◌, length, take, drop, get_or, refl, sym, ◌∙◌, ap, subst, arith, add-one, zero-add}
use Rattle.std.specs.List.{prefix_len}
use Rattle.std.specs.Str.{IsUtf8, IsCharBoundary}
use Rattle.std.proofs.lemmas.Bool.Decides.{nat_tests}
use Rattle.std.proofs.lemmas.Grind.{common_steps}
use Rattle.std.proofs.Math.Seq.{drop-cons}
use Rattle.std.proofs.lemmas.Str.{IsCharBoundary-after_ascii}
use Rattle.std.proofs.lemmas.List.Sums.{prefix_len-le-length, prefix_len_stops}
use Rattle.ql_tree.specs.Texts.{unescaped}

abbrev pub run : List ℕ → ℕ
run = prefix_len (λ b. not (b == 92))

is_backslash : (b : ℕ) → not (b == 92) ≡ false → b ≡ 92
is_backslash b h = grind (arith, nat_tests)

module _ (text : List ℕ) (utf8 : IsUtf8 text) (n : ℕ) (e : n ≡ run text) where
  pub backslash_at : n < length text → get_or text n 0 ≡ 92
  backslash_at h = let P : ℕ → Type 0 = λ m. m < length text → not (get_or text m 0 == 92) ≡ false in
      is_backslash (get_or text n 0) (subst P (sym e) (λ k. prefix_len_stops (λ b. not (b == 92)) text 0 k) h)

  pub cut_run : IsCharBoundary text n
  cut_run = (omega (arith, prefix_len-le-length (λ b. not (b == 92)) text), λ h k. absurd (let l : get_or text n 0 ≡ 92 = backslash_at h in omega arith))

  pub cut_backslash : n < length text → IsCharBoundary text (n + 1)
  cut_backslash h = IsCharBoundary-after_ascii text n utf8 h (omega (arith, backslash_at h))

run_step : (b : ℕ) (bs : List ℕ) (v : Bool) → (b == 92) ≡ v → unescaped false bs ≡ take (run bs) bs ++ unescaped false (drop (run bs) bs)
    → unescaped false (b ∷ bs) ≡ take (run (b ∷ bs)) (b ∷ bs) ++ unescaped false (drop (run (b ∷ bs)) (b ∷ bs))
run_step b bs true e inner =
    let none : run (b ∷ bs) ≡ 0 = rw e refl in
    let P : ℕ → Type 0 = λ m. unescaped false (b ∷ bs) ≡ take m (b ∷ bs) ++ unescaped false (drop m (b ∷ bs)) in subst P (sym none) refl
run_step b bs false e inner = rw (e, one_more (run bs)) (ap (λ s. b ∷ s) inner)
  where
    one_more : (n : ℕ) → 1 + n ≡ suc n
    one_more n = omega arith

-- the first run stands for itself
unescaped_run : (bs : List ℕ) → unescaped false bs ≡ take (run bs) bs ++ unescaped false (drop (run bs) bs)
unescaped_run [] = refl
unescaped_run (b ∷ bs) = run_step b bs (b == 92) refl (unescaped_run bs)

pub unescaped_run_at : (text : List ℕ) (n : ℕ) → n ≡ run text → unescaped false text ≡ take n text ++ unescaped false (drop n text)
unescaped_run_at text n e = let P : ℕ → Type 0 = λ m. unescaped false text ≡ take m text ++ unescaped false (drop m text) in subst P (sym e) (unescaped_run text)

next_byte : (text : List ℕ) (n : ℕ) → n < length text → drop n text ≡ get_or text n 0 ∷ drop (n + 1) text
next_byte text n h = grind (arith, common_steps, drop-cons text n 0, add-one n)

backslash_escapes : (b : ℕ) (bs : List ℕ) → b ≡ 92 → unescaped false (b ∷ bs) ≡ unescaped true bs
backslash_escapes b bs h = rw h refl

-- behind the first run a backslash stands before the rest
pub unescaped_next : (text : List ℕ) (n : ℕ) → n ≡ run text → n < length text → IsUtf8 text → unescaped false (drop n text) ≡ unescaped true (drop (n + 1) text)
unescaped_next text n e h utf8 = ap (unescaped false) (next_byte text n h) ∙ backslash_escapes (get_or text n 0) (drop (n + 1) text) (backslash_at text utf8 n e h)

-- a second backslash stands for itself
pub escaped_backslash : (bs : List ℕ) → get_or bs 0 0 ≡ 92 → unescaped true bs ≡ 92 ∷ unescaped false (drop 1 bs)
escaped_backslash [] h = cc
escaped_backslash (b ∷ bs) h = let e : b ≡ 92 = h in rw e refl

-- `%` and `_` keep the backslash
pub escaped_kept : (bs : List ℕ) → (get_or bs 0 0 == 37 || get_or bs 0 0 == 95) ≡ true → unescaped true bs ≡ 92 ∷ unescaped false bs
escaped_kept [] h = cc
escaped_kept (b ∷ bs) h =
    let plain : (b == 92) ≡ false = not_backslash b h in
    rw (h, plain) refl
  where
    not_backslash : (b : ℕ) → (b == 37 || b == 95) ≡ true → (b == 92) ≡ false
    not_backslash b h = grind (arith, nat_tests)

-- any other byte stands for itself
pub escaped_other : (bs : List ℕ) → (get_or bs 0 0 == 92) ≡ false → (get_or bs 0 0 == 37 || get_or bs 0 0 == 95) ≡ false → unescaped true bs ≡ unescaped false bs
escaped_other [] h k = refl
escaped_other (b ∷ bs) h k = rw (k, h) refl

pub nonempty : (bs : List ℕ) (b : ℕ) → get_or bs 0 0 ≡ suc b → 0 < length bs
nonempty [] b h = cc
nonempty (c ∷ bs) b h = omega arith

-- behind a first byte below 128
pub cut_first : (bs : List ℕ) (b : ℕ) → IsUtf8 bs → get_or bs 0 0 ≡ suc b → b < 127 → IsCharBoundary bs 1
cut_first bs b utf8 e low = subst (IsCharBoundary bs) (zero-add 1) (IsCharBoundary-after_ascii bs 0 utf8 (nonempty bs b e) (omega arith))
