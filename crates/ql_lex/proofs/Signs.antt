-- A sign takes one byte below 128 or two.
use Rattle.std.proofs.Common.{◌≡◌, ℕ, suc, ◌<◌, Bool, true, false, ◌==◌, List, get_or, ◌⊎◌, inl, inr, refl, sym, ◌∙◌, ap, subst, arith, if◌then◌else◌}
use Rattle.std.specs.Str.{IsUtf8, IsCharBoundary}
use Rattle.std.proofs.lemmas.Bool.Decides.{nat_tests}
use Rattle.ql_lex.specs.Lexes as spec
use Rattle.ql_lex.specs.declared.word.Word.{Word}
use Rattle.ql_lex.specs.declared.word.Word.TheVariants as words
use Rattle.ql_lex.specs.declared.token.Kind.TheVariants as kinds
use Rattle.ql_lex.proofs.Cuts.{cut_first, cut_after}

module _ (text : List ℕ) (utf8 : IsUtf8 text) where
  abbrev Fits : spec.Lexeme → Type 0
  Fits x = (x.0 ≡ kinds.Wrong) ⊎ IsCharBoundary text x.1

  chosen : (v : Bool) (x y : spec.Lexeme) → (v ≡ true → Fits x) → Fits y → Fits (if v then x else y)
  chosen true x y h k = h refl
  chosen false x y h k = k

  is_byte : (b k : ℕ) → (b == k) ≡ true → b ≡ k
  is_byte b k h = grind (arith, nat_tests)

  single : (k : ℕ) → k < 127 → (word : Word) → (get_or text 0 0 == suc k) ≡ true → Fits (spec.sign_lexeme word 1)
  single k low word h = inr (cut_first text k utf8 (is_byte (get_or text 0 0) (suc k) h) low)

  double : (k : ℕ) → k < 127 → (word : Word) → (get_or text 1 0 == suc k) ≡ true → Fits (spec.sign_lexeme word 2)
  double k low word h = inr (cut_after text 1 k utf8 (is_byte (get_or text 1 0) (suc k) h) low)

  sign_fits : Fits (spec.sign_at (get_or text 0 0) (get_or text 1 0))
  sign_fits =
      let b : ℕ = get_or text 0 0 in
      let next : ℕ = get_or text 1 0 in
      chosen (b == 42) _ _ (λ h. single 41 (omega arith) words.Star h)
      (chosen (b == 46) _ _ (λ h. single 45 (omega arith) words.Dot h)
      (chosen (b == 44) _ _ (λ h. single 43 (omega arith) words.Comma h)
      (chosen (b == 40) _ _ (λ h. single 39 (omega arith) words.Open h)
      (chosen (b == 41) _ _ (λ h. single 40 (omega arith) words.Close h)
      (chosen (b == 61) _ _ (λ h. single 60 (omega arith) words.Equal h)
      (chosen (b == 60) _ _
      (λ h. chosen (next == 62) _ _ (λ k. double 61 (omega arith) words.NotEqual k) (chosen (next == 61) _ _ (λ k. double 60 (omega arith) words.LessEqual k) (single 59 (omega arith) words.Less h)))
      (chosen (b == 62) _ _ (λ h. chosen (next == 61) _ _ (λ k. double 60 (omega arith) words.GreaterEqual k) (single 61 (omega arith) words.Greater h)) (inl refl))))))))

  pub sign_cut : (b next : ℕ) (x : spec.Lexeme) → x ≡ spec.sign_at b next → b ≡ get_or text 0 0 → next ≡ get_or text 1 0 → Fits x
  sign_cut b next x e f g = subst Fits (sym (e ∙ ap (λ u. spec.sign_at u next) f ∙ ap (λ u. spec.sign_at (get_or text 0 0) u) g)) sign_fits
