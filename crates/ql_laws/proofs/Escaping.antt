-- A text as it is written stands for itself.
use Rattle.std.proofs.Common.{◌≡◌, ℕ, Bool, true, false, ◌||◌, ◌==◌, List, [], ◌∷◌, refl, ap, arith}
use Rattle.std.proofs.lemmas.Bool.Decides.{nat_tests}
use Rattle.ql_tree.specs.Texts.{unescaped, escaped, is_special}

plain_next : (b : ℕ) (bs : List ℕ) → is_special b ≡ false → unescaped false bs ≡ bs → unescaped false (b ∷ bs) ≡ b ∷ bs
plain_next b bs h e = let plain : (b == 92) ≡ false = grind (arith, nat_tests) in rw plain (ap (λ s. b ∷ s) e)

special_next : (b : ℕ) (bs : List ℕ) → is_special b ≡ true → unescaped true (b ∷ bs) ≡ b ∷ unescaped false bs
special_next b bs h = let kept : (b == 37 || b == 95) ≡ false = grind (arith, nat_tests) in rw kept refl

step : (b : ℕ) (bs : List ℕ) (v : Bool) → is_special b ≡ v → unescaped false (escaped bs) ≡ bs → unescaped false (escaped (b ∷ bs)) ≡ b ∷ bs
step b bs true h e = rw h (rw (special_next b (escaped bs) h) (ap (λ s. b ∷ s) e))
step b bs false h e = let plain : (b == 92) ≡ false = grind (arith, nat_tests) in rw h (rw plain (ap (λ s. b ∷ s) e))

pub unescaped_escaped : (bs : List ℕ) → unescaped false (escaped bs) ≡ bs
unescaped_escaped [] = refl
unescaped_escaped (b ∷ bs) = step b bs (is_special b) refl (unescaped_escaped bs)
