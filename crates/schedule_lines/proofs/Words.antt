-- One word asks for nothing.
use Rattle.std.proofs.Common.{◌≡◌, ℕ, List, [], ◌∷◌, Bor, None, length, map, refl, arith}
use Rattle.schedule_lines.specs.Lines.{step_of}

pub one_word : (words : List (Bor (List ℕ))) → length words ≡ 1 → step_of (map {A = Bor (List ℕ)} {B = List ℕ} (λ w. w.now) words) ≡ None
one_word [] e = refl
one_word (w ∷ []) e = refl
one_word (w ∷ v ∷ words) e = absurd (omega (arith, e))
