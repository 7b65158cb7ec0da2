-- Fronts and parts of lists.
use Rattle.std.proofs.Common.{◌≡◌, ◌++◌, ◌∙◌, ◌≤◌, ◌+◌, ◌-◌, ℕ, List, [], length, take, drop, inl, inr, ◌⊎◌, sym, ap, append-nil, arith}
use Rattle.std.proofs.lemmas.List.{take-append-le, take_all}
use Rattle.std.proofs.Math.Seq.{take-append-add, drop-append_seam}

-- the first n bytes of a longer text begin with those of the shorter one
pub take_longer : (n : ℕ) (a b : List ℕ) → (c : List ℕ) × (take n (a ++ b) ≡ take n a ++ c)
take_longer n a b = by_order (split n (length a))
  where
    split : (n m : ℕ) → (n ≤ m) ⊎ (m ≤ n)
    split n m = grind arith

    by_order : (n ≤ length a) ⊎ (length a ≤ n) → (c : List ℕ) × (take n (a ++ b) ≡ take n a ++ c)
    by_order (inl le) = ([], take-append-le n a b le ∙ sym (append-nil (take n a)))
    by_order (inr ge) =
        let e : length a + (n - length a) ≡ n = omega arith in
        (take (n - length a) b, sym (ap (λ (k : ℕ). take k (a ++ b)) e) ∙ take-append-add a b (n - length a) ∙ ap (λ (t : List ℕ). t ++ take (n - length a) b) (sym (take_all n a ge)))

-- two texts that are one, cut after fronts of one length
pub same_fronts : (a b c d : List ℕ) → length a ≡ length b → a ++ c ≡ b ++ d → (a ≡ b) × (c ≡ d)
same_fronts a b c d n e = (
  sym (front a c) ∙ ap (take (length a)) e ∙ ap (λ (k : ℕ). take k (b ++ d)) n ∙ front b d,
  sym (drop-append_seam a c) ∙ ap (drop (length a)) e ∙ ap (λ (k : ℕ). drop k (b ++ d)) n ∙ drop-append_seam b d,
)
  where
    front : (x y : List ℕ) → take (length x) (x ++ y) ≡ x
    front x y = take-append-le (length x) x y (omega arith) ∙ take_all (length x) x (omega arith)
