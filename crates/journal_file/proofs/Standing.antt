-- Where a payload stands.
use Rattle.std.proofs.Common.{◌≡◌, ◌∙◌, inl, inr, ap, sym, refl, ℕ, ◌+◌, ◌<◌, ◌^◌, List, ◌∷◌, ◌++◌, length, take, drop, Some, arith, append_assoc, length-append}
use Rattle.std.proofs.Math.Seq.{take-append_seam, drop-append_seam}
use Rattle.archive.specs.Extents.{Stands}
use Rattle.journal_file.specs.Records.{StandsFor, records, length_bytes}
use Rattle.journal_file.proofs.Places.{records-append}

nine : (n : ℕ) → length (1 ∷ length_bytes n) ≡ 9
unfolding length_bytes
nine n = refl

-- a part behind a front and before a rest
pub in_the_middle : (front p rest file : List ℕ) (place : ℕ) → file ≡ front ++ (p ++ rest) → length front ≡ place → length file < 2 ^ 63 → Stands (Some file) place (length p) p
in_the_middle front p rest file place is at short =
    let n : length file ≡ length front + (length p + length rest) = ap length is ∙ (length-append front (p ++ rest) ∙ ap (λ (k : ℕ). length front + k) (length-append p rest)) in
    let there : take (length p) (drop place file) ≡ p =
    ap (λ (f : List ℕ). take (length p) (drop place f)) is
    ∙ (ap (λ (k : ℕ). take (length p) (drop k (front ++ (p ++ rest)))) (sym at)
    ∙ (ap (take (length p)) (drop-append_seam front (p ++ rest)) ∙ take-append_seam p rest)) in
    record {
      counted = refl;
      inside = record { fits = omega (arith, n, at, short); within = omega (arith, n, at) };
      there = there;
    }

pub stays : (old : List (List ℕ)) (p : List ℕ) (more : List (List ℕ)) (file : List ℕ) → StandsFor (old ++ p ∷ more) file → length file < 2 ^ 63
    → Stands (Some file) (length (records old) + 9) (length p) p
unfolding length_bytes
stays old p more file (inl e) short =
    let n : length old + length (p ∷ more) ≡ 0 = sym (length-append old (p ∷ more)) ∙ ap length e.1 in absurd (omega (arith, n))
stays old p more file (inr c) short =
    let head = 1 ∷ length_bytes (length p) in
    let behind = c.gate ∷ c.behind in
    let rest = records more ++ behind in
    let front = records old ++ head in
    let n : length front ≡ length (records old) + 9 = length-append (records old) head ∙ ap (λ (k : ℕ). length (records old) + k) (nine (length p)) in
    let is : file ≡ front ++ (p ++ rest) =
    c.file_is ∙ (ap (λ (r : List ℕ). r ++ behind) (records-append old (p ∷ more))
    ∙ (append_assoc (records old) (head ++ (p ++ records more)) behind
    ∙ (ap (λ (r : List ℕ). records old ++ r) (append_assoc head (p ++ records more) behind)
    ∙ (ap (λ (r : List ℕ). records old ++ (head ++ r)) (append_assoc p (records more) behind)
    ∙ sym (append_assoc (records old) head (p ++ rest)))))) in
    in_the_middle front p rest file (length (records old) + 9) is n short
