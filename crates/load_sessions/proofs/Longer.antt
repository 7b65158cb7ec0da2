-- One number more.
use Rattle.std.specs.Prelude.{◌≡◌, ℕ, ◌+◌, [], ◌∷◌, ◌++◌}
use Rattle.std.specs.List.{range_with_len}
use Rattle.std.proofs.Common.{refl, sym, ap, ◌∙◌}
use Rattle.std.proofs.lemmas.List.{map-id}
use Rattle.std.proofs.lemmas.List.FromFn.{map-range_with_len_more}

pub one_more : (a n : ℕ) → range_with_len a n ++ (a + n) ∷ [] ≡ range_with_len a (n + 1)
one_more a n =
    ap (λ xs. xs ++ (a + n) ∷ []) (sym (map-id (range_with_len a n)))
    ∙ (sym (map-range_with_len_more (λ x. x) a n (a + n) refl) ∙ map-id (range_with_len a (n + 1)))
