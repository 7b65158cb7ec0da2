-- Fewer than four words are no words of serve, with a file that keeps the repository or without one.
use Rattle.std.proofs.Common.{◌≡◌, ◌<◌, List, [], ◌∷◌, length, map, refl, arith, String, Global, string_bytes, None}
use Rattle.cmis_words.specs.Serving.{serve_of}
use Rattle.cmis_words.specs.Keeping.{kept_of}

pub few : (ws : List (String Global)) → length ws < 4 → serve_of (map string_bytes ws) ≡ None
few [] h = refl
few (a ∷ []) h = refl
few (a ∷ b ∷ []) h = refl
few (a ∷ b ∷ c ∷ []) h = refl
few (a ∷ b ∷ c ∷ d ∷ ws) h = absurd (omega arith)

pub few_kept : (ws : List (String Global)) → length ws < 4 → kept_of (map string_bytes ws) ≡ None
few_kept [] h = refl
few_kept (a ∷ []) h = refl
few_kept (a ∷ b ∷ []) h = refl
few_kept (a ∷ b ∷ c ∷ []) h = refl
few_kept (a ∷ b ∷ c ∷ d ∷ ws) h = absurd (omega arith)
