-- More than two words are no words of load.
use Rattle.std.proofs.Common.{◌≡◌, ◌≤◌, List, [], ◌∷◌, length, map, refl, arith, String, Global, string_bytes, None}
use Rattle.cmis_words.specs.Loading.{load_of}

pub many : (ws : List (String Global)) → 3 ≤ length ws → None ≡ load_of (map string_bytes ws)
many [] h = absurd (omega arith)
many (a ∷ []) h = absurd (omega arith)
many (a ∷ b ∷ []) h = absurd (omega arith)
many (a ∷ b ∷ c ∷ ws) h = refl
