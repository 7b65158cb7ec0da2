-- A good host is text.
use Rattle.std.proofs.Common.{◌≡◌, ℕ, zero, suc, List, [], ◌∷◌, length, true, leb, arith}
use Rattle.std.proofs.lemmas.Bool.{and_parts, ltb-true}
use Rattle.std.proofs.lemmas.Str.{IsUtf8-from_ascii}
use Rattle.std.specs.Prelude.{IsUtf8}
use Rattle.std.specs.List.{list_all}
use Rattle.std.specs.Str.{IsAscii}
use Rattle.http_grammar.specs.Fields.{is_visible, is_host}

all_ascii : (bytes : List ℕ) → list_all is_visible bytes ≡ true → IsAscii bytes
all_ascii [] e i = omega arith
all_ascii (b ∷ bs) e zero = let low = ltb-true b 127 (and_parts _ _ (and_parts _ _ e).0).1 in omega (arith, low)
all_ascii (b ∷ bs) e (suc i) = all_ascii bs (and_parts _ _ e).1 i

pub host_is_text : (value : List ℕ) → is_host value ≡ true → IsUtf8 value
unfolding is_host
host_is_text value e = IsUtf8-from_ascii value (all_ascii value (and_parts (leb (length value) 255) _ (and_parts (leb 1 (length value)) _ e).1).1)
