-- Texts, and media types among them.
use Rattle.std.proofs.Common.{◌≡◌, ℕ, zero, suc, List, [], ◌∷◌, length, true, false, leb, refl, arith}
use Rattle.std.proofs.lemmas.Bool.{and_parts, leb-true}
use Rattle.std.proofs.lemmas.Str.{IsUtf8-from_is_utf8, IsUtf8-from_ascii}
use Rattle.std.specs.Prelude.{IsUtf8}
use Rattle.std.specs.List.{list_all}
use Rattle.std.specs.Str.{is_utf8, IsAscii}
use Rattle.form_parts.specs.Kinds.{is_kind_byte, has_kind_length, is_kind}

pub not_utf8 : (bytes : List ℕ) → (IsUtf8 bytes → ⊥) → is_utf8 bytes ≡ false
not_utf8 bytes bad = elim (is_utf8 bytes) as (λ t. (is_utf8 bytes ≡ t) → t ≡ false) [
  | true ↦ λ e. absurd (bad (IsUtf8-from_is_utf8 bytes e))
  | false ↦ λ e. refl
] refl

all_ascii : (bytes : List ℕ) → list_all is_kind_byte bytes ≡ true → IsAscii bytes
all_ascii [] e i = omega arith
all_ascii (b ∷ bs) e zero = let low = leb-true b 126 (and_parts _ _ (and_parts _ _ e).0).1 in omega (arith, low)
all_ascii (b ∷ bs) e (suc i) = all_ascii bs (and_parts _ _ e).1 i

pub kind_is_text : (bytes : List ℕ) → is_kind bytes ≡ true → IsUtf8 bytes
kind_is_text bytes e = IsUtf8-from_ascii bytes (all_ascii bytes (and_parts (has_kind_length bytes) _ e).1)

pub kind_is_short : (bytes : List ℕ) → is_kind bytes ≡ true → leb (length bytes) 255 ≡ true
kind_is_short bytes e = (and_parts (leb 1 (length bytes)) _ (and_parts (has_kind_length bytes) _ e).0).1
