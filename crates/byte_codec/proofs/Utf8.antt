-- Texts are the bytes that are UTF-8.
use Rattle.std.proofs.Common.{◌≡◌, ℕ, Bool, true, false, List, Option, Some, None, refl, sym, ap, ◌∙◌}
use Rattle.std.specs.Str.{IsUtf8, is_utf8}
use Rattle.std.proofs.lemmas.Str.{is_utf8-from_IsUtf8, IsUtf8-from_is_utf8}
use Rattle.byte_codec.specs.Codecs.{◌>>=◌, Writes}
use Rattle.byte_codec.specs.Parts.{beside}
use Rattle.byte_codec.specs.Numbers.{bytes, bytes_reads, text, text_of, where_true}

pub text_written : (t old new : List ℕ) → IsUtf8 t → Writes bytes t old new → Writes text t old new
text_written t old new u w = record { text = w.text; fits = (is_utf8-from_IsUtf8 t u, w.fits) }

abbrev tested : List ℕ × List ℕ → Option (List ℕ × List ℕ)
tested p = text_of p.0 >>= beside p.1

pub text_read : (old bs new t : List ℕ) → bytes_reads old ≡ Some (bs, new) → IsUtf8 bs → t ≡ bs → text.reads old ≡ Some (t, new)
text_read old bs new t e u is =
    ap (λ (r : Option (List ℕ × List ℕ)). r >>= tested) e ∙ ap (λ (b : Bool). where_true b bs >>= beside new) (is_utf8-from_IsUtf8 bs u) ∙ ap (λ (x : List ℕ). Some (x, new)) (sym is)

false_unless : (b : Bool) → ¬ (b ≡ true) → b ≡ false
false_unless true n = absurd (n refl)
false_unless false n = refl

pub text_wrong : (old bs new : List ℕ) → bytes_reads old ≡ Some (bs, new) → ¬ (IsUtf8 bs) → text.reads old ≡ None
text_wrong old bs new e n =
    ap (λ (r : Option (List ℕ × List ℕ)). r >>= tested) e ∙ ap (λ (b : Bool). where_true b bs >>= beside new) (false_unless (is_utf8 bs) (λ h. n (IsUtf8-from_is_utf8 bs h)))
