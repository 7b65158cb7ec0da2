-- The pairs of an urlencoded form or of a target's query.
use Rattle.std.specs.Prelude.{ℕ, List, map}
use Rattle.std.specs.Str.Lossy.{utf8_lossy}
use Rattle.form_urlencoded.specs.Form as form
use Rattle.form_args.specs.declared.pairs.Pair.{Pair}

-- a name or a value: decoded, and what is no UTF-8 is replaced by U+FFFD
abbrev pub decoded : List ℕ → List ℕ
decoded bytes = utf8_lossy (form.decode bytes)

abbrev pub text_pair : List ℕ × List ℕ → Pair
text_pair p = record { name = decoded p.0; value = decoded p.1 }

-- the pairs of a text in the form application/x-www-form-urlencoded
abbrev pub form_pairs : List ℕ → List Pair
form_pairs text = map text_pair (form.raw_pairs text)
