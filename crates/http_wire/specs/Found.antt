-- The value of a field that stands once in a head.
use Rattle.std.specs.Prelude.{◌≡◌, ℕ, ◌^◌, ◌&&◌, nat_lt, List, [], ◌∷◌, length, map, Option, Some, None, if◌then◌else◌}
use Rattle.std.specs.Str.Parse.{digits_value}
use Rattle.httparse.specs.Spans.{IsWithin, span_bytes, header_bytes}
use Rattle.httparse.specs.declared.spans.HeaderSpan.{HeaderSpan}
use Rattle.http_grammar.specs.Fields.{is_decimal, same_word}
use Rattle.http_grammar.specs.Request.{FieldParts}
use Rattle.http_wire.specs.declared.fields.Found.{Found}
use Rattle.http_wire.specs.declared.fields.Found.TheVariants.{Absent, One, Several}

-- the fields that spans of a text are
abbrev pub fields_at : List ℕ → List HeaderSpan → List FieldParts
fields_at text spans = map (header_bytes text) spans

-- no value, one with its place in the text, or several
abbrev pub Finds : List ℕ → List (List ℕ) → Found → Type 0
Finds text values Absent = values ≡ []
Finds text values (One span) = IsWithin (length text) span × (values ≡ span_bytes text span ∷ [])
Finds text values Several = (a : List ℕ) × (b : List ℕ) × (rest : List (List ℕ)) × (values ≡ a ∷ b ∷ rest)

-- the decimal number below 2^bits that a value is
abbrev pub decimal_below : ℕ → List ℕ → Option ℕ
decimal_below bits value =
    if is_decimal value && nat_lt (digits_value 10 value) (2 ^ bits) then Some (digits_value 10 value) else None

-- such a number below 2^63
abbrev pub below_half : Option ℕ → Option ℕ
below_half None = None
below_half (Some n) = if nat_lt n (2 ^ 63) then Some n else None

-- the value of a field, where it has the name
abbrev pub value_named : List ℕ → FieldParts → List (List ℕ)
value_named name field = if same_word field.0 name then field.1 ∷ [] else []
