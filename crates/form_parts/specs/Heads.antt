-- The head of a part: its fields, each a line, and then an empty line (RFC 2046, section 5.1; RFC 5322, section 2.2).
use Rattle.std.specs.Prelude.{ℕ, zero, suc, ◌+◌, ◌==◌, List, [], ◌∷◌, Option, Some, None, option_map, length, take, drop, if◌then◌else◌}
use Rattle.std.specs.List.{list_all, position_or_len}
use Rattle.http_header.specs.Token.{is_value_byte}
use Rattle.http_grammar.specs.Request.{FieldParts}
use Rattle.field_params.specs.Blanks.{trimmed}
use Rattle.field_params.specs.Params.{token, after_byte}

-- the bytes before the first CR, and those behind its LF
abbrev pub line_at : List ℕ → Option (List ℕ × List ℕ)
line_at text = option_map (λ rest. (take (position_or_len (λ b. b == 13) text) text, rest)) (after_byte 10 (drop (position_or_len (λ b. b == 13) text + 1) text))

-- a field: a token, a colon, and a value of visible bytes, those past ASCII, spaces and tabs, without the blanks around it
abbrev pub field_of : List ℕ → Option FieldParts
field_of line = elim (token line) [
  | None ↦ None
  | Some named ↦ elim (after_byte 58 named.1) [
    | None ↦ None
    | Some given ↦ if list_all is_value_byte given then Some (named.0, trimmed given) else None
  ]
]

-- the fields of a part, and its content
abbrev pub Head : Type 0
Head = List FieldParts × List ℕ

-- a field before those of the lines behind it
abbrev pub onto_head : Option FieldParts → Option Head → Option Head
onto_head None later = None
onto_head (Some f) later = option_map (λ h. (f ∷ h.0, h.1)) later

-- an empty line ends the fields, and the content stands behind it
abbrev pub by_text : List ℕ → List ℕ → Option Head → Option Head
by_text [] rest later = Some ([], rest)
by_text (b ∷ bs) rest later = onto_head (field_of (b ∷ bs)) later

abbrev pub by_line : Option (List ℕ × List ℕ) → (List ℕ → Option Head) → Option Head
by_line None later = None
by_line (Some l) later = by_text l.0 l.1 (later l.1)

-- a head of n fields at most; a part that ends with its fields has no content
abbrev pub head_within : ℕ → List ℕ → Option Head
head_within n [] = Some ([], [])
head_within zero (b ∷ bs) = None
head_within (suc n) (b ∷ bs) = by_line (line_at (b ∷ bs)) (λ rest. head_within n rest)

-- the head of a part: it has no more fields than bytes
abbrev pub head_of : List ℕ → Option Head
head_of text = head_within (length text) text
