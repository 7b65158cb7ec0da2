-- Parameters of a field's value (RFC 2045, section 5.1; RFC 9110, section 5.6.6): blanks stand round the semicolons alone.
use Rattle.std.specs.Prelude.{ℕ, zero, suc, List, [], ◌∷◌, Bool, true, false, ◌||◌, ◌==◌, Option, Some, None, option_map, find, length, take, drop, take_while, if◌then◌else◌}
use Rattle.std.specs.List.{list_all}
use Rattle.http_header.specs.Token.{is_token_byte}
use Rattle.http_grammar.specs.Fields.{same_word}
use Rattle.field_params.specs.declared.one.Param.{Param}
use Rattle.field_params.specs.Blanks.{is_blank, off_blanks}

-- a value, and the bytes behind it
abbrev pub Read : Type 0
Read = Option (List ℕ × List ℕ)

abbrev pub onto : ℕ → Read → Read
onto b read = option_map (λ r. (b ∷ r.0, r.1)) read

-- a quoted value up to its quote: a backslash before a quote or a backslash is dropped, and kept before another byte
abbrev pub quoted : Bool → List ℕ → Read
quoted escaped [] = None
quoted true (b ∷ bs) = if b == 34 || b == 92 then onto b (quoted false bs) else onto 92 (onto b (quoted false bs))
quoted false (b ∷ bs) = if b == 34 then Some ([], bs) else if b == 92 then quoted true bs else onto b (quoted false bs)

-- a token of one byte or more
abbrev pub token : List ℕ → Read
token text = if length (take_while is_token_byte text) == 0 then None
    else Some (take (length (take_while is_token_byte text)) text, drop (length (take_while is_token_byte text)) text)

-- a token or a quoted value
abbrev pub value : List ℕ → Read
value [] = None
value (b ∷ bs) = if b == 34 then quoted false bs else token (b ∷ bs)

-- what stands behind a byte
abbrev pub after_byte : ℕ → List ℕ → Option (List ℕ)
after_byte c [] = None
after_byte c (b ∷ bs) = if b == c then Some bs else None

-- one parameter, and the bytes behind it
abbrev pub param : List ℕ → Option (Param × List ℕ)
param text = elim (after_byte 59 (off_blanks text)) [
  | None ↦ None
  | Some more ↦ elim (token (off_blanks more)) [
    | None ↦ None
    | Some named ↦ elim (after_byte 61 named.1) [
      | None ↦ None
      | Some given ↦ option_map (λ v. (record { name = named.0; value = v.0 }, v.1)) (value given)
    ]
  ]
]

-- a parameter before those that stand behind it
abbrev pub before_rest : Option (Param × List ℕ) → (List ℕ → Option (List Param)) → Option (List Param)
before_rest None later = None
before_rest (Some p) later = option_map (λ ps. p.0 ∷ ps) (later p.1)

-- the parameters that a text is, n of them at most: one after another up to its end
abbrev pub params_within : ℕ → List ℕ → Option (List Param)
params_within zero text = if list_all is_blank text then Some [] else None
params_within (suc n) text = if list_all is_blank text then Some [] else before_rest (param text) (λ rest. params_within n rest)

-- the parameters that a text is: no more than it has bytes
abbrev pub params_of : List ℕ → Option (List Param)
params_of text = params_within (length text) text

abbrev pub onto_front : Option (Param × List ℕ) → (List ℕ → List Param) → List Param
onto_front None later = []
onto_front (Some p) later = p.0 ∷ later p.1

-- the parameters at the front of a text, n of them at most: up to the first place where none stands
abbrev pub front_within : ℕ → List ℕ → List Param
front_within zero text = []
front_within (suc n) text = onto_front (param text) (λ rest. front_within n rest)

abbrev pub front_params : List ℕ → List Param
front_params text = front_within (length text) text

abbrev pub has_name : List ℕ → Param → Bool
has_name name p = same_word p.name name

-- the value of the first parameter of a name, in any case
abbrev pub value_of : List ℕ → List Param → Option (List ℕ)
value_of name ps = option_map (λ p. p.value) (find (has_name name) ps)
