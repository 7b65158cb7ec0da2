-- The tokens of a query's text (CMIS 1.1, section 2.1.14.2.1).
use Rattle.std.specs.Prelude.{◌≡◌, ℕ, ◌+◌, ◌-◌, ◌<◌, ◌≤◌, Bool, true, false, not, ◌||◌, ◌&&◌, ◌==◌, nat_lt, List, [], ◌∷◌, length, take, drop, slice_index, Option, Some, None, if◌then◌else◌, ◌⊎◌}
use Rattle.std.specs.List.{prefix_len}
use Rattle.std.specs.Option.{option_map, option_map_or}
use Rattle.ql_lex.specs.Words.{keyword_of}
use Rattle.ql_lex.specs.declared.word.Word.{Word}
use Rattle.ql_lex.specs.declared.word.Word.TheVariants as words
use Rattle.ql_lex.specs.declared.token.Kind.{Kind}
use Rattle.ql_lex.specs.declared.token.Kind.TheVariants as kinds
use Rattle.ql_lex.specs.declared.token.Token.{Token}

-- A blank, a tab or a line end.
abbrev pub is_blank : ℕ → Bool
is_blank b = b == 32 || b == 9 || b == 10 || b == 13

abbrev pub is_digit : ℕ → Bool
is_digit b = nat_lt 47 b && nat_lt b 58

-- A letter or `_`.
abbrev pub begins_name : ℕ → Bool
begins_name b = (nat_lt 64 b && nat_lt b 91) || (nat_lt 96 b && nat_lt b 123) || b == 95

-- A letter, a digit, `_` or `:`.
abbrev pub is_name_byte : ℕ → Bool
is_name_byte b = begins_name b || is_digit b || b == 58

-- What a backslash may stand before in a text: a quote, a backslash, `%` and `_`.
abbrev pub is_escapable : ℕ → Bool
is_escapable b = b == 39 || b == 92 || b == 37 || b == 95

-- How many bytes stand before the quote that closes a text, which isn't one behind a backslash (`escaped`); none where it isn't closed.
abbrev pub closing : Bool → List ℕ → Option ℕ
closing escaped [] = None
closing escaped (b ∷ bs) = if not escaped && b == 39 then Some 0 else option_map (λ n. n + 1) (closing (not escaped && b == 92) bs)

-- The offset of the first backslash that stands before no byte that it may stand before. The offset of the first byte is n.
abbrev pub wrong_escape : ℕ → Bool → List ℕ → Option ℕ
wrong_escape n escaped [] = None
wrong_escape n escaped (b ∷ bs) = if escaped && not (is_escapable b) then Some (n - 1) else wrong_escape (n + 1) (not escaped && b == 92) bs

-- A kind of token, and how many bytes it takes.
abbrev pub Lexeme : Type 0
Lexeme = Kind × ℕ

-- a keyword, or else a name
abbrev pub name_lexeme : List ℕ → Lexeme
name_lexeme bytes = (option_map_or (λ word. kinds.Word word) (keyword_of bytes) (kinds.Name bytes), length bytes)

-- a text, whose first quote stands before these bytes
abbrev pub quoted_lexeme : List ℕ → Lexeme
quoted_lexeme bytes = option_map_or (λ n. (kinds.Quoted (take n bytes), n + 2)) (closing false bytes) (kinds.Wrong, 1)

-- how many bytes a minus at the front takes
abbrev pub minus_len : List ℕ → ℕ
minus_len text = if slice_index text 0 == 45 then 1 else 0

-- how many bytes a minus and digits at the front take
abbrev pub whole_len : List ℕ → ℕ
whole_len text = minus_len text + prefix_len is_digit (drop (minus_len text) text)

-- how many digits stand behind a point at the front
abbrev pub fraction_len : List ℕ → ℕ
fraction_len text = if slice_index text 0 == 46 then prefix_len is_digit (drop 1 text) else 0

-- digits, and where a point and digits follow them, these too
abbrev pub digits_lexeme : List ℕ → ℕ → ℕ → Lexeme
digits_lexeme text whole fraction = if fraction == 0 then (kinds.Number (take whole text), whole) else (kinds.Decimal (take (whole + 1 + fraction) text), whole + 1 + fraction)

abbrev pub number_lexeme : List ℕ → Lexeme
number_lexeme text = if whole_len text == minus_len text then (kinds.Wrong, 1) else digits_lexeme text (whole_len text) (fraction_len (drop (whole_len text) text))

abbrev pub sign_lexeme : Word → ℕ → Lexeme
sign_lexeme word n = (kinds.Word word, n)

-- a sign, by its byte and the byte after it
abbrev pub sign_at : ℕ → ℕ → Lexeme
sign_at b next =
    if b == 42 then sign_lexeme words.Star 1
    else if b == 46 then sign_lexeme words.Dot 1
    else if b == 44 then sign_lexeme words.Comma 1
    else if b == 40 then sign_lexeme words.Open 1
    else if b == 41 then sign_lexeme words.Close 1
    else if b == 61 then sign_lexeme words.Equal 1
    else if b == 60 then (if next == 62 then sign_lexeme words.NotEqual 2 else if next == 61 then sign_lexeme words.LessEqual 2 else sign_lexeme words.Less 1)
    else if b == 62 then (if next == 61 then sign_lexeme words.GreaterEqual 2 else sign_lexeme words.Greater 1)
    else (kinds.Wrong, 1)

-- The token with which a text begins that begins with no blank. It takes as many bytes as it can.
unfoldable pub lexeme : List ℕ → Lexeme
lexeme text =
    if begins_name (slice_index text 0) then name_lexeme (take (prefix_len is_name_byte text) text)
    else if slice_index text 0 == 39 then quoted_lexeme (drop 1 text)
    else if is_digit (slice_index text 0) || slice_index text 0 == 45 then number_lexeme text
    else sign_at (slice_index text 0) (slice_index text 1)

abbrev pub blanks : List ℕ → ℕ
blanks = prefix_len is_blank

-- No token can stand there.
abbrev pub is_wrong : Kind → Bool
is_wrong kinds.Wrong = true
is_wrong (kinds.Quoted bytes) = false
is_wrong (kinds.Word word) = false
is_wrong (kinds.Name bytes) = false
is_wrong (kinds.Number bytes) = false
is_wrong (kinds.Decimal bytes) = false

-- The offset of the backslash that may not stand in a token at this offset.
abbrev pub broken_at : Kind → ℕ → Option ℕ
broken_at kinds.Wrong at = None
broken_at (kinds.Quoted bytes) at = wrong_escape (at + 1) false bytes
broken_at (kinds.Word word) at = None
broken_at (kinds.Name bytes) at = None
broken_at (kinds.Number bytes) at = None
broken_at (kinds.Decimal bytes) at = None

abbrev pub wrong_token : ℕ → List Token
wrong_token at = record { kind = kinds.Wrong; at = at } ∷ []

-- The tokens that end the list after one: behind a wrong token nothing is read, and a backslash that may not stand in a text is a wrong token after it.
abbrev pub ends_with : Kind → ℕ → Option (List Token)
ends_with kind at = if is_wrong kind then Some [] else option_map wrong_token (broken_at kind at)

-- What follows a token: these tokens, or where none is said, those of the rest.
abbrev pub Follow : Option (List Token) → List Token → Type 0 → Type 0
Follow None ts rest = rest
Follow (Some last) ts rest = ts ≡ last

-- The tokens of a text, at the offset n, that begin before the limit. Blanks may stand before each and at the end.
abbrev pub Lexes : ℕ → ℕ → List ℕ → List Token → Type 0
Lexes limit n text [] = (length (drop (blanks text) text) ≡ 0) ⊎ (limit ≤ n + blanks text)
Lexes limit n text (t ∷ ts) =
    let at = n + blanks text in
    let rest = drop (blanks text) text in
    (0 < length rest)
    × (at < limit)
    × (t ≡ record { kind = (lexeme rest).0; at = at })
    × Follow (ends_with (lexeme rest).0 at) ts (Lexes limit (at + (lexeme rest).1) (drop (lexeme rest).1 rest) ts)
