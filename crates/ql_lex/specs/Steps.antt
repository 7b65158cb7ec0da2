-- One step of reading tokens.
use Rattle.std.specs.Prelude.{◌≡◌, ℕ, ◌+◌, ◌<◌, List, [], ◌∷◌, length}
use Rattle.ql_lex.specs.Lexes.{Lexes}
use Rattle.ql_lex.specs.declared.token.Token.{Token}
use Rattle.ql_lex.specs.declared.tokens.Step.{Step}
use Rattle.ql_lex.specs.declared.tokens.Step.TheVariants as steps

-- What was read, and what is left: the tokens of the text are those, and the tokens of what is left.
abbrev pub IsStep : ℕ → ℕ → List ℕ → Step → Type 0
IsStep limit at text steps.End = Lexes limit at text []
IsStep limit at text (steps.Last t) = Lexes limit at text (t ∷ [])
IsStep limit at text (steps.Broken t u) = Lexes limit at text (t ∷ u ∷ [])
IsStep limit at text (steps.Next t rest place) =
    ((ts : List Token) → Lexes limit place rest.now ts → Lexes limit at text (t ∷ ts)) × (length rest.now < length text) × (place + length rest.now ≡ at + length text)
