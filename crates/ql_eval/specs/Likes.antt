-- The texts that are like a pattern (CMIS 1.1, section 2.1.14.2.1).
use Rattle.std.specs.Prelude.{ℕ, ◌==◌, Bool, true, false, ◌||◌, List, [], ◌∷◌, Option, Some, None, if◌then◌else◌}
use Rattle.core.specs.Fmt.{is_char_start}
use Rattle.ql_bind.specs.declared.bound.Piece.{Piece}
use Rattle.ql_bind.specs.declared.bound.Piece.TheVariants.{Run, Character, Byte}

-- from the next byte on that begins a character (RFC 3629, section 3)
abbrev pub next_start : List ℕ → List ℕ
next_start [] = []
next_start (b ∷ bs) = if is_char_start b then b ∷ bs else next_start bs

-- what follows the first character; none where no character begins the bytes
abbrev pub past_character : List ℕ → Option (List ℕ)
past_character [] = None
past_character (b ∷ bs) = if is_char_start b then Some (next_start bs) else None

-- what follows this byte, where it comes first
abbrev pub past_byte : ℕ → List ℕ → Option (List ℕ)
past_byte b [] = None
past_byte b (c ∷ cs) = if c == b then Some cs else None

-- what is left passes, where something is left
abbrev pub passes : (List ℕ → Bool) → Option (List ℕ) → Bool
passes f None = false
passes f (Some text) = f text

-- what is left behind some run of bytes passes
abbrev pub behind_run : (List ℕ → Bool) → List ℕ → Bool
behind_run f [] = f []
behind_run f (b ∷ bs) = f (b ∷ bs) || behind_run f bs

-- the whole text is a run for each %, a character for each _, and the bytes between
abbrev pub likes : List Piece → List ℕ → Bool
likes [] [] = true
likes [] (b ∷ bs) = false
likes (Run ∷ ps) text = behind_run (likes ps) text
likes (Character ∷ ps) text = passes (likes ps) (past_character text)
likes (Byte b ∷ ps) text = passes (likes ps) (past_byte b text)
