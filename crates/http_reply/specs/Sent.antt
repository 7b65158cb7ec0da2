-- What a sink has taken of a text, and with which pieces it was sent.
use Rattle.std.specs.Prelude.{◌≡◌, ℕ, ◌<◌, List, [], ◌∷◌, ◌++◌, length, drop, Option}
use Rattle.outside.specs.Outside.{SinkTold, Took, with_pieces}

-- only a front of the text was taken
abbrev pub TookFront : SinkTold → SinkTold → List ℕ → Type 0
TookFront old new text = (front : List ℕ) × (rest : List ℕ) × (text ≡ front ++ rest) × Took old new front

-- the piece is all of the text from one place on, and has at least one byte
pub record IsRest (text piece : List ℕ) : Type 0 where
  pub place : ℕ
  pub inside : place < length text
  pub piece_is : piece ≡ drop place text

-- each piece is such a rest
abbrev pub AreRests : List ℕ → List (List ℕ) → Type 0
AreRests text [] = Unit {0}
AreRests text (piece ∷ pieces) = IsRest text piece × AreRests text pieces

-- each write for the text was given all of it that was left
pub record Offers (old new : Option (List (List ℕ))) (text : List ℕ) : Type 0 where
  pub pieces : List (List ℕ)
  pub rests : AreRests text pieces
  pub new_is : new ≡ with_pieces old pieces

-- the writes for the first text, and behind them those for the second
pub record OffersBoth (old new : Option (List (List ℕ))) (first second : List ℕ) : Type 0 where
  pub between : Option (List (List ℕ))
  pub for_first : Offers old between first
  pub for_second : Offers between new second
