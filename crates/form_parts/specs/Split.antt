-- The parts of a multipart body.
use Rattle.std.specs.Prelude.{◌≡◌, ℕ, List, [], ◌∷◌, ◌++◌, All}
use Rattle.form_parts.specs.declared.mark.Mark.{Mark}
use Rattle.form_parts.specs.declared.mark.Mark.TheVariants.{Plain, Open, Last}
use Rattle.form_parts.specs.Lines.{crlf, ended, AreLines}
use Rattle.form_parts.specs.Marks.{mark_of}

-- the first delimiter among the lines: the lines before it, itself, and those after it
pub record Cut (boundary : List ℕ) (lines group : List (List ℕ)) (line : List ℕ) (later : List (List ℕ)) : Type 0 where
  pub same : lines ≡ group ++ (line ∷ later)
  pub content : All (λ l. mark_of boundary l ≡ Plain) group

-- a part stands up to the next delimiter, whose CR LF before it is not the part's; then Rest
pub record Piece (boundary : List ℕ) (lines : List (List ℕ)) (part : List ℕ) (Rest : Mark → List (List ℕ) → Type 0) : Type 0 where
  pub group : List (List ℕ)
  pub line : List ℕ
  pub later : List (List ℕ)
  pub cut : Cut boundary lines group line later
  pub text : ended group ≡ part ++ crlf
  pub rest : Rest (mark_of boundary line) later

-- these parts stand after a delimiter: none after the last, one or more after another
abbrev pub Follow : List ℕ → Mark → List (List ℕ) → List (List ℕ) → Type 0
Follow boundary mark lines [] = mark ≡ Last
Follow boundary mark lines (part ∷ parts) = (mark ≡ Open) × Piece boundary lines part (λ next later. Follow boundary next later parts)

-- the parts of a body: what stands before the first and after the last delimiter is dropped
pub record IsSplit (boundary body : List ℕ) (parts : List (List ℕ)) : Type 0 where
  pub lines : List (List ℕ)
  pub are : AreLines body lines
  pub front : List (List ℕ)
  pub line : List ℕ
  pub later : List (List ℕ)
  pub cut : Cut boundary lines front line later
  pub follow : Follow boundary (mark_of boundary line) later parts
