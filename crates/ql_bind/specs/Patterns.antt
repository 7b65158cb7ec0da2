-- The patterns of LIKE (CMIS 1.1, section 2.1.14.2.1).
use Rattle.std.specs.Prelude.{ℕ, ◌==◌, true, false, List, [], ◌∷◌, ◌++◌, fold, if◌then◌else◌}
use Rattle.ql_bind.specs.declared.bound.Piece.{Piece}
use Rattle.ql_bind.specs.declared.bound.Piece.TheVariants.{Run, Character, Byte}
use Rattle.ql_bind.specs.declared.pattern.Reading.{Reading}

-- what stands behind no backslash: % is any run of bytes, _ one character
abbrev pub unescaped_piece : ℕ → Piece
unescaped_piece b =
    if b == 37 then Run
    else if b == 95 then Character
    else Byte b

-- one byte more: what stands behind a backslash is itself
abbrev pub next_piece : Reading → ℕ → Reading
next_piece s b =
    if s.escaped then record { escaped = false; pieces = s.pieces ++ Byte b ∷ [] }
    else if b == 92 then record { escaped = true; pieces = s.pieces }
    else record { escaped = false; pieces = s.pieces ++ unescaped_piece b ∷ [] }

abbrev pub nothing_read : Reading
nothing_read = record { escaped = false; pieces = [] }

abbrev pub pieces_of : List ℕ → List Piece
pieces_of text = (fold next_piece nothing_read text).pieces
