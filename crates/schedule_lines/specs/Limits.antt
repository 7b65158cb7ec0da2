-- The bounds of a script.
use Rattle.std.specs.Prelude.{ℕ}

-- the most lines
unfoldable pub most_lines : ℕ
most_lines = 10000

-- the most bytes of a line, without its line feed
unfoldable pub longest_line : ℕ
longest_line = 300
