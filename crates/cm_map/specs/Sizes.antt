-- How many members a block has: the constants of the code.
use Rattle.std.specs.Prelude.{ℕ}

-- the most members of a block
abbrev pub full : ℕ
full = 16

-- two neighbouring blocks have together more members than this
abbrev pub few : ℕ
few = 12
