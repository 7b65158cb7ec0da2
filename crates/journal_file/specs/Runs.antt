-- What is said of a journal over many calls.
use Rattle.std.specs.Prelude.{ℕ, List, ◌++◌}
use Rattle.journal_file.specs.Records.{StandsFor}

-- the file stands for these payloads, and maybe for more behind them
abbrev pub StandsForMore : List (List ℕ) → List ℕ → Type 0
StandsForMore kept file = (more : List (List ℕ)) × StandsFor (kept ++ more) file
