-- The program's words for a load: load N.
use Rattle.std.specs.Prelude.{ℕ, List, [], ◌∷◌, codes, bytes_eq, Option, None, if◌then◌else◌}
use Rattle.cm_base.specs.Decimals.{decimal_u64}
use Rattle.cmis_words.specs.Programs.{within}

abbrev pub requests_of : List ℕ → Option ℕ
requests_of word = within 1 10000 (decimal_u64 word)

-- how many requests the words ask for, or none where they are no words of load
abbrev pub load_of : List (List ℕ) → Option ℕ
load_of [] = None
load_of (word ∷ []) = None
load_of (word ∷ number ∷ []) = if bytes_eq word (codes "load") then requests_of number else None
load_of (word ∷ number ∷ other ∷ words) = None
