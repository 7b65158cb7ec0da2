-- Options: words NAME=VALUE, in any order, each at most once.
use Rattle.std.specs.Prelude.{ℕ, ◌==◌, Bool, true, ◌&&◌, List, [], ◌∷◌, bytes_eq, Option, Some, None, is_some, is_none, if◌then◌else◌}
use Rattle.std.specs.List.{list_any, before_first, after_first}

abbrev pub is_equals : ℕ → Bool
is_equals b = b == 61

-- what stands behind this name and an equals sign
abbrev pub behind : List ℕ → List ℕ → Option (List ℕ)
behind name word = if list_any is_equals word && bytes_eq (before_first is_equals word) name then Some (after_first is_equals word) else None

-- the first option of this name
abbrev pub option_of : List ℕ → List (List ℕ) → Option (List ℕ)
option_of name [] = None
option_of name (word ∷ words) = if is_some (behind name word) then behind name word else option_of name words

-- the option of this name stands at most once
abbrev pub stands_once : List ℕ → List (List ℕ) → Bool
stands_once name [] = true
stands_once name (word ∷ words) = if is_some (behind name word) then is_none (option_of name words) else stands_once name words
