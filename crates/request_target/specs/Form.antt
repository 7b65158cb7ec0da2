-- The forms of a target (RFC 9112, section 3.2), and its path and query.
use Rattle.std.specs.Prelude.{ℕ, ◌+◌, ◌==◌, Bool, false, ◌||◌, List, [], ◌∷◌, take, drop, codes, Option, Some, None, if◌then◌else◌}
use Rattle.std.specs.List.{position_or_len}
use Rattle.std.specs.Str.{str_eq_ignore_ascii_case}

-- the origin form begins with a slash
abbrev pub is_origin : List ℕ → Bool
is_origin [] = false
is_origin (b ∷ bs) = b == 47

-- the absolute form begins with `http://`, in any case
abbrev pub is_absolute : List ℕ → Bool
is_absolute target = str_eq_ignore_ascii_case (take 7 target) (codes "http://")

-- an authority ends at a slash, a question mark or a number sign (RFC 3986, section 3.2)
abbrev pub ends_authority : ℕ → Bool
ends_authority b = b == 47 || (b == 63 || b == 35)

abbrev pub behind_authority : List ℕ → List ℕ
behind_authority text = drop (position_or_len ends_authority text) text

-- the path with the query: all of the origin form, and what stands behind the authority of the absolute form
abbrev pub locator : List ℕ → Option (List ℕ)
locator target =
    if is_origin target then Some target
    else if is_absolute target then Some (behind_authority (drop 7 target))
    else None

-- what stands before and after the first question mark
abbrev pub path_in : List ℕ → List ℕ
path_in text = take (position_or_len (λ b. b == 63) text) text

abbrev pub query_in : List ℕ → List ℕ
query_in text = drop (position_or_len (λ b. b == 63) text + 1) text
