-- The names in a path (RFC 3986, section 3.3).
use Rattle.std.specs.Prelude.{ℕ, List, [], ◌∷◌, map, filter, if◌then◌else◌}
use Rattle.form_urlencoded.specs.Form.{split, is_nonempty}
use Rattle.percent_encoding.specs.Percent.{percent_decode}

-- the segments that have bytes
abbrev pub pieces_of : List ℕ → List (List ℕ)
pieces_of path = filter is_nonempty (split 47 path)

-- their decoded bytes
abbrev pub names_of : List ℕ → List (List ℕ)
names_of path = map percent_decode (pieces_of path)

-- the name of one segment, which has none where it is empty
abbrev pub piece_names : List ℕ → List (List ℕ)
piece_names piece = if is_nonempty piece then percent_decode piece ∷ [] else []
