-- The limits of a request, in bytes.
use Rattle.std.specs.Prelude.{ℕ}

-- a head, with its empty line
unfoldable pub head_limit : ℕ
head_limit = 65536

-- a body
unfoldable pub body_limit : ℕ
body_limit = 16777216

-- the chunked form of a body, with its trailers
unfoldable pub chunked_limit : ℕ
chunked_limit = 134217728

-- the trailers, with their empty line
unfoldable pub trailer_limit : ℕ
trailer_limit = 65536

-- room for the fields of any head or trailers within their limits, since a field line has three bytes at least
abbrev pub field_room : ℕ
field_room = 21846
