-- Moments, in milliseconds since 1970.
use Rattle.std.specs.Prelude.{ℕ}

-- the last moment that has a form of text: the end of the year 9999
unfoldable pub last_moment : ℕ
last_moment = 253402300799999
