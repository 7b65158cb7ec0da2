-- Names of objects.
use Rattle.std.specs.Prelude.{ℕ, ◌==◌, nat_lt, nat_le, Bool, ◌&&◌, ◌||◌, not, List, length}
use Rattle.std.specs.List.{list_any}

-- 1 to 255 bytes
abbrev pub has_name_length : List ℕ → Bool
has_name_length name = nat_lt 0 (length name) && nat_le (length name) 255

-- a slash or NUL
abbrev pub is_barred : ℕ → Bool
is_barred b = b == 47 || b == 0

-- a name has 1 to 255 bytes, and neither a slash nor NUL among them
abbrev pub is_name : List ℕ → Bool
is_name name = has_name_length name && not (list_any is_barred name)
