-- Media types (RFC 9110, section 8.3.1).
use Rattle.std.specs.Prelude.{ℕ, ◌==◌, Bool, true, ◌&&◌, ◌||◌, List, [], ◌∷◌, length, take, drop, if◌then◌else◌}
use Rattle.std.specs.Str.{str_eq_ignore_ascii_case}

abbrev pub is_blank : ℕ → Bool
is_blank b = b == 32 || b == 9

-- blanks, and then the end or a parameter's semicolon
abbrev pub ends_type : List ℕ → Bool
ends_type [] = true
ends_type (b ∷ bs) = if is_blank b then ends_type bs else b == 59

-- the value is of this media type, in any case; its parameters are ignored
abbrev pub is_of_type : List ℕ → List ℕ → Bool
is_of_type name value = str_eq_ignore_ascii_case (take (length name) value) name && ends_type (drop (length name) value)
