-- The media type of a content stream.
use Rattle.std.specs.Prelude.{ℕ, List, [], ◌∷◌, Bool, ◌&&◌, nat_le, Ok, Err, codes, length, if◌then◌else◌}
use Rattle.std.specs.List.{list_all}
use Rattle.cm_base.specs.declared.cause.Cause.TheVariants as causes
use Rattle.cm_base.specs.Judged.{Judged}
use Rattle.http_grammar.specs.Request.{FieldParts}
use Rattle.http_grammar.specs.Fields.{values_named}

-- a visible byte of ASCII, or a space
abbrev pub is_kind_byte : ℕ → Bool
is_kind_byte b = nat_le 32 b && nat_le b 126

abbrev pub has_kind_length : List ℕ → Bool
has_kind_length bytes = nat_le 1 (length bytes) && nat_le (length bytes) 255

-- a media type has 1 to 255 of these bytes
abbrev pub is_kind : List ℕ → Bool
is_kind bytes = has_kind_length bytes && list_all is_kind_byte bytes

-- the media type that a text names
abbrev pub kind_in : List ℕ → Judged (List ℕ)
kind_in value = if is_kind value then Ok value else Err causes.BadBody

abbrev pub kind_by : List (List ℕ) → Judged (List ℕ)
kind_by [] = Ok (codes "text/plain")
kind_by (value ∷ values) = kind_in value

-- the media type of a part with these fields: that of its first Content-Type, and text/plain without one (RFC 7578, section 4.4)
abbrev pub kind_of : List FieldParts → Judged (List ℕ)
kind_of fields = kind_by (values_named (codes "content-type") fields)
