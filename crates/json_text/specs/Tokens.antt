-- The tokens of JSON, as they are written from front to back.
use Rattle.std.specs.Prelude.{ℕ, List, [], ◌∷◌}
use Rattle.std.specs.List.{flat_map}
use Rattle.json.specs.Token.{Token}
use Rattle.json.specs.Tree.{json_tokens}
use Rattle.serde_json.specs.Data.{Data, Members, no_members, member}
use Rattle.serde_json.specs.Written.{outline}

-- the tokens of a value
abbrev pub tokens_of : Data → List Token
tokens_of d = json_tokens (outline d)

-- the tokens of one member of an object
abbrev pub field_tokens : List ℕ × Data → List Token
field_tokens f = Token.key f.0 ∷ tokens_of f.1

-- the tokens of several values, with no brackets
abbrev pub each_tokens : List Data → List Token
each_tokens = flat_map tokens_of

-- the tokens of several members, with no brackets
abbrev pub fields_tokens : List (List ℕ × Data) → List Token
fields_tokens = flat_map field_tokens

-- members in this very order
abbrev pub listed_members : List (List ℕ × Data) → Members
listed_members [] = no_members
listed_members (f ∷ fs) = member f.0 f.1 (listed_members fs)
