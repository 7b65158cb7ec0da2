-- What the trees in hand stand for.
use Rattle.std.specs.Prelude.{ℕ, nat_lt, Bool, false, List, [], ◌∷◌, map, Option, Some, None}
use Rattle.serde_json.specs.Data.{Data}
use Rattle.json_text.specs.declared.tree.Json.{Json}
use Rattle.json_text.specs.Shown.{data_of}
use Rattle.type_replies.specs.declared.tree.Tree.{Tree}
use Rattle.type_replies.specs.Types.{Top}

abbrev pub tree_shown : Tree → Top
tree_shown t = (t.level, data_of t.json)

abbrev pub standing : List Tree → List Top
standing ts = map tree_shown ts

-- of what was taken, if anything was
abbrev pub data_in : Option Json → List Data
data_in None = []
data_in (Some j) = data_of j ∷ []

abbrev pub front_is_deeper : ℕ → List Top → Bool
front_is_deeper level [] = false
front_is_deeper level (t ∷ ts) = nat_lt level t.0
