-- What a request gives to the readers of its arguments.
use Rattle.std.specs.Prelude.{ℕ, List, [], ◌∷◌, ◌++◌, codes, if◌then◌else◌}
use Rattle.http_grammar.specs.Request.{Head}
use Rattle.http_grammar.specs.Fields.{values_named, is_host}
use Rattle.form_args.specs.Read.{form_pairs}
use Rattle.form_parts.specs.declared.gathered.Parts.{Parts}
use Rattle.bind_parts.specs.declared.asking.Form.{Form}

-- the arguments are those of the form, and then those of the target's query; the first of a name counts
abbrev pub with_query : Parts → List ℕ → Form
with_query parts query = record { pairs = parts.pairs ++ form_pairs query; content = parts.content }

abbrev pub good_host : List ℕ → List ℕ
good_host value = if is_host value then value else codes "localhost"

abbrev pub host_by : List (List ℕ) → List ℕ
host_by [] = codes "localhost"
host_by (value ∷ []) = good_host value
host_by (value ∷ other ∷ values) = codes "localhost"

-- the host of the one good Host field (RFC 9112, section 3.2), or `localhost`
abbrev pub host_of : Head → List ℕ
host_of head = host_by (values_named (codes "host") head.fields)
