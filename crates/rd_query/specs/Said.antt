-- What the text of a query says, as a function of the text (CMIS 1.1, section 2.1.14.2.1).
use Rattle.std.specs.Prelude.{ℕ, List}
use Rattle.cm_base.specs.Judged.{Judged, ◌>>=◌}
use Rattle.cm_types.specs.declared.definition.TypeDef.{TypeDef}
use Rattle.ql_tree.specs.declared.tree.Query.{Query}
use Rattle.ql_bind.specs.declared.bound.Bound.{Bound}
use Rattle.ql_bind.specs.Binding.{bound_query}
use Rattle.ql_said.proofs.Sayings.{saying}

-- the one thing that the text says by `Says`: its query, or the cause why it is none
unfoldable pub said : List ℕ → Judged Query
said text = (saying text).0

-- the query with its names looked up in the types and its constants read, or the first cause that refuses it
unfoldable pub bound_of : List TypeDef → List ℕ → Judged Bound
bound_of types text = said text >>= bound_query types
