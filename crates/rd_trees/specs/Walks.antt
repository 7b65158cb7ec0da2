-- What walks over a repository have in hand.
use Rattle.std.specs.Prelude.{ℕ, Bool, List, [], ◌∷◌, map, filter, Option, Some, None, if◌then◌else◌}
use Rattle.std.specs.List.{flat_map}
use Rattle.cm_base.specs.declared.number.Oid.{Oid}
use Rattle.cm_base.specs.declared.object.Object.{Object}
use Rattle.cm_types.specs.declared.definition.TypeDef.{TypeDef}
use Rattle.cm_types.specs.declared.definition.BaseType.TheVariants as bases
use Rattle.cm_types.specs.Types.{same_base}
use Rattle.cmis_spec.specs.Repository.{Repository, object_at}
use Rattle.rd_trees.specs.declared.tree.Node.{Node}
use Rattle.rd_trees.specs.ReadTree.{Placed}

-- the object, if there is one and it passes
abbrev pub object_if : (Object → Bool) → Option Object → List Object
object_if p None = []
object_if p (Some x) = if p x then x ∷ [] else []

-- of the objects of these numbers, those that pass
abbrev pub found_among : (Object → Bool) → Repository → List Oid → List Object
found_among p r ns = flat_map (λ n. object_if p (object_at r n)) ns

-- the ids of the types of documents (CMIS 1.1, section 2.1.4)
abbrev pub document_types : List TypeDef → List (List ℕ)
document_types types = map (λ t. t.id) (filter (λ t. same_base bases.Document t.base) types)

abbrev pub node_shown : Node → Placed
node_shown t = (t.level, t.object.now)

abbrev pub nodes_shown : List Node → List Placed
nodes_shown ts = map node_shown ts
