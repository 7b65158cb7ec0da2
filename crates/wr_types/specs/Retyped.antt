-- What the writes on types have in common (CMIS 1.1, sections 2.2.2.6 to 2.2.2.8).
use Rattle.std.specs.Prelude.{ℕ, Bool, not, List}
use Rattle.cm_types.specs.declared.definition.TypeDef.{TypeDef}
use Rattle.cm_types.specs.declared.definition.BaseType.TheVariants as bases
use Rattle.cm_types.specs.BaseTypes.{base_row}
use Rattle.cmis_spec.specs.Repository.{Repository}
use Rattle.cmis_spec.specs.Access.{is_administrator}
use Rattle.cmis_spec.specs.Changes.{stepped, with_types}

-- types are the administrator's
abbrev pub may_not_type : Repository → List ℕ → Bool
may_not_type r u = not (is_administrator r.users u)

-- other types, one step further; no event tells of them
abbrev pub retyped : Repository → List TypeDef → ℕ → Repository
retyped r types cost = with_types (stepped r cost) types

-- what stands for a type that is not there, where the call is refused
unfoldable pub no_type : TypeDef
no_type = base_row bases.Item
