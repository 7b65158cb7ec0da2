-- Types by which the same objects are folders.
use Rattle.std.specs.Prelude.{◌≡◌, List, All}
use Rattle.cm_types.specs.declared.definition.TypeDef.{TypeDef}
use Rattle.cm_types.specs.declared.definition.BaseType.TheVariants as bases
use Rattle.cm_types.specs.Types.{is_of_base}
use Rattle.cmis_spec.specs.Repository.{Repository, is_a}

abbrev pub FoldersStay : Repository → List TypeDef → Type 0
FoldersStay r types = All (λ x. is_of_base types bases.Folder x.kind ≡ is_a r bases.Folder x) r.objects
