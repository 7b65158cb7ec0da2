-- What the filing tells of each child: whether it is a folder, and its name.
use Rattle.std.specs.Prelude.{ℕ, Bool, false, List, [], map, find, Option, unwrap_or, option_map, option_and_then}
use Rattle.cm_base.specs.declared.number.Oid.{Oid}
use Rattle.cm_base.specs.declared.object.Object.{Object}
use Rattle.cm_base.specs.declared.series.Series.{Series}
use Rattle.cm_base.specs.declared.filing.Filed.{Filed}
use Rattle.cm_types.specs.declared.definition.TypeDef.{TypeDef}
use Rattle.cm_types.specs.declared.definition.BaseType.TheVariants as bases
use Rattle.cm_types.specs.Types.{is_of_base}
use Rattle.cm_folder.specs.declared.entry.FilingEntry.{FilingEntry}
use Rattle.cmis_spec.specs.Repository.{Repository, same}

abbrev pub object_in : List Object → Oid → Option Object
object_in objects n = find (λ x. same x.id n) objects

abbrev pub series_in : List Series → Oid → Option Series
series_in series n = find (λ s. same s.id n) series

-- the name of an entry, by the series and the object of its number
abbrev pub name_by : List Series → List Object → Oid → List ℕ
name_by series objects n = unwrap_or (option_map (λ s. s.name) (series_in series n)) (unwrap_or (option_and_then (λ x. x.name) (object_in objects n)) [])

-- whether an entry is a folder, by the object of its number
abbrev pub folder_by : List TypeDef → List Object → Oid → Bool
folder_by types objects n = unwrap_or (option_map (λ x. is_of_base types bases.Folder x.kind) (object_in objects n)) false

-- the entry of a pair
abbrev pub entry_by : List TypeDef → List Series → List Object → Filed → FilingEntry
entry_by types series objects p = record { folder = p.folder; child = p.child; is_folder = folder_by types objects p.child; name = name_by series objects p.child }

-- the filing of a repository: its pairs, each with what it tells of its child
abbrev pub entries_of : Repository → List FilingEntry
entries_of r = map (entry_by r.types r.series r.objects) r.filed
