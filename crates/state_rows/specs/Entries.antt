-- The objects that an entry of a folder has among the rows: the versions of a series, or else the folder or item.
use Rattle.std.specs.Prelude.{List, [], ◌∷◌, map, Option, Some, None, is_none, if◌then◌else◌}
use Rattle.cm_base.specs.declared.number.Oid.{Oid}
use Rattle.cm_base.specs.declared.object.Object.{Object}
use Rattle.cm_base.specs.declared.series.Series.{Series}
use Rattle.cmis_spec.specs.Repository.{Repository, object_at, series_at}

-- the number of the object, if it is there and in no series
abbrev pub own_number : Option Object → List Oid
own_number None = []
own_number (Some x) = if is_none x.series then x.id ∷ [] else []

abbrev pub rows_by : Repository → Oid → Option Series → List Oid
rows_by r n (Some s) = map (λ v. v.object) s.versions
rows_by r n None = own_number (object_at r n)

abbrev pub rows_at : Repository → Oid → List Oid
rows_at r n = rows_by r n (series_at r n)
