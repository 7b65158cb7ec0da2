-- The versions of a document (CMIS 1.1, section 2.2.7.6).
use Rattle.std.specs.Prelude.{ℕ, List, [], reverse, option_map, unwrap_or}
use Rattle.std.specs.List.{filter_map}
use Rattle.cm_base.specs.declared.number.Oid.{Oid}
use Rattle.cm_base.specs.declared.object.Object.{Object}
use Rattle.cm_base.specs.declared.series.Series.{Series}
use Rattle.cmis_spec.specs.Repository.{Repository, series_of}
use Rattle.cmis_spec.specs.Access.{read_at}
use Rattle.cmis_spec.specs.Well.{members}

-- the working copy, and then the versions from the latest to the first
abbrev pub latest_first : Series → List Oid
latest_first s = reverse (members s)

-- those of x's series that the caller reads
abbrev pub versions_of : Repository → List ℕ → Object → List Object
versions_of r u x = filter_map (read_at r u) (unwrap_or (option_map latest_first (series_of r x)) [])
