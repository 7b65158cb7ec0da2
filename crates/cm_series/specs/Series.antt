-- How a version series begins, and its name (CMIS 1.1, section 2.1.13); what a check-out and a check-in make of it is said in `Documents`.
use Rattle.std.specs.Prelude.{ℕ, List, [], ◌∷◌, Option, Some, None}
use Rattle.cm_base.specs.declared.number.Oid.{Oid}
use Rattle.cm_base.specs.declared.series.Series.{Series}
use Rattle.cm_base.specs.declared.series.Label.{Label}
use Rattle.cm_base.specs.declared.series.VersioningState.{VersioningState}
use Rattle.cm_base.specs.declared.series.VersioningState.TheVariants as states

-- the label of its first version; it has none where the type is not versionable
abbrev pub first_label : VersioningState → Option Label
first_label states.Major = Some (record { major = 1; minor = 0 })
first_label states.Minor = Some (record { major = 0; minor = 1 })
first_label _ = None

-- the series that begins with the document of number n, which u makes: with its first version, or checked out by u
abbrev pub new_series : Oid → List ℕ → List ℕ → VersioningState → Series
new_series n u name states.CheckedOut = record { id = n; name = name; versions = []; working = Some (record { copy = n; owner = u }) }
new_series n u name state = record { id = n; name = name; versions = record { object = n; label = first_label state } ∷ []; working = None }

abbrev pub under_name : List ℕ → Series → Series
under_name name s = record s { name = name }
