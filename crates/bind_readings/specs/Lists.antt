-- The arguments of versions and parents, judged in their order (CMIS 1.1, section 5.4.2).
use Rattle.std.specs.Prelude.{false, Ok, codes}
use Rattle.cm_base.specs.Judged.{Judged, ◌>>=◌}
use Rattle.form_args.specs.Single.{flag_of}
use Rattle.form_args.specs.Filter.{filter_of}
use Rattle.bind_parts.specs.declared.asking.Asking.{Asking}
use Rattle.bind_parts.specs.Parts.{place_of}
use Rattle.include_parts.specs.declared.readings.ShowParents.{ShowParents}
use Rattle.include_parts.specs.declared.readings.ShowVersions.{ShowVersions}
use Rattle.bind_readings.specs.Includes.{includes_of}

-- both segments, which mean something in other readings of lists, are judged alone
abbrev pub show_versions_of : Asking → Judged ShowVersions
show_versions_of asking = do
  succinct ← flag_of asking.form.pairs (codes "succinct") false
  includes ← includes_of asking.form.pairs
  filter ← filter_of asking.form.pairs
  segments ← flag_of asking.form.pairs (codes "includePathSegment") false
  relative_segments ← flag_of asking.form.pairs (codes "includeRelativePathSegment") false
  Ok (record { versions = record { place = place_of asking; filter = filter; succinct = succinct }; includes = includes })

-- includePathSegment, which means something in other readings of lists, is judged alone
abbrev pub show_parents_of : Asking → Judged ShowParents
show_parents_of asking = do
  succinct ← flag_of asking.form.pairs (codes "succinct") false
  includes ← includes_of asking.form.pairs
  filter ← filter_of asking.form.pairs
  path_segments ← flag_of asking.form.pairs (codes "includePathSegment") false
  segments ← flag_of asking.form.pairs (codes "includeRelativePathSegment") false
  Ok (record { parents = record { place = place_of asking; filter = filter; segments = segments; succinct = succinct }; includes = includes })
