-- The arguments of object and properties, judged in their order (CMIS 1.1, sections 5.4.2.1 and 5.4.2.9).
use Rattle.std.specs.Prelude.{false, Ok, codes}
use Rattle.cm_base.specs.Judged.{Judged, ◌>>=◌}
use Rattle.form_args.specs.Single.{flag_of}
use Rattle.form_args.specs.Filter.{filter_of}
use Rattle.bind_parts.specs.declared.asking.Asking.{Asking}
use Rattle.bind_parts.specs.Parts.{place_of}
use Rattle.include_parts.specs.declared.readings.ShowObject.{ShowObject}
use Rattle.include_parts.specs.declared.readings.ShowProperties.{ShowProperties}
use Rattle.bind_readings.specs.Includes.{includes_of, version_of}

abbrev pub show_object_of : Asking → Judged ShowObject
show_object_of asking = do
  succinct ← flag_of asking.form.pairs (codes "succinct") false
  filter ← filter_of asking.form.pairs
  version ← version_of asking.form.pairs
  includes ← includes_of asking.form.pairs
  Ok (record { object = record { place = place_of asking; filter = filter; succinct = succinct }; version = version; includes = includes })

abbrev pub show_properties_of : Asking → Judged ShowProperties
show_properties_of asking = do
  succinct ← flag_of asking.form.pairs (codes "succinct") false
  filter ← filter_of asking.form.pairs
  version ← version_of asking.form.pairs
  Ok (record { properties = record { place = place_of asking; filter = filter; succinct = succinct }; version = version })
