-- The arguments of the selector renditions, judged in their order (CMIS 1.1, section 5.4).
use Rattle.std.specs.Prelude.{Ok, codes}
use Rattle.cm_base.specs.Judged.{Judged, ◌>>=◌}
use Rattle.form_args.specs.Single.{number_of}
use Rattle.rendition_parts.specs.declared.readings.ReadRenditions.{ReadRenditions}
use Rattle.bind_parts.specs.declared.asking.Asking.{Asking}
use Rattle.bind_parts.specs.Parts.{place_of}
use Rattle.bind_readings.specs.Filters.{listed_filter}

-- 100 items where nothing is said; the filter has no causes
abbrev pub renditions_of : Asking → Judged ReadRenditions
renditions_of asking = do
  most ← number_of asking.form.pairs (codes "maxItems") 100
  skip ← number_of asking.form.pairs (codes "skipCount") 0
  Ok (record { place = place_of asking; filter = listed_filter asking.form.pairs; max_items = most; skip_count = skip })
