-- The arguments of children, and of an object without a selector, judged in their order (CMIS 1.1, sections 5.4.2.3 and 5.4.2.4).
use Rattle.std.specs.Prelude.{false, Ok, codes}
use Rattle.cm_base.specs.Judged.{Judged, ◌>>=◌}
use Rattle.form_args.specs.Pairs.{first_of}
use Rattle.form_args.specs.Single.{flag_of, number_of}
use Rattle.form_args.specs.Filter.{filter_of}
use Rattle.bind_parts.specs.declared.asking.Asking.{Asking}
use Rattle.bind_parts.specs.Parts.{place_of}
use Rattle.bind_readings.specs.Order.{order_of}
use Rattle.include_parts.specs.declared.readings.ShowChildren.{ShowChildren}
use Rattle.include_parts.specs.declared.readings.ShowDefault.{ShowDefault}
use Rattle.bind_readings.specs.Includes.{includes_of, version_of}

-- 100 items where nothing is said; includeRelativePathSegment, which means something in other readings of lists, is judged alone
abbrev pub show_children_of : Asking → Judged ShowChildren
show_children_of asking = do
  succinct ← flag_of asking.form.pairs (codes "succinct") false
  includes ← includes_of asking.form.pairs
  filter ← filter_of asking.form.pairs
  most ← number_of asking.form.pairs (codes "maxItems") 100
  skip ← number_of asking.form.pairs (codes "skipCount") 0
  order ← order_of asking.form.pairs
  segments ← flag_of asking.form.pairs (codes "includePathSegment") false
  relative_segments ← flag_of asking.form.pairs (codes "includeRelativePathSegment") false
  Ok (record {
    children = record { place = place_of asking; filter = filter; max_items = most; skip_count = skip; succinct = succinct };
    order = order;
    segments = segments;
    includes = includes;
  })

-- the arguments of children, and then those of object and content that are none of children; what has no selector and is no document has
-- one version alone, so the version is judged and means nothing
abbrev pub show_default_of : Asking → Judged ShowDefault
show_default_of asking = do
  children ← show_children_of asking
  version ← version_of asking.form.pairs
  Ok (record { children = children; stream = first_of asking.form.pairs (codes "streamId") })
