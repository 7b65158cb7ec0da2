-- The arguments of descendants, folderTree and checkedout, judged in their order (CMIS 1.1, section 5.4.2).
use Rattle.std.specs.Prelude.{Bool, true, false, List, Option, Some, None, Ok, codes}
use Rattle.cm_base.specs.Judged.{Judged, ◌>>=◌}
use Rattle.call_parts.specs.declared.place.Place.{Place}
use Rattle.type_parts.specs.declared.readings.Depth.{Depth}
use Rattle.type_parts.specs.declared.readings.Depth.TheVariants as depths
use Rattle.include_parts.specs.declared.readings.ShowTree.{ShowTree}
use Rattle.include_parts.specs.declared.readings.ShowCheckedOut.{ShowCheckedOut}
use Rattle.form_args.specs.declared.pairs.Pair.{Pair}
use Rattle.form_args.specs.Single.{chosen, flag_of, number_of}
use Rattle.form_args.specs.Filter.{filter_of}
use Rattle.request_target.specs.declared.target.Target.{Target}
use Rattle.request_target.specs.declared.target.Target.TheVariants as targets
use Rattle.bind_parts.specs.declared.asking.Asking.{Asking}
use Rattle.bind_parts.specs.Parts.{place_of}
use Rattle.bind_readings.specs.Types.{depth_of_word}
use Rattle.bind_readings.specs.Includes.{includes_of}
use Rattle.bind_readings.specs.Order.{order_of}

-- ---- trees

-- two levels where nothing is said
abbrev pub tree_depth : List Pair → Judged Depth
tree_depth pairs = chosen depth_of_word pairs (codes "depth") (depths.Levels 2)

-- includeRelativePathSegment, which means something in other readings of lists, is judged alone
abbrev pub tree_of : Bool → Asking → Judged ShowTree
tree_of folders_only asking = do
  succinct ← flag_of asking.form.pairs (codes "succinct") false
  includes ← includes_of asking.form.pairs
  filter ← filter_of asking.form.pairs
  depth ← tree_depth asking.form.pairs
  segments ← flag_of asking.form.pairs (codes "includePathSegment") false
  relative_segments ← flag_of asking.form.pairs (codes "includeRelativePathSegment") false
  Ok (record {
    tree = record { place = place_of asking; filter = filter; depth = depth; segments = segments; succinct = succinct; folders_only = folders_only };
    includes = includes;
  })

abbrev pub descendants_of : Asking → Judged ShowTree
descendants_of asking = tree_of false asking

abbrev pub folder_tree_of : Asking → Judged ShowTree
folder_tree_of asking = tree_of true asking

-- ---- working copies

-- at the address of the repository no folder is addressed
abbrev pub folder_by : Target → Place → Option Place
folder_by targets.Service place = None
folder_by targets.Repository place = None
folder_by (targets.Object names) place = Some place

abbrev pub folder_of : Asking → Option Place
folder_of asking = folder_by asking.address (place_of asking)

-- 100 items where nothing is said; both segments, which mean something in other readings of lists, are judged alone
abbrev pub checked_out_of : Asking → Judged ShowCheckedOut
checked_out_of asking = do
  succinct ← flag_of asking.form.pairs (codes "succinct") false
  includes ← includes_of asking.form.pairs
  filter ← filter_of asking.form.pairs
  most ← number_of asking.form.pairs (codes "maxItems") 100
  skip ← number_of asking.form.pairs (codes "skipCount") 0
  order ← order_of asking.form.pairs
  segments ← flag_of asking.form.pairs (codes "includePathSegment") false
  relative_segments ← flag_of asking.form.pairs (codes "includeRelativePathSegment") false
  Ok (record {
    checked_out = record { place = folder_of asking; filter = filter; max_items = most; skip_count = skip; succinct = succinct };
    order = order;
    includes = includes;
  })
