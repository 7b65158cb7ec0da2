-- The arguments of deleteTree, judged in their order (CMIS 1.1, section 5.4).
use Rattle.std.specs.Prelude.{ℕ, List, codes, bytes_eq, true, false, not, if◌then◌else◌, Option, Some, None, Ok}
use Rattle.cm_base.specs.declared.cause.Cause.TheVariants as causes
use Rattle.cm_base.specs.Judged.{Judged, ◌>>=◌, ◌>>◌, refuse}
use Rattle.delete_tree_parts.specs.declared.writes.DeleteTree.{DeleteTree}
use Rattle.delete_tree_parts.specs.declared.writes.UnfileObjects.{UnfileObjects}
use Rattle.delete_tree_parts.specs.declared.writes.UnfileObjects.TheVariants as ways
use Rattle.form_args.specs.declared.pairs.Pair.{Pair}
use Rattle.form_args.specs.Single.{chosen, flag_of}
use Rattle.bind_parts.specs.declared.asking.Asking.{Asking}
use Rattle.bind_parts.specs.Parts.{place_of}

-- the words of unfileObjects (section 2.2.4.17.1)
abbrev pub unfiling_named : List ℕ → Option UnfileObjects
unfiling_named word =
    if bytes_eq word (codes "unfile") then Some ways.Unfile
    else if bytes_eq word (codes "deletesinglefiled") then Some ways.DeleteSingleFiled
    else if bytes_eq word (codes "delete") then Some ways.Delete
    else None

-- objects are deleted where nothing is said
abbrev pub unfiling_of : List Pair → Judged UnfileObjects
unfiling_of pairs = chosen unfiling_named pairs (codes "unfileObjects") ways.Delete

-- a document is deleted by its whole series, and not by one version
abbrev pub whole_series : List Pair → Judged (Unit {0})
whole_series pairs = do
  all_versions ← flag_of pairs (codes "allVersions") true
  refuse (causes.NotServed (codes "deleteTree")) (not all_versions)

-- the visit ends at the first failure where nothing is said
abbrev pub delete_tree_of : Asking → Judged DeleteTree
delete_tree_of asking = do
  whole_series asking.form.pairs
  unfile_objects ← unfiling_of asking.form.pairs
  continue_on_failure ← flag_of asking.form.pairs (codes "continueOnFailure") false
  Ok (record { place = place_of asking; unfile_objects = unfile_objects; continue_on_failure = continue_on_failure })
