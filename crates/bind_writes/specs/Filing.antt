-- The arguments of move, addObjectToFolder and removeObjectFromFolder, judged in their order (CMIS 1.1, section 5.4).
use Rattle.std.specs.Prelude.{false, Ok, codes}
use Rattle.cm_base.specs.Judged.{Judged, ◌>>=◌}
use Rattle.call_parts.specs.declared.changes.MoveObject.{MoveObject}
use Rattle.call_parts.specs.declared.changes.AddToFolder.{AddToFolder}
use Rattle.call_parts.specs.declared.changes.RemoveFromFolder.{RemoveFromFolder}
use Rattle.form_args.specs.Pairs.{first_of}
use Rattle.form_args.specs.Single.{flag_of, needed}
use Rattle.bind_parts.specs.declared.asking.Asking.{Asking}
use Rattle.bind_parts.specs.Parts.{place_of}

abbrev pub move_of : Asking → Judged MoveObject
move_of asking = do
  succinct ← flag_of asking.form.pairs (codes "succinct") false
  source ← needed asking.form.pairs (codes "sourceFolderId")
  target ← needed asking.form.pairs (codes "targetFolderId")
  Ok (record { place = place_of asking; source = source; target = target; succinct = succinct })

abbrev pub add_to_folder_of : Asking → Judged AddToFolder
add_to_folder_of asking = do
  succinct ← flag_of asking.form.pairs (codes "succinct") false
  folder ← needed asking.form.pairs (codes "folderId")
  Ok (record { place = place_of asking; folder = folder; succinct = succinct })

-- without a folder the object is taken out of all
abbrev pub remove_from_folder_of : Asking → Judged RemoveFromFolder
remove_from_folder_of asking = do
  succinct ← flag_of asking.form.pairs (codes "succinct") false
  Ok (record { place = place_of asking; folder = first_of asking.form.pairs (codes "folderId"); succinct = succinct })
