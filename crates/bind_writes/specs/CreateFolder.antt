-- The arguments of createFolder, judged in their order (CMIS 1.1, section 5.4.3.6).
use Rattle.std.specs.Prelude.{false, Ok, codes}
use Rattle.cm_base.specs.Judged.{Judged, ◌>>=◌, ◌>>◌}
use Rattle.call_parts.specs.declared.writes.CreateFolder.{CreateFolder}
use Rattle.form_args.specs.Pairs.{texts_of}
use Rattle.form_args.specs.Single.{flag_of}
use Rattle.form_args.specs.Properties.{properties_of, typed}
use Rattle.form_args.specs.Entries.{aces_of}
use Rattle.bind_parts.specs.declared.asking.Asking.{Asking}
use Rattle.bind_parts.specs.Parts.{place_of}

abbrev pub create_folder_of : Asking → Judged CreateFolder
create_folder_of asking = do
  succinct ← flag_of asking.form.pairs (codes "succinct") false
  properties ← properties_of asking.form.pairs
  typed properties
  add ← aces_of asking.form.pairs (codes "addACEPrincipal") (codes "addACEPermission")
  remove ← aces_of asking.form.pairs (codes "removeACEPrincipal") (codes "removeACEPermission")
  Ok (record { place = place_of asking; properties = properties; policies = texts_of asking.form.pairs (codes "policy"); remove = remove; add = add; succinct = succinct })
