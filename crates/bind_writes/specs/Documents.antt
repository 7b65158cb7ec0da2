-- The arguments of createDocument, checkOut, cancelCheckOut, checkIn and delete, judged in their order (CMIS 1.1, section 5.4).
use Rattle.std.specs.Prelude.{ℕ, List, codes, bytes_eq, Bool, true, false, not, ◌||◌, Option, Some, None, option_map, Ok}
use Rattle.cm_base.specs.declared.cause.Cause.TheVariants as causes
use Rattle.cm_base.specs.declared.series.VersioningState.{VersioningState}
use Rattle.cm_base.specs.Judged.{Judged, ◌>>=◌, ◌>>◌, refuse}
use Rattle.cm_base.specs.States.{state_of_word}
use Rattle.call_parts.specs.declared.place.Place.{Place}
use Rattle.call_parts.specs.declared.versions.CreateDocument.{CreateDocument}
use Rattle.call_parts.specs.declared.versions.CheckOut.{CheckOut}
use Rattle.call_parts.specs.declared.versions.CancelCheckOut.{CancelCheckOut}
use Rattle.call_parts.specs.declared.versions.CheckIn.{CheckIn}
use Rattle.call_parts.specs.declared.versions.Delete.{Delete}
use Rattle.form_args.specs.declared.pairs.Pair.{Pair}
use Rattle.form_args.specs.Pairs.{first_of, texts_of}
use Rattle.form_args.specs.Single.{chosen, flag_of}
use Rattle.form_args.specs.Properties.{properties_of, typed}
use Rattle.form_args.specs.Entries.{aces_of}
use Rattle.request_target.specs.declared.target.Target.{Target}
use Rattle.request_target.specs.declared.target.Target.TheVariants as targets
use Rattle.bind_parts.specs.declared.asking.Asking.{Asking}
use Rattle.bind_parts.specs.Parts.{place_of}

-- the versioning state, where it is given
abbrev pub state_of : List Pair → Judged (Option VersioningState)
state_of pairs = chosen (λ word. option_map (λ state. Some state) (state_of_word word)) pairs (codes "versioningState") None

-- no folder but at the address of an object
abbrev pub folder_at : Target → Place → Option Place
folder_at targets.Service place = None
folder_at targets.Repository place = None
folder_at (targets.Object names) place = Some place

abbrev pub folder_of : Asking → Option Place
folder_of asking = folder_at asking.address (place_of asking)

abbrev pub create_document_of : Asking → Judged CreateDocument
create_document_of asking = do
  succinct ← flag_of asking.form.pairs (codes "succinct") false
  properties ← properties_of asking.form.pairs
  typed properties
  add ← aces_of asking.form.pairs (codes "addACEPrincipal") (codes "addACEPermission")
  remove ← aces_of asking.form.pairs (codes "removeACEPrincipal") (codes "removeACEPermission")
  state ← state_of asking.form.pairs
  Ok (record { place = folder_of asking; properties = properties; policies = texts_of asking.form.pairs (codes "policy"); remove = remove; add = add; state = state; stream = asking.form.content; succinct = succinct })

abbrev pub check_out_of : Asking → Judged CheckOut
check_out_of asking = do
  succinct ← flag_of asking.form.pairs (codes "succinct") false
  Ok (record { place = place_of asking; succinct = succinct })

abbrev pub cancel_check_out_of : Asking → Judged CancelCheckOut
cancel_check_out_of asking = Ok (record { place = place_of asking })

-- a major version where nothing is said; the properties need not name a type
abbrev pub check_in_of : Asking → Judged CheckIn
check_in_of asking = do
  succinct ← flag_of asking.form.pairs (codes "succinct") false
  major ← flag_of asking.form.pairs (codes "major") true
  properties ← properties_of asking.form.pairs
  Ok (record { place = place_of asking; major = major; comment = first_of asking.form.pairs (codes "checkinComment"); properties = properties; stream = asking.form.content; succinct = succinct })

-- the words of unfileObjects
abbrev pub is_unfiling : List ℕ → Bool
is_unfiling word = bytes_eq word (codes "delete") || (bytes_eq word (codes "unfile") || bytes_eq word (codes "deletesinglefiled"))

abbrev pub unfiling_by : Option (List ℕ) → Judged (Unit {0})
unfiling_by None = Ok tt
unfiling_by (Some word) = refuse (causes.BadArgument (codes "unfileObjects")) (not (is_unfiling word))

-- unfileObjects is one of these words where it is given
abbrev pub unfiling : List Pair → Judged (Unit {0})
unfiling pairs = unfiling_by (first_of pairs (codes "unfileObjects"))

-- the whole series where nothing is said; unfileObjects and continueOnFailure, which mean something in deleteTree, are judged alone
abbrev pub delete_of : Asking → Judged Delete
delete_of asking = do
  all_versions ← flag_of asking.form.pairs (codes "allVersions") true
  unfiling asking.form.pairs
  continue_on_failure ← flag_of asking.form.pairs (codes "continueOnFailure") false
  Ok (record { place = place_of asking; all_versions = all_versions })
