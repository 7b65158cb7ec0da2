-- The arguments of createItem, createPolicy and createRelationship, judged in their order (CMIS 1.1, section 5.4.3).
use Rattle.std.specs.Prelude.{List, false, Ok, codes}
use Rattle.cm_base.specs.Judged.{Judged, ◌>>=◌, ◌>>◌}
use Rattle.create_parts.specs.declared.writes.ObjectRequest.{ObjectRequest}
use Rattle.create_parts.specs.declared.writes.CreateItem.{CreateItem}
use Rattle.create_parts.specs.declared.writes.CreatePolicy.{CreatePolicy}
use Rattle.create_parts.specs.declared.writes.CreateRelationship.{CreateRelationship}
use Rattle.form_args.specs.declared.pairs.Pair.{Pair}
use Rattle.form_args.specs.Pairs.{texts_of}
use Rattle.form_args.specs.Single.{flag_of}
use Rattle.form_args.specs.Properties.{properties_of, typed}
use Rattle.form_args.specs.Entries.{aces_of}
use Rattle.bind_parts.specs.declared.asking.Asking.{Asking}
use Rattle.bind_writes.specs.Documents.{folder_of}

-- what is asked of the new object; additions are read first, though removals are done first
abbrev pub object_request_of : List Pair → Judged ObjectRequest
object_request_of pairs = do
  properties ← properties_of pairs
  typed properties
  add ← aces_of pairs (codes "addACEPrincipal") (codes "addACEPermission")
  remove ← aces_of pairs (codes "removeACEPrincipal") (codes "removeACEPermission")
  Ok (record { properties = properties; policies = texts_of pairs (codes "policy"); remove = remove; add = add })

abbrev pub create_item_of : Asking → Judged CreateItem
create_item_of asking = do
  succinct ← flag_of asking.form.pairs (codes "succinct") false
  object ← object_request_of asking.form.pairs
  Ok (record { place = folder_of asking; object = object; succinct = succinct })

abbrev pub create_policy_of : Asking → Judged CreatePolicy
create_policy_of asking = do
  succinct ← flag_of asking.form.pairs (codes "succinct") false
  object ← object_request_of asking.form.pairs
  Ok (record { place = folder_of asking; object = object; succinct = succinct })

-- the ends are properties; none of them is an argument of its own
abbrev pub create_relationship_of : Asking → Judged CreateRelationship
create_relationship_of asking = do
  succinct ← flag_of asking.form.pairs (codes "succinct") false
  object ← object_request_of asking.form.pairs
  Ok (record { place = folder_of asking; object = object; succinct = succinct })
