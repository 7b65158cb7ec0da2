-- The arguments of bulkUpdate, judged in their order (CMIS 1.1, sections 2.2.4.14 and 5.4).
use Rattle.std.specs.Prelude.{ℕ, ◌+◌, nat_lt, List, [], ◌∷◌, length, Ok, codes}
use Rattle.cm_base.specs.declared.cause.Cause.TheVariants as causes
use Rattle.cm_base.specs.Judged.{Judged, ◌>>=◌, ◌>>◌, refuse}
use Rattle.bulk_parts.specs.declared.writes.BulkUpdate.{BulkUpdate}
use Rattle.bulk_parts.specs.declared.writes.ObjectIdAndChangeToken.{ObjectIdAndChangeToken}
use Rattle.form_args.specs.declared.pairs.Pair.{Pair}
use Rattle.form_args.specs.Pairs.{first_of, indexed, texts_of}
use Rattle.form_args.specs.Properties.{properties_of}
use Rattle.bind_parts.specs.declared.asking.Asking.{Asking}

-- a call names at most so many objects
unfoldable pub most_objects : ℕ
most_objects = 1000

-- the id at this place, and the token beside it where it is given
abbrev pub object_at : List Pair → ℕ → List ℕ → ObjectIdAndChangeToken
object_at pairs i id = record { id = id; token = first_of pairs (indexed (codes "changeToken") i) }

-- one for each id, with the token at its place
abbrev pub objects_from : List Pair → ℕ → List (List ℕ) → List ObjectIdAndChangeToken
objects_from pairs i [] = []
objects_from pairs i (id ∷ ids) = object_at pairs i id ∷ objects_from pairs (i + 1) ids

-- the ids objectId[0], objectId[1], ..
abbrev pub object_ids : List Pair → List (List ℕ)
object_ids pairs = texts_of pairs (codes "objectId")

-- the objects that a form names, not too many
abbrev pub objects_of : List Pair → Judged (List ObjectIdAndChangeToken)
objects_of pairs = do
  refuse (causes.BadArgument (codes "objectId")) (nat_lt most_objects (length (object_ids pairs)))
  Ok (objects_from pairs 0 (object_ids pairs))

-- the secondary types to take off and to add are lists
abbrev pub bulk_update_of : Asking → Judged BulkUpdate
bulk_update_of asking = do
  properties ← properties_of asking.form.pairs
  objects ← objects_of asking.form.pairs
  Ok (record {
    objects = objects;
    properties = properties;
    remove_secondary = texts_of asking.form.pairs (codes "removeSecondaryTypeId");
    add_secondary = texts_of asking.form.pairs (codes "addSecondaryTypeId");
  })
