-- What the program asks of one object after another, and what it answers of one.
use Rattle.std.specs.Prelude.{◌≡◌, Option, Some, None, Ok, true}
use Rattle.cm_base.specs.Judged.{Judged}
use Rattle.call_parts.specs.declared.changes.UpdateProperties.{UpdateProperties}
use Rattle.call_parts.specs.declared.place.Place.TheVariants.{Id}
use Rattle.bulk_parts.specs.declared.writes.BulkUpdate.{BulkUpdate}
use Rattle.bulk_parts.specs.declared.writes.ObjectIdAndChangeToken.{ObjectIdAndChangeToken}
use Rattle.wr_bulk.specs.BulkUpdate.{is_refused, update_of}

-- the same update of another object
abbrev pub asked_of : UpdateProperties → ObjectIdAndChangeToken → UpdateProperties
asked_of asked o = record asked { place = Id o.id; token = o.token }

-- the update is the one that the call asks for of an object
pub record AsksOfOne (call : BulkUpdate) (asked : UpdateProperties) : Type 0 where
  pub object : ObjectIdAndChangeToken
  pub is : asked ≡ update_of call object

-- the object that is found and what is asked of it, where the update is not refused; or none
abbrev pub Passes : {A B V : Type 0} → (A → B) → Option (A × V) → Judged (Unit {0}) → Option B → (B → V) → Type 0
Passes view (Some x) judged found of = (judged ≡ Ok tt) × (found ≡ Some (view x.0)) × (x.1 ≡ of (view x.0))
Passes view None judged found of = is_refused judged ≡ true
