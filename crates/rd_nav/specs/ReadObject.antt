-- An object with its properties alone (CMIS 1.1, sections 2.2.4.8 and 2.2.4.9).
use Rattle.std.specs.Prelude.{ℕ, Bool, false, List, Ok}
use Rattle.cm_base.specs.declared.cause.Cause.TheVariants as causes
use Rattle.cm_base.specs.Judged.{Judged, ◌>>=◌, find_or}
use Rattle.call_parts.specs.declared.place.Place.{Place}
use Rattle.call_parts.specs.declared.readings.PropertyFilter.{PropertyFilter}
use Rattle.call_parts.specs.declared.replies.ObjectReply.{ObjectReply}
use Rattle.cm_see.specs.Addressed.{addressed}
use Rattle.cm_see.specs.Shown.{shown_object}
use Rattle.cmis_spec.specs.Repository.{Repository}

-- the addressed object as the caller sees it
abbrev pub answer_addressed : Repository → List ℕ → Place → PropertyFilter → Bool → Judged ObjectReply
answer_addressed r u place filter succinct = do
  x ← find_or causes.NotFound (addressed r u place)
  Ok (record { object = shown_object r u filter succinct x; created = false })
