-- What the caller sees of the front of the log.
use Rattle.std.specs.Prelude.{ℕ, List, take}
use Rattle.cm_base.specs.declared.log.Change.{Change}
use Rattle.cmis_spec.specs.Repository.{Repository}
use Rattle.cmis_spec.specs.Seen.{SeenEvent, seen_events}
use Rattle.rd_log.specs.ReadChanges.{events_from}

-- from the token on, of the first so many events
abbrev pub events_in : Repository → List ℕ → ℕ → ℕ → List SeenEvent
events_in r u token count = events_from token (seen_events r u 1 (take count r.log))

abbrev pub seen_event : ℕ → Change → SeenEvent
seen_event number c = record { number = number; kind = c.kind; object = c.object; moment = c.moment }
