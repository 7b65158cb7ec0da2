-- The last event that a caller sees of the front of the log.
use Rattle.std.specs.Prelude.{ℕ, List, take}
use Rattle.cmis_spec.specs.Repository.{Repository}
use Rattle.cmis_spec.specs.Seen.{seen_events}
use Rattle.rd_types.specs.ReadInfo.{latest_of}

-- the number of the last of the first so many events that the caller sees, or 0
abbrev pub latest_in : Repository → List ℕ → ℕ → ℕ
latest_in r u count = latest_of (seen_events r u 1 (take count r.log))
