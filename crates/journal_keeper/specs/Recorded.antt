-- Entries as payloads of a journal.
use Rattle.std.specs.Prelude.{ℕ, ◌+◌, List, map}
use Rattle.std.specs.List.{AllByRecursion}
use Rattle.byte_codec.specs.Codecs.{Codec}
use Rattle.desk_model.specs.declared.entry.Entry.{Entry}

-- the entry, made by the session of this number
abbrev pub by_session : {C : Type 0} → ℕ → Entry C → Entry C
by_session number e = record { session = number; serial = e.serial; user = e.user; moment = e.moment; call = e.call }

-- the entry as a journal has it: a session's number there is its number in its run, and this much more
abbrev pub shifted : {C : Type 0} → ℕ → Entry C → Entry C
shifted offset e = by_session (e.session + offset) e

-- the entries as payloads
abbrev pub payloads : {C : Type 0} → Codec (Entry C) → ℕ → List (Entry C) → List (List ℕ)
payloads codec offset entries = map (λ e. codec.code (shifted offset e)) entries

-- each of the entries has an encoding
abbrev pub HaveCodes : {C : Type 0} → Codec (Entry C) → ℕ → List (Entry C) → Type 0
HaveCodes codec offset entries = AllByRecursion (λ e. codec.fits (shifted offset e)) entries
