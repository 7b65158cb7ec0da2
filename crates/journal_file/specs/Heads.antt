-- What stands at a gate.
use Rattle.std.specs.Prelude.{◌≡◌, ◌≢◌, ⊤, ℕ, ◌+◌, ◌<◌, ◌≤◌, List, ◌∷◌, ◌++◌, length}
use Rattle.journal_file.specs.declared.reading.Head.{Head}
use Rattle.journal_file.specs.declared.reading.Head.TheVariants.{Closed, Payload, Broken}
use Rattle.journal_file.specs.Records.{length_bytes, HasNoPayload}

-- at the front of these bytes stands a closed gate; or an open one with the length of a payload, and more bytes than that; or an open one without
abbrev pub IsHead : Head → List ℕ → Type 0
IsHead Closed bytes = (gate : ℕ) × (behind : List ℕ) × (bytes ≡ gate ∷ behind) × (gate ≢ 1)
IsHead (Payload len) bytes = (behind : List ℕ) × (bytes ≡ 1 ∷ length_bytes len ++ behind) × (len < length behind)
IsHead Broken bytes = (behind : List ℕ) × (bytes ≡ 1 ∷ behind) × HasNoPayload behind

-- a payload of which a head tells the length ends before the last of so many bytes
abbrev pub EndsWithin : Head → ℕ → Type 0
EndsWithin (Payload len) left = len + 10 ≤ left
EndsWithin Closed left = ⊤
EndsWithin Broken left = ⊤
