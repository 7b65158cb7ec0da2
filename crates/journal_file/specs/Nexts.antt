-- What an opening hands out.
use Rattle.std.specs.Prelude.{⊤, ℕ, List, [], ◌∷◌, ◌++◌, Result, Ok, Err}
use Rattle.journal_file.specs.declared.opening.Next.{Next}
use Rattle.journal_file.specs.declared.opening.Next.TheVariants.{Payload, End}
use Rattle.journal_file.specs.Records.{BeginsWith, IsClosedAt}
use Rattle.journal_file.specs.Told.{OpeningTold}

module _ {K : Type 0} where
  -- the disk of the opening, or the one that was handed back
  abbrev pub disk_begun : Result (OpeningTold K) K → K
  disk_begun (Ok opening) = opening.disk
  disk_begun (Err disk) = disk

  -- the disk of the opening that goes on, of the journal, or the one that was handed back
  abbrev pub disk_next : {E : Type 0} → Result (Next K) (E × K) → K
  disk_next (Ok (Payload place bytes rest)) = rest.disk
  disk_next (Ok (End journal)) = journal.disk
  disk_next (Err x) = x.1

  -- Behind these payloads, one more is handed out and the file begins with all of them; or the file is closed after them.
  abbrev pub GoesOn : List (List ℕ) → List ℕ → Next K → Type 0
  GoesOn payloads file (Payload place bytes rest) = BeginsWith (payloads ++ bytes.items ∷ []) rest.place file
  GoesOn payloads file (End journal) = IsClosedAt payloads journal.end file

  -- where a payload is handed out, P holds of its place, its bytes and the opening that goes on
  abbrev pub IfPayload : Next K → (ℕ → List ℕ → OpeningTold K → Type 0) → Type 0
  IfPayload (Payload place bytes rest) P = P place bytes.items rest
  IfPayload (End journal) P = ⊤
