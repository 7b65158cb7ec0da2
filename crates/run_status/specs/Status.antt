-- What a run of the program ends with: its status, and the lines that the program writes of itself.
use Rattle.std.specs.Prelude.{◌≡◌, ◌⊎◌, ℕ, true, List, ◌∷◌, ◌++◌, [], codes, decimal}
use Rattle.outside.specs.Outside.{SourceTold, SinkTold, Took, Rose}
use Rattle.http_reply.specs.Sent.{TookFront}
use Rattle.desk_serve.specs.declared.ended.HostEnd.{HostEnd}
use Rattle.desk_serve.specs.declared.ended.HostEnd.TheVariants.{Empty, Fault, Many, Memory}
use Rattle.talk.specs.declared.end.End.{End}
use Rattle.talk.specs.declared.end.End.TheVariants.{Ended, Bad, ReadFault, WriteFault, Starved, Unkept}
use Rattle.talk.specs.Talked.{rose}

-- the status of a session's end
abbrev pub status_of : End → ℕ
status_of Ended = 0
status_of ReadFault = 3
status_of WriteFault = 4
status_of Starved = 7
status_of (Bad fault) = 8
status_of Unkept = 9

-- what is written for words that are none of the program's
abbrev pub not_valid : List ℕ
not_valid = codes "cmisd: words are not valid" ++ 10 ∷ []

-- Words that are none of the program's end with 2: the line was written, or the output failed in this call, and a front of it was written.
abbrev pub Refused : SinkTold → SinkTold → ℕ → Type 0
Refused empty full status = (status ≡ 2) × (Took empty full not_valid ⊎ Rose empty.faults full.faults × TookFront empty full not_valid)

-- 7: there was no memory to begin, and nothing was read or written
abbrev pub Unbegun : SourceTold → SinkTold → SourceTold → SinkTold → ℕ → Type 0
Unbegun before empty after full status = (status ≡ 7) × (after ≡ before) × (full ≡ empty)

-- the line that is written in the end: how many sessions there were, and the step that the repository has reached
abbrev pub summary : ℕ → ℕ → List ℕ
summary sessions steps = codes "sessions " ++ (decimal sessions ++ (codes " steps " ++ (decimal steps ++ 10 ∷ [])))

-- the status of an end
abbrev pub status_of_end : HostEnd → ℕ
status_of_end Empty = 0
status_of_end Many = 0
status_of_end Fault = 5
status_of_end Memory = 7

-- the same where the line could not be written
abbrev pub status_of_loss : HostEnd → ℕ
status_of_loss Empty = 4
status_of_loss Many = 4
status_of_loss Fault = 5
status_of_loss Memory = 7

-- the line was written; or the output failed in this call, and a front of it was written
abbrev pub Summed : HostEnd → List ℕ → SinkTold → SinkTold → ℕ → Type 0
Summed end text empty full status =
    ((status ≡ status_of_end end) × Took empty full text)
    ⊎ ((status ≡ status_of_loss end) × Rose empty.faults full.faults × TookFront empty full text)

-- 3 and 4 come only where the input, the output failed in this call
pub record OnlyWhereFailed (before : SourceTold) (empty : SinkTold) (after : SourceTold) (full : SinkTold) (status : ℕ) : Type 0 where
  pub input : status ≡ 3 → rose before.faults after.faults ≡ true
  pub output : status ≡ 4 → rose empty.faults full.faults ≡ true
