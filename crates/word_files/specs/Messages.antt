-- The lines that the program writes where files that its words name are not taken.
use Rattle.std.specs.Prelude.{◌≡◌, ◌⊎◌, ℕ, List, [], ◌∷◌, ◌++◌, codes, decimal}
use Rattle.outside.specs.Outside.{SinkTold, Took, Rose}
use Rattle.http_reply.specs.Sent.{TookFront}
use Rattle.word_files.specs.declared.listed.FileStop.{FileStop}
use Rattle.word_files.specs.declared.listed.FileStop.TheVariants.{NotRead, Shared, Line, Memory}
use Rattle.word_files.specs.declared.listed.Listed.{Listed}
use Rattle.word_files.specs.declared.listed.Listed.TheVariants.{Users, Groups}

abbrev pub word_of : Listed → List ℕ
word_of Users = codes "users"
word_of Groups = codes "groups"

abbrev pub message_of : FileStop → List ℕ
message_of (NotRead kind) = codes "cmisd: file of " ++ (word_of kind ++ (codes " is not readable" ++ 10 ∷ []))
message_of (Shared kind) = codes "cmisd: file of " ++ (word_of kind ++ (codes " is open to others" ++ 10 ∷ []))
message_of (Line kind n) = codes "cmisd: line " ++ (decimal n ++ (codes " of " ++ (word_of kind ++ (codes " is not valid" ++ 10 ∷ []))))
message_of Memory = []

-- 2: the line was written, or the output failed in this call, and a front of it was written; 7: memory was wanted, and nothing was written
abbrev pub Refused : SinkTold → SinkTold → FileStop → ℕ → Type 0
Refused empty full stop status =
    ((status ≡ 2) × (Took empty full (message_of stop) ⊎ Rose empty.faults full.faults × TookFront empty full (message_of stop)))
    ⊎ ((status ≡ 7) × (full ≡ empty))
