-- What a caller is sent follows from what he sees.
use Rattle.std.specs.Prelude.{ℕ, Bool, List, []}
use Rattle.cmis_spec.specs.Repository.{Repository}
use Rattle.cmis_spec.specs.Seen.{OfSeen}
use Rattle.desk_model.specs.declared.entry.Entry.{Entry}
use Rattle.desk_model.specs.Histories.{replay}
use Rattle.talk.specs.Served.{Kind}
use Rattle.talk.specs.Session.{Setting, reading_text}

-- with another repository at its start
abbrev pub begun_with : Repository → Setting Repository → Setting Repository
begun_with opened at = record at { opening = opened }

-- After any history of this opening, each reading's reply is that of every well-formed repository in which its caller sees the same.
abbrev pub RepliesOfSeen : {C Q : Type 0} → Kind Repository C Q → Repository → Type 0
RepliesOfSeen {C} {Q} kind opened =
    (at : Setting Repository) (h : List (Entry C)) (last : Bool) (u : List ℕ) (least : ℕ) (q : Q)
    → OfSeen (λ other. reading_text kind (begun_with other at) [] last u least q) (replay kind.next opened h) u (reading_text kind (begun_with opened at) h last u least q)
