-- What a session shows of the history is settled.
use Rattle.std.specs.Prelude.{◌≡◌, ℕ, ◌≤◌, ◌⊎◌, List, [], ◌∷◌}
use Rattle.cm_base.specs.declared.user.User.{User}
use Rattle.talk.specs.declared.end.End.{End}
use Rattle.talk.specs.declared.end.End.TheVariants.{Ended, Bad, ReadFault, WriteFault, Starved, Unkept}
use Rattle.talk.specs.Served.{Kind, Ask, faulty, writes, reads, ask_of}
use Rattle.talk.specs.Session.{Turn, IsUnsent}

-- a turn that asks this and stands at this place shows of the history only what is among the first n entries; a cause of credentials or arguments shows nothing of it
abbrev pub IsWithin : {C Q : Type 0} → ℕ → Ask C Q → ℕ → Type 0
IsWithin n (faulty cause) place = Unit {0}
IsWithin n (writes user least call) place = place ≤ n
IsWithin n (reads user least question) place = place ≤ n

-- each of the turns does
abbrev pub AreWithin : {S C Q : Type 0} → Kind S C Q → List User → ℕ → List (Turn C) → Type 0
AreWithin kind users n [] = Unit {0}
AreWithin kind users n (t ∷ ts) = AreWithin kind users n ts × IsWithin n (ask_of kind users t.arrived.request) t.place

-- What was sent shows only what is among the first n entries: so does each turn, but the last one of a session whose reply could not be kept, of which nothing was sent.
abbrev pub ShowsWithin : {S C Q : Type 0} → Kind S C Q → List User → ℕ → List (Turn C) → List ℕ → End → Type 0
ShowsWithin kind users n ts output Ended = AreWithin kind users n ts
ShowsWithin kind users n ts output (Bad fault) = AreWithin kind users n ts
ShowsWithin kind users n ts output ReadFault = AreWithin kind users n ts
ShowsWithin kind users n ts output WriteFault = AreWithin kind users n ts
ShowsWithin kind users n ts output Starved = AreWithin kind users n ts
ShowsWithin kind users n ts output Unkept = AreWithin kind users n ts ⊎ ((x : IsUnsent kind.wire ts output) × AreWithin kind users n x.earlier)
