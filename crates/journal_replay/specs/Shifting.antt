-- Steps that don't depend on the session that made an entry.
use Rattle.std.specs.Prelude.{◌≡◌, ℕ, List, map, Result}
use Rattle.desk_model.specs.declared.entry.Entry.{Entry}
use Rattle.journal_keeper.specs.Recorded.{by_session, shifted}

-- a step is the same, whichever session made the entry
abbrev pub IsSameStep : {S C A X : Type 0} → (S → Entry C → Result (S × A) X) → Type 0
IsSameStep {S = S} {C = C} next = (s : S) (e : Entry C) (session : ℕ) → next s (by_session session e) ≡ next s e

-- the entries as a journal has them, with this much more in the numbers of their sessions
abbrev pub all_shifted : {C : Type 0} → ℕ → List (Entry C) → List (Entry C)
all_shifted offset h = map (shifted offset) h
