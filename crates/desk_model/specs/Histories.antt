-- Histories: lists of accepted writes, and what a machine makes of them. The machine's step is an argument.
use Rattle.std.specs.Prelude.{◌≡◌, ℕ, ◌+◌, ◌<◌, ◌==◌, Bool, List, [], ◌∷◌, ◌++◌, Result, Ok, Err, IsOk, drop}
use Rattle.std.specs.List.{filter}
use Rattle.desk_model.specs.declared.entry.Entry.{Entry}

-- what a version carries: its opening, and the entries since
pub record History (S C : Type 0) : Type 0 where
  pub opening : S
  pub journal : List (Entry C)

-- the state after an entry: a refusal changes nothing
abbrev pub state_after : {S A X : Type 0} → S → Result (S × A) X → S
state_after s (Ok p) = p.0
state_after s (Err x) = s

-- what an entry is answered
abbrev pub shown_by : {S A X : Type 0} → Result (S × A) X → Result A X
shown_by (Ok p) = Ok p.1
shown_by (Err x) = Err x

-- the state after a list of entries
abbrev pub replay : {S C A X : Type 0} → (S → Entry C → Result (S × A) X) → S → List (Entry C) → S
replay next s [] = s
replay next s (e ∷ es) = replay next (state_after s (next s e)) es

-- no entry is refused where it stands
abbrev pub IsLegal : {S C A X : Type 0} → (S → Entry C → Result (S × A) X) → S → List (Entry C) → Type 0
IsLegal next s [] = Unit {0}
IsLegal next s (e ∷ es) = IsOk (next s e) × IsLegal next (state_after s (next s e)) es

-- the state of a version
abbrev pub state_of : {S C A X : Type 0} → (S → Entry C → Result (S × A) X) → History S C → S
state_of next v = replay next v.opening v.journal

-- the version with one entry more at the end of its journal
abbrev pub grown : {S C : Type 0} → History S C → Entry C → History S C
grown v e = record { opening = v.opening; journal = v.journal ++ e ∷ [] }

-- the entry is one of session n
abbrev pub is_by : {C : Type 0} → ℕ → Entry C → Bool
is_by n e = e.session == n

-- the entries of session n past the first b places
abbrev pub own : {C : Type 0} → ℕ → ℕ → List (Entry C) → List (Entry C)
own b n h = filter (is_by n) (drop b h)

-- their serials are k, k + 1, k + 2 and so on
abbrev pub CountsFrom : {C : Type 0} → ℕ → List (Entry C) → Type 0
CountsFrom k [] = Unit {0}
CountsFrom k (e ∷ es) = (e.serial ≡ k) × CountsFrom (k + 1) es

-- past the first b places the serials of each session are 0, 1, 2 and so on
abbrev pub IsNumbered : {C : Type 0} → ℕ → List (Entry C) → Type 0
IsNumbered b h = (n : ℕ) → CountsFrom 0 (own b n h)

-- all sessions are below n
abbrev pub SessionsBelow : {C : Type 0} → ℕ → List (Entry C) → Type 0
SessionsBelow n [] = Unit {0}
SessionsBelow n (e ∷ es) = (e.session < n) × SessionsBelow n es
