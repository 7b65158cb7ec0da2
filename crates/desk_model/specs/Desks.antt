-- What a pass of a desk knows, and what the calls of a desk tell it. The machine's step and number are arguments.
use Rattle.std.specs.Prelude.{◌≡◌, ◌⊎◌, ℕ, ◌<◌, ◌≤◌, List, [], ◌∷◌, ◌++◌, Result, Ok, Err, length}
use mathlib.Core.List.{IsPrefix}
use Rattle.cm_base.specs.declared.number.Moment.{Moment}
use Rattle.desk_model.specs.declared.entry.Entry.{Entry}
use Rattle.desk_model.specs.declared.machine.Stop.{Stop}
use Rattle.desk_model.specs.declared.machine.Stop.TheVariants.{Refused, Ahead, Memory, Fault}
use Rattle.desk_model.specs.Histories.{History, replay, IsLegal, own, CountsFrom, shown_by}

-- a pass: the opening of its desk and the journal's length at the desk's beginning, its number, the journal that it has seen, and its own entries
pub record Known (S C : Type 0) : Type 0 where
  pub opening : S
  pub base : ℕ
  pub session : ℕ
  pub seen : List (Entry C)
  pub own : List (Entry C)

-- what no call of a desk changes: the number below which the sessions of its entries are, and the references that it holds, by their ghost names
pub record KeptByCalls : Type 0 where
  pub sessions : ℕ
  pub stands_for : List ℕ

-- what the pass n knows that has seen the version v, at a desk that began with b entries
abbrev pub known_at : {S C : Type 0} → ℕ → ℕ → History S C → Known S C
known_at b n v = record { opening = v.opening; base = b; session = n; seen = v.journal; own = own b n v.journal }

-- what holds of each pass: what it has seen is legal and has the desk's beginning in it, and its own entries are those with its number past that beginning, numbered from 0
pub record IsSound {S C A X : Type 0} (next : S → Entry C → Result (S × A) X) (k : Known S C) : Type 0 where
  pub lawful : IsLegal next k.opening k.seen
  pub begun : k.base ≤ length k.seen
  pub mine : own k.base k.session k.seen ≡ k.own
  pub serials : CountsFrom 0 k.own

-- the entry that a pass would add: its number, and its next serial
abbrev pub entry_of : {S C : Type 0} → Known S C → List ℕ → Moment → C → Entry C
entry_of k user moment call = record { session = k.session; serial = length k.own; user = user; moment = moment; call = call }

-- the pass, with the journal g seen
abbrev pub with_seen : {S C : Type 0} → Known S C → List (Entry C) → Known S C
with_seen k g = record { opening = k.opening; base = k.base; session = k.session; seen = g; own = k.own }

-- the pass, with the journal g and its new entry after it seen
abbrev pub with_entry : {S C : Type 0} → Known S C → List (Entry C) → Entry C → Known S C
with_entry k g e = record { opening = k.opening; base = k.base; session = k.session; seen = g ++ e ∷ []; own = k.own ++ e ∷ [] }

-- What a write that was judged tells. The journal g at which it was judged begins with all that the pass had seen.
-- Accepted: the number asked for isn't ahead there, the machine shows this of the entry there, and the pass has seen g with the entry, which is its own.
-- Refused: the number asked for isn't ahead, the machine refuses the entry there, and the pass has seen g. Ahead: the number asked for is ahead.
abbrev pub Judged : {S C A X : Type 0} → (S → Entry C → Result (S × A) X) → (S → ℕ) → Known S C → ℕ → List ℕ → Moment → C → Result A (Stop X) → Known S C → Type 0
Judged next number k least user moment call (Ok a) l =
    (g : List _) × IsPrefix k.seen g × (l ≡ with_entry k g (entry_of k user moment call))
    × (least ≤ number (replay next k.opening g))
    × (shown_by (next (replay next k.opening g) (entry_of k user moment call)) ≡ Ok a)
Judged next number k least user moment call (Err (Refused cause n)) l =
    (g : List _) × IsPrefix k.seen g × (l ≡ with_seen k g)
    × (least ≤ number (replay next k.opening g))
    × (shown_by (next (replay next k.opening g) (entry_of k user moment call)) ≡ Err cause)
    × (n ≡ number (replay next k.opening g))
Judged next number k least user moment call (Err (Ahead n)) l =
    (g : List _) × IsPrefix k.seen g × (l ≡ with_seen k g)
    × (number (replay next k.opening g) < least)
    × (n ≡ number (replay next k.opening g))
Judged next number k least user moment call (Err Memory) l = ⊥
Judged next number k least user moment call (Err Fault) l = ⊥

-- What a write tells. Memory: nothing was done. A fault of the keeper: nothing was done, or it was judged, and what was due is not shown.
abbrev pub Wrote : {S C A X : Type 0} → (S → Entry C → Result (S × A) X) → (S → ℕ) → Known S C → ℕ → List ℕ → Moment → C → Result A (Stop X) → Known S C → Type 0
Wrote next number k least user moment call (Ok a) l = Judged next number k least user moment call (Ok a) l
Wrote next number k least user moment call (Err (Refused cause n)) l = Judged next number k least user moment call (Err (Refused cause n)) l
Wrote next number k least user moment call (Err (Ahead n)) l = Judged next number k least user moment call (Err (Ahead n)) l
Wrote next number k least user moment call (Err Memory) l = l ≡ k
Wrote {A = A} {X = X} next number k least user moment call (Err Fault) l = (l ≡ k) ⊎ ((due : Result A (Stop X)) × Judged next number k least user moment call due l)

-- what a look tells: a version of the desk, whose journal begins with all that the pass had seen and that it has then seen
abbrev pub Looked : {S C : Type 0} → Known S C → History S C → Known S C → Type 0
Looked k v l = IsPrefix k.seen v.journal × (v.opening ≡ k.opening) × (l ≡ with_seen k v.journal)

-- after each answer that shows something, all that the pass has seen is among the first n entries, which are settled
abbrev pub ShowsSettled : {S C A X : Type 0} → Result A (Stop X) → Known S C → ℕ → Type 0
ShowsSettled (Ok a) k n = length k.seen ≤ n
ShowsSettled (Err (Refused cause m)) k n = length k.seen ≤ n
ShowsSettled (Err (Ahead m)) k n = length k.seen ≤ n
ShowsSettled (Err Memory) k n = Unit {0}
ShowsSettled (Err Fault) k n = Unit {0}

-- a fact of a fault of the keeper
abbrev pub IfFault : {A X : Type 0} → Result A (Stop X) → Type 0 → Type 0
IfFault (Ok a) fact = Unit {0}
IfFault (Err (Refused cause m)) fact = Unit {0}
IfFault (Err (Ahead m)) fact = Unit {0}
IfFault (Err Memory) fact = Unit {0}
IfFault (Err Fault) fact = fact
