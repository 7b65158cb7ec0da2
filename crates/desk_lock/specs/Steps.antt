-- What each step tells the seat that makes it.
use Rattle.std.specs.Prelude.{◌≡◌, ◌≢◌, ℕ, ◌+◌, ◌<◌, ◌≤◌, ◌⊎◌, List, [], ◌∷◌, drop, length, Some, None}
use mathlib.Core.List.{IsPrefix}
use Rattle.std.specs.Arc.{arc_value}
use Rattle.std_alloc.specs.declared.arc.Arc.{Arc}
use Rattle.atomic_table.specs.Table.{Me, Step, rest}
use Rattle.desk_model.specs.declared.entry.Entry.{Entry}
use Rattle.desk_model.specs.Histories.{History, SessionsBelow}
use Rattle.desk_lock.specs.declared.board.Store.{Store}
use Rattle.desk_lock.specs.declared.board.View.{View}
use Rattle.desk_lock.specs.declared.board.Turn.{Turn}
use Rattle.desk_lock.specs.declared.board.Turn.TheVariants.{NoTurn, HasTurn}
use Rattle.desk_lock.specs.declared.board.Hold.{Hold}
use Rattle.desk_lock.specs.declared.board.Hold.TheVariants.{NoShelf, HasShelf}
use Rattle.desk_lock.specs.Numbers.{by, most_passes}
use Rattle.desk_lock.specs.declared.board.Laid.{Laid}
use Rattle.desk_lock.specs.Board.{Slot, AtHome}
use Rattle.desk_lock.specs.Seats.{longer, greater}

-- a seat with what it has in hand
abbrev pub Sat : Type 0 → Type 0 → Type 0 → Type 0 → Type 0
Sat S C A K = Me (Slot S C A K) (View S C K)

module _ {S C K : Type 0} where
  -- the journal goes on from what the seat has seen, has the lock's beginning in it and no entry of the seat's number beside its own ones, and its sessions and the seat's number are numbers of passes
  pub record Follows (v : View S C K) (journal : List (Entry C)) : Type 0 where
    pub seen : IsPrefix v.seen journal
    pub begun : v.start ≤ length journal
    pub mine : v.start ≤ length v.seen → by v.number (drop v.start v.seen) ≡ v.own → by v.number (drop v.start journal) ≡ v.own
    pub below : SessionsBelow most_passes (drop v.start journal)
    pub number : v.number < most_passes

module _ {C : Type 0} where
  -- the history that the turn's holder knows
  abbrev pub history_of : Turn C → List (Entry C)
  history_of NoTurn = []
  history_of (HasTurn h g) = h

  -- what the turn's holder knows to be settled
  abbrev pub settled_of : Turn C → List (Entry C)
  settled_of NoTurn = []
  settled_of (HasTurn h g) = g

  -- the journal that the shelf's holder knows
  abbrev pub shelved_by : Hold C → List (Entry C)
  shelved_by NoShelf = []
  shelved_by (HasShelf g) = g

module _ {S C A K : Type 0} where
  -- the turn was had, with the version in hand, where g is settled
  abbrev pub Has : (K → Store K → List (Entry C) → List (Entry C) → Type 0) → Sat S C A K → Sat S C A K → Type 0
  Has stands m m' = (a : Laid (Arc (History S C) A) K) × (g : List (Entry C))
      × (m'.1 ≡ (0, Some a) ∷ m.1)
      × (m'.0 ≡ record m.0 { turn = HasTurn (arc_value a.version).journal g })
      × (Some (arc_value a.version).opening ≡ m.0.origin)
      × Follows m.0 (arc_value a.version).journal
      × IsPrefix g (arc_value a.version).journal
      × AtHome stands m.0.keeper a g

  abbrev pub claimed : (K → Store K → List (Entry C) → List (Entry C) → Type 0) → Step (Slot S C A K) → Sat S C A K → ℕ → Sat S C A K → Type 0
  claimed stands st m n m' = (n ≡ 0 → Has stands m m') × (n ≢ 0 → m' ≡ m)

  abbrev pub learned : Step (Slot S C A K) → Sat S C A K → ℕ → Sat S C A K → Type 0
  learned st m n m' = m' ≡ (record m.0 { seen = history_of m.0.turn; told = []; told_sure = 0 }, m.1)

  abbrev pub journal_of : Slot S C A K → List (Entry C)
  journal_of None = []
  journal_of (Some a) = (arc_value a.version).journal

  -- the journal of the version in hand
  abbrev pub hand : List (ℕ × Slot S C A K) → List (Entry C)
  hand [] = []
  hand (x ∷ xs) = journal_of x.1

  -- the entry more in the version in hand is the history's, and the number found is the length before it
  abbrev pub committed : Step (Slot S C A K) → Sat S C A K → ℕ → Sat S C A K → Type 0
  committed st m n m' = (m' ≡ (record m.0 { seen = hand m.1; told = []; told_sure = 0; own = by m.0.number (drop m.0.start (hand m.1)); turn = HasTurn (hand m.1) (settled_of m.0.turn) }, m.1))
      × (length (hand m.1) ≡ m.0.start + n + 1)

  abbrev pub released : Step (Slot S C A K) → Sat S C A K → ℕ → Sat S C A K → Type 0
  released st m n m' = m' ≡ (record m.0 { turn = NoTurn }, [])

  -- the shelf was had, with its version in hand
  abbrev pub HasIt : Sat S C A K → Sat S C A K → Type 0
  HasIt m m' = (a : Laid (Arc (History S C) A) K)
      × (m'.1 ≡ (1, Some a) ∷ m.1)
      × (m'.0 ≡ record m.0 { shelf = HasShelf (arc_value a.version).journal })
      × (Some (arc_value a.version).opening ≡ m.0.origin)
      × (length m.0.seen ≤ m.0.sure → Follows m.0 (arc_value a.version).journal)
      × (m.0.sure ≤ length (arc_value a.version).journal)

  abbrev pub claimed_shelf : Step (Slot S C A K) → Sat S C A K → ℕ → Sat S C A K → Type 0
  claimed_shelf st m n m' = (n ≡ 0 → HasIt m m') × (n ≢ 0 → m' ≡ m)

  -- a look: what stands on the shelf is seen
  abbrev pub looked : Step (Slot S C A K) → Sat S C A K → ℕ → Sat S C A K → Type 0
  looked st m n m' = m' ≡ (record m.0 { seen = shelved_by m.0.shelf; sure = length (shelved_by m.0.shelf); told = []; told_sure = 0 }, m.1)

  -- so many entries are settled
  abbrev pub assured : Step (Slot S C A K) → Sat S C A K → ℕ → Sat S C A K → Type 0
  assured st m n m' = (m' ≡ (record m.0 { sure = m.0.start + n }, m.1)) × (m.0.sure ≤ m.0.start + n)

  -- the seat is sure of as much or more, and is else as before
  pub record IsSurer (m m' : Sat S C A K) : Type 0 where
    pub sure : ℕ
    pub is : m' ≡ (record m.0 { sure = sure }, m.1)
    pub more : m.0.sure ≤ sure

  -- nothing changes
  abbrev pub stayed : Step (Slot S C A K) → Sat S C A K → ℕ → Sat S C A K → Type 0
  stayed st m n m' = m' ≡ m

  -- the history is what the shelf's holder is to put in, and all of it is settled
  abbrev pub stored : Step (Slot S C A K) → Sat S C A K → ℕ → Sat S C A K → Type 0
  stored st m n m' = m' ≡ (record m.0 { turn = HasTurn (history_of m.0.turn) (history_of m.0.turn); shelf = HasShelf (history_of m.0.turn) }, m.1)

  abbrev pub released_shelf : Step (Slot S C A K) → Sat S C A K → ℕ → Sat S C A K → Type 0
  released_shelf st m n m' = m' ≡ (record m.0 { shelf = NoShelf }, rest m.1)

  -- the longer of what was seen and what was told is seen
  abbrev pub caught : Step (Slot S C A K) → Sat S C A K → ℕ → Sat S C A K → Type 0
  caught st m n m' = (m' ≡ (record m.0 { seen = longer m.0.seen m.0.told; sure = greater m.0.sure m.0.told_sure; told = []; told_sure = 0 }, m.1))
      × (IsPrefix m.0.seen m.0.told ⊎ IsPrefix m.0.told m.0.seen)
      × (m.0.start ≤ length m.0.seen → by m.0.number (drop m.0.start m.0.seen) ≡ m.0.own → by m.0.number (drop m.0.start (longer m.0.seen m.0.told)) ≡ m.0.own)
      × (m.0.start ≤ length m.0.seen → m.0.own ≡ [] → by m.0.number (drop m.0.start m.0.seen) ≡ [])

  -- the turn is had, and the version t is in no slot, where g is settled
  abbrev pub IsOpen : Sat S C A K → History S C → List (Entry C) → Sat S C A K → Type 0
  IsOpen m t g m' = (m'.1 ≡ (0, None) ∷ m.1)
      × (m'.0 ≡ record m.0 { turn = HasTurn t.journal g })
      × (Some t.opening ≡ m.0.origin)
      × Follows m.0 t.journal
      × IsPrefix g t.journal

  -- the shelf is had, and its version t is in no slot
  abbrev pub IsTaken : Sat S C A K → History S C → Sat S C A K → Type 0
  IsTaken m t m' = (m'.1 ≡ (1, None) ∷ m.1)
      × (m'.0 ≡ record m.0 { shelf = HasShelf t.journal })
      × (Some t.opening ≡ m.0.origin)
      × (length m.0.seen ≤ m.0.sure → Follows m.0 t.journal)
      × (m.0.sure ≤ length t.journal)
