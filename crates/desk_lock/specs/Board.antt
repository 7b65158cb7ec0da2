-- The rule of the lock: what holds of the table between any two steps.
use Rattle.std.specs.Prelude.{◌≡◌, ◌≢◌, ℕ, ◌+◌, ◌≤◌, List, ◌++◌, map, length, slice_index, Option, Some, None}
use mathlib.Core.Option.{some}
use mathlib.Core.Option as maybe
use mathlib.Core.List.{IsPrefix}
use lib.ListN.{get_elem?}
use Rattle.std.specs.Arc.{arc_value}
use Rattle.std_alloc.specs.declared.arc.Arc.{Arc}
use Rattle.atomic_table.specs.Table.{State}
use Rattle.atomic_table.specs.Seated.{TableId}
use Rattle.desk_model.specs.declared.entry.Entry.{Entry}
use Rattle.desk_model.specs.Histories.{History, CountsFrom}
use Rattle.desk_lock.specs.declared.board.Laid.{Laid}
use Rattle.desk_lock.specs.declared.board.Store.{Store}
use Rattle.desk_lock.specs.declared.board.Store.TheVariants.{Absent, Whole, Broken}
use Rattle.desk_lock.specs.declared.board.View.{View}
use Rattle.desk_lock.specs.declared.board.Turn.{Turn}
use Rattle.desk_lock.specs.declared.board.Turn.TheVariants.{NoTurn, HasTurn}
use Rattle.desk_lock.specs.declared.board.Hold.{Hold}
use Rattle.desk_lock.specs.declared.board.Hold.TheVariants.{NoShelf, HasShelf}
use Rattle.desk_lock.specs.Numbers.{Card, Ranks, by}
use Rattle.desk_lock.specs.Seats.{Beginning}
use Rattle.desk_lock.specs.Words.{HasFailed, Since}

-- five words and two slots
abbrev pub IsSized : TableId → Type 0
IsSized z = (z.words ≡ 5) × (z.slots ≡ 2)

abbrev pub Slot : Type 0 → Type 0 → Type 0 → Type 0 → Type 0
Slot S C A K = Option (Laid (Arc (History S C) A) K)

-- a front of the journal stands, with at least the first so many entries
pub record Front {X : Type 0} (stands : ℕ → List X → Type 0) (journal : List X) (sure : ℕ) : Type 0 where
  pub whole : List X
  pub begins : IsPrefix whole journal
  pub least : ℕ
  pub enough : sure ≤ least
  pub within : least ≤ length whole
  pub stand : stands least whole

module _ {C K : Type 0} where
  -- the settled list g stands at the keeper, all of it; if the keeper has failed, a front of the history h stands there, with at least g
  abbrev pub Keeps : (K → ℕ → List (Entry C) → Type 0) → (K → ℕ) → Store K → List (Entry C) → List (Entry C) → Type 0
  Keeps stands faults Absent g h = ⊥
  Keeps stands faults (Whole k) g h = stands k (length g) g
  Keeps stands faults (Broken k) g h = Front (stands k) h (length g) × HasFailed faults

  -- the same, at a keeper that goes on from the first one
  abbrev pub KeepsSince : (K → ℕ → List (Entry C) → Type 0) → (K → K → ℕ → List (Entry C) → Type 0) → (K → ℕ) → K → Store K → List (Entry C) → List (Entry C) → Type 0
  KeepsSince stands went faults first store g h = Keeps (Since stands went first) faults store g h

  -- at the end all of the journal stands at the keeper, in which are the entries that are sure; if the keeper has failed, a front of the journal stands there, with at least those
  abbrev pub Settled : (K → ℕ → List (Entry C) → Type 0) → Store K → List (Entry C) → ℕ → Type 0
  Settled stands Absent journal sure = ⊥
  Settled stands (Whole k) journal sure = (sure ≤ length journal) × stands k (length journal) journal
  Settled stands (Broken k) journal sure = Front (stands k) journal sure

-- the keeper has failed
abbrev pub IsBroken : {K : Type 0} → Store K → Type 0
IsBroken Absent = ⊥
IsBroken (Whole k) = ⊥
IsBroken (Broken k) = Unit {0}

-- Where the lock is: the history past its beginning, the part of it that is settled, which stands on the shelf, and the part that is owed to the keeper and to the shelf;
-- the words of the turn and of the shelf, and the seats that hold them where they are held
pub record Now (C : Type 0) : Type 0 where
  pub news : List (Entry C)
  pub shelved : List (Entry C)
  pub owed : List (Entry C)
  pub turn : ℕ
  pub holder : ℕ
  pub shelf : ℕ
  pub shower : ℕ

module _ {C : Type 0} where
  abbrev pub IsTurn : Turn C → Type 0
  IsTurn NoTurn = ⊥
  IsTurn (HasTurn h g) = Unit {0}

  abbrev pub IsShelf : Hold C → Type 0
  IsShelf NoShelf = ⊥
  IsShelf (HasShelf g) = Unit {0}

  -- the seat j that says that it has the turn is the turn's one holder, and knows the history and what is settled
  abbrev pub KnowsTurn : List (Entry C) → List (Entry C) → ℕ → ℕ → ℕ → ℕ → Turn C → Type 0
  KnowsTurn history settled turn holder j live NoTurn = Unit {0}
  KnowsTurn history settled turn holder j live (HasTurn h g) = (turn ≡ 1) × (j ≡ holder) × (h ≡ history) × (live ≡ 1) × (g ≡ settled)

  -- the seat j that says that it has the shelf is the shelf's one holder, and knows what stands there
  abbrev pub KnowsShelf : List (Entry C) → ℕ → ℕ → ℕ → ℕ → Hold C → Type 0
  KnowsShelf journal shelf shower j live NoShelf = Unit {0}
  KnowsShelf journal shelf shower j live (HasShelf g) = (shelf ≡ 1) × (j ≡ shower) × (g ≡ journal) × (live ≡ 1)

-- what holds of the seat j
pub record Fits {S C K : Type 0} (base : Beginning S C K) (n : Now C) (j : ℕ) (v : View S C K) : Type 0 where
  pub origin : v.live ≡ 1 → v.origin ≡ Some base.version.opening
  pub keeper : v.live ≡ 1 → v.keeper ≡ Some base.keeper
  pub start : v.live ≡ 1 → v.start ≡ length base.version.journal
  pub seen : IsPrefix v.seen (base.version.journal ++ n.news)
  pub told : IsPrefix v.told (base.version.journal ++ n.news)
  pub sure : v.sure ≤ length base.version.journal + length n.shelved
  pub told_sure : v.told_sure ≤ length base.version.journal + length n.shelved
  pub own : v.live ≡ 1 → by v.number n.news ≡ v.own
  pub turn : KnowsTurn (base.version.journal ++ n.news) (base.version.journal ++ n.shelved) n.turn n.holder j v.live v.turn
  pub shelf : KnowsShelf (base.version.journal ++ n.shelved) n.shelf n.shower j v.live v.shelf

-- what the words say
pub record Counted {C : Type 0} (words : List ℕ) (n : Now C) : Type 0 where
  pub wide : length words ≡ 5
  pub count : slice_index words 0 ≡ length n.news
  pub turn : slice_index words 1 ≡ n.turn
  pub shelf : slice_index words 2 ≡ n.shelf
  pub shelf_number : slice_index words 3 ≡ length n.shelved

module _ {S C A K : Type 0} where
  -- a slot has a version with this opening and journal
  abbrev pub HasVersion : S → List (Entry C) → maybe.Option (maybe.Option (Slot S C A K)) → Type 0
  HasVersion o h x = (a : Laid (Arc (History S C) A) K) × (x ≡ some (some (Some a))) × ((arc_value a.version).opening ≡ o) × ((arc_value a.version).journal ≡ h)

module _ {S C A : Type 0} where
  -- none only where nothing is owed, or the same version
  abbrev pub Again : History S C → List (Entry C) → Option (Arc (History S C) A) → Type 0
  Again v g None = v.journal ≡ g
  Again v g (Some b) = arc_value b ≡ v

-- what lies at home, where g is settled: the store of a keeper that goes on from the first one, where g stands of the version's journal, the length of g,
-- and the version once more where the shelf is behind it
pub record AtHome {S C A K : Type 0} (stands : K → Store K → List (Entry C) → List (Entry C) → Type 0) (keeper : Option K) (a : Laid (Arc (History S C) A) K) (g : List (Entry C)) : Type 0 where
  pub first : K
  pub begun : keeper ≡ Some first
  pub keeps : stands first a.store g (arc_value a.version).journal
  pub settled : a.settled ≡ length g
  pub again : Again (arc_value a.version) g a.again

module _ {S C A K : Type 0} where
  -- a version with this opening and journal, beside what lies at home where g is settled
  abbrev pub HasHome : (K → Store K → List (Entry C) → List (Entry C) → Type 0) → Beginning S C K → List (Entry C) → List (Entry C) → maybe.Option (maybe.Option (Slot S C A K)) → Type 0
  HasHome stands b h g x = (a : Laid (Arc (History S C) A) K) × (x ≡ some (some (Some a))) × ((arc_value a.version).opening ≡ b.version.opening) × ((arc_value a.version).journal ≡ h)
      × AtHome stands (Some b.keeper) a g

-- where nobody has the turn, the version is at home; where nobody has the shelf, a version stands on it
pub record Housed {S C A K : Type 0} (stands : K → Store K → List (Entry C) → List (Entry C) → Type 0) (base : Beginning S C K) (homes : List (maybe.Option (Slot S C A K))) (n : Now C) : Type 0 where
  pub home : n.turn ≡ 0 → HasHome stands base (base.version.journal ++ n.news) (base.version.journal ++ n.shelved) (get_elem? homes 0)
  pub stand : n.shelf ≡ 0 → HasVersion base.version.opening (base.version.journal ++ n.shelved) (get_elem? homes 1)

module _ {S C K : Type 0} where
  abbrev pub card : View S C K → Card C
  card v = record { live = v.live; number = v.number; made = v.made; ended = v.ended }

  abbrev pub InTurn : View S C K → Type 0
  InTurn v = IsTurn v.turn

  abbrev pub AtShelf : View S C K → Type 0
  AtShelf v = IsShelf v.shelf

  -- the seat j has a view of this kind
  abbrev pub Held : (View S C K → Type 0) → List (View S C K) → ℕ → Type 0
  Held P views j = (v : View S C K) × (get_elem? views j ≡ some v) × P v

-- who holds the turn, and who the shelf
pub record Manned {S C K : Type 0} (views : List (View S C K)) (n : Now C) : Type 0 where
  pub turn : n.turn ≢ 0 → Held InTurn views n.holder
  pub shelf : n.shelf ≢ 0 → Held AtShelf views n.shower

-- the rule, by what is said of the first keeper and a store where one list is settled of another
pub record Kept {S C A K : Type 0} (stands : K → Store K → List (Entry C) → List (Entry C) → Type 0) (base : Beginning S C K) (s : State (Slot S C A K) (View S C K)) : Type 0 where
  pub now : Now C
  pub words : Counted s.words now
  pub level : now.news ≡ now.shelved ++ now.owed
  pub slots : Housed stands base s.homes now
  pub manned : Manned s.views now
  pub each : (j : ℕ) (v : View S C K) → get_elem? s.views j ≡ some v → Fits base now j v
  pub serials : (n : ℕ) → CountsFrom 0 (by n now.news)
  pub ranks : Ranks now.news (map card s.views)
