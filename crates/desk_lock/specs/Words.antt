-- The lock and its passes as contracts see them, and what the calls tell.
use Rattle.std.specs.Prelude.{Ok, Err, ◌≡◌, ◌⊎◌, ℕ, ◌+◌, ◌<◌, ◌≤◌, List, [], ◌∷◌, ◌++◌, drop, length}
use mathlib.Core.List.{IsPrefix}
use mathlib.Core.Option.{some}
use lib.ListN.{get_elem?}
use Rattle.std.specs.Prelude as std
use Rattle.atomic_table.specs.Seated.{TableId}
use Rattle.outside.specs.Outside.{Rose}
use Rattle.desk_model.specs.declared.entry.Entry.{Entry}
use Rattle.desk_model.specs.Histories.{History, own, IsNumbered, SessionsBelow}
use Rattle.desk_model.specs.Desks.{Known, IsSound, with_seen}
use Rattle.desk_lock.specs.declared.lock.SplitStop.{SplitStop}
use Rattle.desk_lock.specs.declared.lock.SplitStop.TheVariants.{Many, Memory}
use Rattle.desk_lock.specs.Numbers.{most_passes, IsIn, AreApart, names}
use Rattle.desk_lock.specs.Seats.{longer, greater}

-- the count of faults of a keeper rose
pub record HasFailed {K : Type 0} (faults : K → ℕ) : Type 0 where
  pub before : K
  pub after : K
  pub rose : Rose (faults before) (faults after)

-- the keeper k goes on from the first one: a front of these entries stands there, with at least the first n of them, and at each moment since the first one a front of them stood
abbrev pub Since : {K C : Type 0} → (K → ℕ → List (Entry C) → Type 0) → (K → K → ℕ → List (Entry C) → Type 0) → K → K → ℕ → List (Entry C) → Type 0
Since stands went first k n h = stands k n h × went first k 0 h

-- a lock: what tells it from all others, and the version and the keeper with which it began
pub record LockView (S C K : Type 0) : Type 0 where
  pub table : TableId
  pub version : History S C
  pub keeper : K

-- a pass: its lock, what it knows, how many entries of what it has seen are settled, if not more,
-- how many passes were made (at the first pass, 0 at others), and the passes that ended into it, each with its entries
pub record PassView (S C : Type 0) : Type 0 where
  pub table : TableId
  pub known : Known S C
  pub sure : ℕ
  pub made : ℕ
  pub ended : List (ℕ × List (Entry C))

-- a lock's place, as numbers: two tables with one place are one table
abbrev pub place_of : TableId → List ℕ
place_of z = z.words ∷ z.slots ∷ z.views_name ∷ z.atom ∷ z.block ∷ z.offset ∷ z.slot_names

module _ {S C : Type 0} where
  -- the first pass of a lock
  abbrev pub first_pass : {K : Type 0} → LockView S C K → PassView S C
  first_pass l = record { table = l.table; known = record { opening = l.version.opening; base = length l.version.journal; session = 0; seen = l.version.journal; own = [] }; sure = length l.version.journal; made = 1; ended = [] }

  -- the first pass, after it has made another
  abbrev pub with_one_more : PassView S C → PassView S C
  with_one_more p = record { table = p.table; known = p.known; sure = p.sure; made = p.made + 1; ended = p.ended }

  -- the pass that it makes: a new number, with what it has seen itself
  abbrev pub made_by : PassView S C → PassView S C
  made_by p = record { table = p.table; known = record { opening = p.known.opening; base = p.known.base; session = p.made; seen = p.known.seen; own = [] }; sure = p.sure; made = 0; ended = [] }

  -- A new pass is made by the first one. Many comes exactly where all passes were made, and want of memory only where they weren't; then the first pass is as before.
  abbrev pub Splits : PassView S C → PassView S C → std.Result (PassView S C) SplitStop → Type 0
  Splits p p' (Ok q) = (p.made < most_passes) × (q ≡ made_by p) × (p' ≡ with_one_more p)
  Splits p p' (Err Many) = (p.made ≡ most_passes) × (p' ≡ p)
  Splits p p' (Err Memory) = (p.made < most_passes) × (p' ≡ p)

  -- the pass, with other knowledge
  abbrev pub knowing : PassView S C → Known S C → PassView S C
  knowing p k = record { table = p.table; known = k; sure = p.sure; made = p.made; ended = p.ended }

  -- the pass, which is sure of so many entries
  abbrev pub with_sure : PassView S C → ℕ → PassView S C
  with_sure p n = record { table = p.table; known = p.known; sure = n; made = p.made; ended = p.ended }

  -- all that the pass has seen is settled
  abbrev pub IsSure : PassView S C → Type 0
  IsSure p = length p.known.seen ≤ p.sure

  -- of two seen journals one begins the other, and both passes have then seen the longer
  abbrev pub Met : PassView S C → PassView S C → PassView S C → PassView S C → Type 0
  Met p q p' q' = (IsPrefix p.known.seen q.known.seen ⊎ IsPrefix q.known.seen p.known.seen)
      × (p' ≡ with_sure (knowing p (with_seen p.known (longer p.known.seen q.known.seen))) (greater p.sure q.sure))
      × (q' ≡ with_sure (knowing q (with_seen q.known (longer p.known.seen q.known.seen))) (greater q.sure p'.sure))

  -- the pass q ended into p: p has then seen the longer journal, and keeps the number and the entries of q, and those of the passes that had ended into q
  abbrev pub Retired : PassView S C → PassView S C → PassView S C → Type 0
  Retired p q p' = (IsPrefix p.known.seen q.known.seen ⊎ IsPrefix q.known.seen p.known.seen)
      × (p' ≡ record { table = p.table; known = with_seen p.known (longer p.known.seen q.known.seen); sure = greater p.sure q.sure; made = p.made; ended = p.ended ++ (q.known.session, q.known.own) ∷ q.ended })

  -- What stands at the end, where all passes have ended into p. The version t is the lock's: its journal begins with all that p has seen, and its serials are those of its sessions' writes.
  -- The numbers of p and of the passes that ended into it are apart, each entry past the lock's beginning has one of them, and the entries of each number are the pass's own.
  pub record Closes {K : Type 0} (l : LockView S C K) (p : PassView S C) (t : History S C) : Type 0 where
    pub opening : t.opening ≡ l.version.opening
    pub seen : IsPrefix p.known.seen t.journal
    pub serials : IsNumbered (length l.version.journal) t.journal
    pub apart : AreApart (p.known.session ∷ names p.ended)
    pub mine : own (length l.version.journal) p.known.session t.journal ≡ p.known.own
    pub ended : (k : ℕ) (x : ℕ × List (Entry C)) → get_elem? p.ended k ≡ some x → own (length l.version.journal) x.0 t.journal ≡ x.1
    pub all : (k : ℕ) (e : Entry C) → get_elem? (drop (length l.version.journal) t.journal) k ≡ some e → IsIn e.session (p.known.session ∷ names p.ended)

-- the pass is one of this lock: it has the lock's opening and beginning, and what it knows is sound
pub record IsOf {S C A X K : Type 0} (next : S → Entry C → std.Result (S × A) X) (l : LockView S C K) (p : PassView S C) : Type 0 where
  pub table : p.table ≡ l.table
  pub opening : p.known.opening ≡ l.version.opening
  pub base : p.known.base ≡ length l.version.journal
  pub below : SessionsBelow most_passes (drop p.known.base p.known.seen)
  pub sound : IsSound next p.known
