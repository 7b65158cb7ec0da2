-- What the core keeps for each session.
use Rattle.std.specs.Prelude.{◌≡◌, ℕ, List, Some, None, length, map}
use Rattle.std.specs.Ordering.{nat_cmp}
use Rattle.std.specs.FinMap.Entries.{find}
use mathlib.Core.List.{IsPrefix}
use Rattle.desk_model.specs.Histories.{History, own, IsNumbered}
use Rattle.desk_core.specs.Interleaving.{World}

-- what a session holds: a version, and the number of its entries
pub record Hold (S C : Type 0) : Type 0 where
  pub seen : History S C
  pub serial : ℕ

-- how long a prefix each session holds
abbrev pub held_of : {S C : Type 0} → List (ℕ × Hold S C) → List (ℕ × ℕ)
held_of es = map (λ e. (e.0, length e.1.seen.journal)) es

-- the world of a core: its beginning, its version and what its sessions hold
abbrev pub world_of : {S C : Type 0} → ℕ → History S C → List (ℕ × Hold S C) → World S C
world_of b v es = record { opening = v.opening; base = b; journal = v.journal; held = held_of es }

-- what session s holds is a prefix of the version, with the number of its entries in it
pub record IsHold {S C : Type 0} (b : ℕ) (v : History S C) (s : ℕ) (x : Hold S C) : Type 0 where
  pub opening : x.seen.opening ≡ v.opening
  pub prefix : IsPrefix x.seen.journal v.journal
  pub serial : x.serial ≡ length (own b s v.journal)

-- a core: what it began with, its version, whose entries since are numbered, and what its sessions hold; who wasn't entered has no entries
pub record IsCore {S C : Type 0} (b : ℕ) (begin v : History S C) (es : List (ℕ × Hold S C)) : Type 0 where
  pub opening : begin.opening ≡ v.opening
  pub prefix : IsPrefix begin.journal v.journal
  pub begun : b ≡ length begin.journal
  pub numbered : IsNumbered b v.journal
  pub holds : (s : ℕ) (x : Hold S C) → find nat_cmp s es ≡ Some x → IsHold b v s x
  pub strangers : (s : ℕ) → find nat_cmp s es ≡ None → length (own b s v.journal) ≡ 0
