-- Views of seats that are made, split and joined.
use Rattle.std.specs.Prelude.{◌≡◌, ℕ, ◌+◌, nat_lt, if◌then◌else◌, List, [], ◌∷◌, ◌++◌, length, Some, None}
use Rattle.desk_model.specs.Histories.{History}
use Rattle.desk_lock.specs.declared.board.View.{View}
use Rattle.desk_lock.specs.declared.board.Turn.TheVariants.{NoTurn}
use Rattle.desk_lock.specs.declared.board.Hold.TheVariants.{NoShelf}

-- what a lock begins with: the version, and the keeper of its journal
pub record Beginning (S C K : Type 0) : Type 0 where
  pub version : History S C
  pub keeper : K

-- the longer of two lists, and the first where they are of one length
abbrev pub longer : {X : Type 0} → List X → List X → List X
longer a b = if nat_lt (length a) (length b) then b else a

-- the greater of two numbers
abbrev pub greater : ℕ → ℕ → ℕ
greater m n = if nat_lt m n then n else m

module _ {S C K : Type 0} where
  -- the seat has neither the turn nor the shelf
  abbrev pub IsIdle : View S C K → Type 0
  IsIdle v = (v.turn ≡ NoTurn) × (v.shelf ≡ NoShelf)

  -- the first pass of a lock that begins so
  abbrev pub beginner : Beginning S C K → View S C K
  beginner b = record { origin = Some b.version.opening; keeper = Some b.keeper; start = length b.version.journal; live = 1; number = 0; made = 1; seen = b.version.journal; sure = length b.version.journal; told = []; told_sure = 0; own = []; ended = []; turn = NoTurn; shelf = NoShelf }

  -- a seat that was joined into another
  abbrev pub blank : View S C K
  blank = record { origin = None; keeper = None; start = 0; live = 0; number = 0; made = 0; seen = []; sure = 0; told = []; told_sure = 0; own = []; ended = []; turn = NoTurn; shelf = NoShelf }

  -- the first pass, after it has made another
  abbrev pub parent : View S C K → View S C K
  parent v = record v { made = v.made + 1 }

  -- the pass that it makes
  abbrev pub child : View S C K → View S C K
  child v = record { origin = v.origin; keeper = v.keeper; start = v.start; live = 1; number = v.made; made = 0; seen = v.seen; sure = v.sure; told = []; told_sure = 0; own = []; ended = []; turn = NoTurn; shelf = NoShelf }

  -- a helper, which only carries what was seen
  abbrev pub helper : View S C K → View S C K
  helper v = record { origin = None; keeper = None; start = 0; live = 0; number = 0; made = 0; seen = v.seen; sure = v.sure; told = []; told_sure = 0; own = []; ended = []; turn = NoTurn; shelf = NoShelf }

  -- a seat that is told what another has seen
  abbrev pub told_by : View S C K → View S C K → View S C K
  told_by v w = record v { told = w.seen; told_sure = w.sure }

  -- a seat that takes in an ended pass
  abbrev pub took_in : View S C K → View S C K → View S C K
  took_in v w = record v { told = w.seen; told_sure = w.sure; ended = v.ended ++ (w.number, w.own) ∷ w.ended }
