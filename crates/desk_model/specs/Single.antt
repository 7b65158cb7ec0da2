-- The desk of one thread.
use Rattle.std.specs.Prelude.{◌≡◌, ℕ, ◌<◌, List, [], ◌∷◌, ◌++◌, Option, Result, Ok, Err, drop}
use mathlib.Core.List.{IsPrefix}
use Rattle.outside.specs.Clocks.{Words}
use Rattle.desk_model.specs.declared.entry.Entry.{Entry}
use Rattle.desk_model.specs.declared.machine.Stop.{Stop}
use Rattle.desk_model.specs.declared.machine.Stop.TheVariants.{Refused, Ahead, Memory, Fault}
use Rattle.desk_model.specs.Histories.{History, own, SessionsBelow}
use Rattle.desk_model.specs.Desks.{Known, KeptByCalls, IsSound}

-- a desk of one thread: its opening, its journal and the journal's length at the beginning, the number of passes made, the clock's words, and the references that the clock holds
pub record Single (S C : Type 0) : Type 0 where
  pub opening : S
  pub journal : List (Entry C)
  pub base : ℕ
  pub made : ℕ
  pub words : Option Words
  pub stands_for : List ℕ

-- the desk whose version is v
abbrev pub single_at : {S C : Type 0} → History S C → ℕ → ℕ → Option Words → List ℕ → Single S C
single_at v b m words names = record { opening = v.opening; journal = v.journal; base = b; made = m; words = words; stands_for = names }

-- the desk, after it has made m passes
abbrev pub with_made : {S C : Type 0} → Single S C → ℕ → Single S C
with_made d m = record { opening = d.opening; journal = d.journal; base = d.base; made = m; words = d.words; stands_for = d.stands_for }

-- the desk, with another journal
abbrev pub with_journal : {S C : Type 0} → Single S C → List (Entry C) → Single S C
with_journal d h = record { opening = d.opening; journal = h; base = d.base; made = d.made; words = d.words; stands_for = d.stands_for }

-- a desk of one thread is alone
abbrev pub the_place : {S C : Type 0} → Known S C → List ℕ
the_place p = []

-- what no call of a desk of one thread changes
abbrev pub kept_by_calls : {S C : Type 0} → Single S C → KeptByCalls
kept_by_calls d = record { sessions = d.made; stands_for = d.stands_for }

-- the pass is one of the desk, and all entries of its number in the desk's journal are its own
pub record IsOf {S C A X : Type 0} (next : S → Entry C → Result (S × A) X) (d : Single S C) (p : Known S C) : Type 0 where
  pub opening : p.opening ≡ d.opening
  pub base : p.base ≡ d.base
  pub made : p.session < d.made
  pub seen : IsPrefix p.seen d.journal
  pub all : own p.base p.session d.journal ≡ p.own
  pub few : SessionsBelow d.made (drop d.base d.journal)
  pub below : SessionsBelow d.made (drop p.base p.seen)
  pub sound : IsSound next p

-- what a write does at this desk: an accepted one puts its entry at the journal's end, every other leaves the desk as it was; the pass has then seen the whole journal, but where memory was wanted. No fault comes
abbrev pub Kept : {S C A X : Type 0} → Single S C → Single S C → Known S C → Entry C → Result A (Stop X) → Type 0
Kept d f p e (Ok a) = (f ≡ with_journal d (d.journal ++ e ∷ [])) × (p.seen ≡ f.journal)
Kept d f p e (Err (Refused cause n)) = (f ≡ d) × (p.seen ≡ d.journal)
Kept d f p e (Err (Ahead n)) = (f ≡ d) × (p.seen ≡ d.journal)
Kept d f p e (Err Memory) = f ≡ d
Kept d f p e (Err Fault) = ⊥
