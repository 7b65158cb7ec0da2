-- A session stands over a longer history with the same own entries.
use Rattle.std.proofs.Common.{◌≡◌, ℕ, ◌≤◌, Bool, List, [], ◌∷◌, length, ◌∙◌, arith, refl}
use mathlib.Core.List.{IsPrefix}
use Rattle.cm_base.specs.declared.number.Moment.{Moment}
use Rattle.desk_model.specs.declared.entry.Entry.{Entry}
use Rattle.desk_model.specs.Histories.{own}
use Rattle.talk.specs.declared.end.End.{End}
use Rattle.talk.specs.Served.{Kind}
use Rattle.talk.specs.Session.{Setting, Turn, AreTurns, Session}
use Rattle.talk.proofs.ListFacts.{prefix-le, take-prefix}

-- the history may go on, and more of it may be seen
pub turns-longer : {S C Q : Type 0} (kind : Kind S C Q) (at : Setting S) (a b : ℕ) (g h : List (Entry C)) (ts : List (Turn C))
    → IsPrefix g h → a ≤ length g → a ≤ b → AreTurns kind at a g ts → AreTurns kind at b h ts
turns-longer kind at a b g h [] pre le more q = tt
turns-longer kind at a b g h (t ∷ ts) pre le more q =
    let short : t.place ≤ length g = omega (arith, q.1.within, le) in
    let does = rw (← take-prefix t.place g h pre short) at q.1.does in
    (turns-longer kind at a b g h ts pre le more q.0, record { within = omega (arith, q.1.within, more); does = does })

-- with the same turns
pub session-longer : {S C Q : Type 0} (kind : Kind S C Q) (at : Setting S) (after : ℕ) (g h : List (Entry C)) (input : List ℕ) (over : Bool) (output : List ℕ) (times : List Moment) (read_failed write_failed : Bool) (end : End)
    (s : Session kind at after g input over output times read_failed write_failed end) → IsPrefix g h → own 0 at.number h ≡ own 0 at.number g
    → (t : Session kind at after h input over output times read_failed write_failed end) × (t.turns ≡ s.turns)
session-longer kind at after g h input over output times read_failed write_failed end s pre same = (
  record {
    turns = s.turns;
    are_requests = s.are_requests;
    are_turns = turns-longer kind at after after g h s.turns pre s.held (omega arith) s.are_turns;
    begins = s.begins;
    held = omega (arith, s.held, prefix-le g h pre);
    owns = same ∙ s.owns;
    times_are = s.times_are;
    ends = s.ends;
  },
  refl,
)
