-- A session with nobody beside it is the session alone on all that its source had left.
use Rattle.std.proofs.Common.{◌≡◌, ℕ, ◌≤◌, ◌⊎◌, Bool, true, List, [], ◌∷◌, ◌++◌, Some, length, refl, ap, sym, ◌∙◌, arith, subst, inl, inr}
use Rattle.std.proofs.lemmas.List.{append-nil}
use Rattle.outside.specs.Clocks.{Words}
use Rattle.cm_base.specs.declared.number.Moment.{Moment}
use Rattle.cm_base.specs.declared.user.User.{User}
use Rattle.desk_model.specs.declared.entry.Entry.{Entry}
use Rattle.desk_model.specs.Histories.{own}
use Rattle.http_grammar.specs.declared.fault.HttpFault.{HttpFault}
use Rattle.http_grammar.specs.declared.fault.HttpFault.TheVariants.{Cut}
use Rattle.http_grammar.specs.First.{Fault, IsPending}
use Rattle.talk.specs.declared.end.End.{End}
use Rattle.talk.specs.declared.end.End.TheVariants.{Ended, Bad, ReadFault, WriteFault, Starved, Unkept}
use Rattle.talk.specs.Served.{Kind}
use Rattle.talk.specs.Wire.{Wire}
use Rattle.talk.specs.Requests.{Arrived, rest_after, Due, interim, no_interim, HasFault, at_front, cut, AtEnd, closed, at_border, IsBad}
use Rattle.talk.specs.Session.{Setting, Turn, requests, sent, entries, last_place, AreTurns, Session}
use Rattle.talk.specs.Told.{Gives}
use Rattle.talk.specs.Alone.{Alone, IsFinal, alone_at, after_requests}
use Rattle.talk.proofs.WireLaws.{GrammarLaws, rest_more, requests_more, due_more}
use Rattle.talk.proofs.Alones.{turns-alone, progress}

pub last-within : {S C Q : Type 0} (kind : Kind S C Q) (at : Setting S) (after : ℕ) (h : List (Entry C)) (ts : List (Turn C)) → at.before ≤ after → AreTurns kind at after h ts → last_place at.before ts ≤ after
last-within kind at after h [] le q = le
last-within kind at after h (t ∷ ts) le q = q.1.within

-- where no more can come once the source has ended, an end on the bytes given is one on all bytes
pub bad-more : (w : Wire) → GrammarLaws → (rs : List Arrived) (rest more : List ℕ) (over : Bool) (fault : HttpFault) (before output : List ℕ) → (over ≡ true → more ≡ [])
    → IsBad w rs rest over fault before output → IsBad w rs (rest ++ more) true fault before output
bad-more w law rs rest more over fault before output none bad = by_fault bad.has_fault
  where
    by_fault : HasFault rest over fault → IsBad w rs (rest ++ more) true fault before output
    by_fault (at_front first) = record {
      still_open = bad.still_open;
      has_fault = at_front (law.kept rest more (Fault fault) first tt);
      due = bad.due;
      is_due = due_more w law rest more bad.due fault first bad.is_due;
      output_is = bad.output_is;
    }
    by_fault (cut is pending so) =
        let same : rest ≡ rest ++ more = sym (append-nil rest) ∙ ap (λ m. rest ++ m) (sym (none so)) in
        record {
          still_open = bad.still_open;
          has_fault = cut is (subst IsPending same pending) refl;
          due = bad.due;
          is_due = subst (λ r. Due w r bad.due) same bad.is_due;
          output_is = bad.output_is;
        }

pub end-more : (w : Wire) (rs : List Arrived) (rest more : List ℕ) (over : Bool) → (over ≡ true → more ≡ []) → AtEnd w rs rest over → AtEnd w rs (rest ++ more) true
end-more w rs rest more over none (closed is) = closed is
end-more w rs rest more over none (at_border open_so empty so) = at_border open_so (rw (empty, none so) refl) refl

-- the requests, the history and the output are those of the session alone
pub progress-alone : {S C Q : Type 0} (kind : Kind S C Q) (opening : S) (users : List User) (after : ℕ) (h : List (Entry C)) (input : List ℕ) (over : Bool) (output : List ℕ) (times : List Moment) (read_failed write_failed : Bool) (end : End) (words v : Words)
    → (s : Session kind (alone_at opening users) after h input over output times read_failed write_failed end) → own 0 0 h ≡ h → Gives words times (Some v)
    → after_requests kind (alone_at opening users) words (requests s.turns) ≡ progress h (sent kind.wire s.turns) v
progress-alone kind opening users after h input over output times read_failed write_failed end words v s mine gives =
    let all : entries s.turns ≡ h = sym s.owns ∙ mine in
    let le : last_place 0 s.turns ≤ length (entries s.turns) = omega (arith, last-within kind (alone_at opening users) after h s.turns s.begins s.are_turns, s.held, ap length all) in
    let times_so = rw (← s.times_are) at gives in
    let is = turns-alone kind (alone_at opening users) after h s.turns words v refl s.are_turns ([], append-nil (entries s.turns) ∙ all) le times_so in
    is ∙ ap (λ es. progress es (sent kind.wire s.turns) v) all

-- on the bytes that were given
bad-given : (w : Wire) (rs : List Arrived) (rest : List ℕ) (over : Bool) (fault : HttpFault) (before output : List ℕ) → IsBad w rs rest over fault before output → IsBad w rs rest true fault before output
bad-given w rs rest over fault before output bad = record { still_open = bad.still_open; has_fault = by_fault bad.has_fault; due = bad.due; is_due = bad.is_due; output_is = bad.output_is }
  where
    by_fault : HasFault rest over fault → HasFault rest true fault
    by_fault (at_front first) = at_front first
    by_fault (cut is pending so) = cut is pending refl

end-given : (w : Wire) (rs : List Arrived) (rest : List ℕ) (over : Bool) → AtEnd w rs rest over → AtEnd w rs rest true
end-given w rs rest over (closed is) = closed is
end-given w rs rest over (at_border open_so empty so) = at_border open_so empty refl

pub session-given : {S C Q : Type 0} (kind : Kind S C Q) (opening : S) (users : List User) (after : ℕ) (h : List (Entry C)) (input : List ℕ) (over : Bool) (output : List ℕ) (times : List Moment) (read_failed write_failed : Bool) (end : End) (words v : Words)
    → Session kind (alone_at opening users) after h input over output times read_failed write_failed end → own 0 0 h ≡ h → Gives words times (Some v) → IsFinal end → Alone kind opening users words input output end h
session-given kind opening users after h input over output times read_failed write_failed Ended words v s mine gives final =
    let is = progress-alone kind opening users after h input over output times read_failed write_failed Ended words v s mine gives in
    record {
      arrived = requests s.turns;
      are_requests = s.are_requests;
      history = rw is refl;
      ends = rw is (end-given kind.wire (requests s.turns) (rest_after input (requests s.turns)) over s.ends.0, s.ends.1);
    }
session-given kind opening users after h input over output times read_failed write_failed (Bad fault) words v s mine gives final =
    let is = progress-alone kind opening users after h input over output times read_failed write_failed (Bad fault) words v s mine gives in
    record {
      arrived = requests s.turns;
      are_requests = s.are_requests;
      history = rw is refl;
      ends = rw is (bad-given kind.wire (requests s.turns) (rest_after input (requests s.turns)) over fault (sent kind.wire s.turns) output s.ends);
    }
session-given kind opening users after h input over output times read_failed write_failed ReadFault words v s mine gives final = absurd final
session-given kind opening users after h input over output times read_failed write_failed WriteFault words v s mine gives final = absurd final
session-given kind opening users after h input over output times read_failed write_failed Starved words v s mine gives final = absurd final
session-given kind opening users after h input over output times read_failed write_failed Unkept words v s mine gives final = absurd final

-- on those and the bytes that were left behind them
pub session-alone : {S C Q : Type 0} (kind : Kind S C Q) (opening : S) (users : List User) (after : ℕ) (h : List (Entry C)) (input more : List ℕ) (over : Bool) (output : List ℕ) (times : List Moment) (read_failed write_failed : Bool) (end : End) (words v : Words)
    → GrammarLaws → Session kind (alone_at opening users) after h input over output times read_failed write_failed end → own 0 0 h ≡ h → Gives words times (Some v)
    → (over ≡ true → more ≡ []) → IsFinal end → Alone kind opening users words (input ++ more) output end h
session-alone kind opening users after h input more over output times read_failed write_failed Ended words v law s mine gives none final =
    let is = progress-alone kind opening users after h input over output times read_failed write_failed Ended words v s mine gives in
    let rest = rest_more kind.wire law input more (requests s.turns) s.are_requests in
    record {
      arrived = requests s.turns;
      are_requests = requests_more kind.wire law input more (requests s.turns) s.are_requests;
      history = rw is refl;
      ends = rw (is, rest) (end-more kind.wire (requests s.turns) (rest_after input (requests s.turns)) more over none s.ends.0, s.ends.1);
    }
session-alone kind opening users after h input more over output times read_failed write_failed (Bad fault) words v law s mine gives none final =
    let is = progress-alone kind opening users after h input over output times read_failed write_failed (Bad fault) words v s mine gives in
    let rest = rest_more kind.wire law input more (requests s.turns) s.are_requests in
    record {
      arrived = requests s.turns;
      are_requests = requests_more kind.wire law input more (requests s.turns) s.are_requests;
      history = rw is refl;
      ends = rw (is, rest) (bad-more kind.wire law (requests s.turns) (rest_after input (requests s.turns)) more over fault (sent kind.wire s.turns) output none s.ends);
    }
session-alone kind opening users after h input more over output times read_failed write_failed ReadFault words v law s mine gives none final = absurd final
session-alone kind opening users after h input more over output times read_failed write_failed WriteFault words v law s mine gives none final = absurd final
session-alone kind opening users after h input more over output times read_failed write_failed Starved words v law s mine gives none final = absurd final
session-alone kind opening users after h input more over output times read_failed write_failed Unkept words v law s mine gives none final = absurd final

-- a session whose read failed is the session alone on the bytes that it was given, which ends there in one of two ways
pub due_empty : (w : Wire) → GrammarLaws → (due : List ℕ) → Due w [] due → due ≡ []
due_empty w law due (interim head holds expects is) = absurd (law.no_head head holds)
due_empty w law due (no_interim none is) = is

pub session-cut-off : {S C Q : Type 0} (kind : Kind S C Q) (opening : S) (users : List User) (after : ℕ) (h : List (Entry C)) (input : List ℕ) (over : Bool) (output : List ℕ) (times : List Moment) (read_failed write_failed : Bool) (words v : Words)
    → GrammarLaws → Session kind (alone_at opening users) after h input over output times read_failed write_failed ReadFault → own 0 0 h ≡ h → Gives words times (Some v)
    → (end : End) × Alone kind opening users words input output end h
session-cut-off kind opening users after h input over output times read_failed write_failed words v law s mine gives = by_rest s.ends.0.no_more
  where
    is : after_requests kind (alone_at opening users) words (requests s.turns) ≡ progress h (sent kind.wire s.turns) v
    is = progress-alone kind opening users after h input over output times read_failed write_failed ReadFault words v s mine gives

    by_rest : (rest_after input (requests s.turns) ≡ []) ⊎ IsPending (rest_after input (requests s.turns)) → (end : End) × Alone kind opening users words input output end h
    by_rest (inl empty) =
        let none : s.ends.0.due ≡ [] = due_empty kind.wire law s.ends.0.due (subst (λ r. Due kind.wire r s.ends.0.due) empty s.ends.0.is_due) in (
          Ended,
          record {
            arrived = requests s.turns;
            are_requests = s.are_requests;
            history = rw is refl;
            ends = rw is (at_border s.ends.0.still_open empty refl, s.ends.0.output_is ∙ (ap (λ d. sent kind.wire s.turns ++ d) none ∙ append-nil (sent kind.wire s.turns)));
          },
        )
    by_rest (inr pending) = (
      Bad Cut,
      record {
        arrived = requests s.turns;
        are_requests = s.are_requests;
        history = rw is refl;
        ends = rw is (record {
          still_open = s.ends.0.still_open;
          has_fault = cut refl pending refl;
          due = s.ends.0.due;
          is_due = s.ends.0.is_due;
          output_is = s.ends.0.output_is ∙ ap (λ d. sent kind.wire s.turns ++ d) (sym (append-nil s.ends.0.due));
        });
      },
    )
