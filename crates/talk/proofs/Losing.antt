-- A session with nobody beside it whose write failed, or that wanted memory, is the session alone up to there.
use Rattle.std.proofs.Common.{◌≡◌, ℕ, ◌≤◌, Bool, List, [], ◌∷◌, ◌++◌, Some, length, take, refl, ap, sym, ◌∙◌, arith, subst}
use Rattle.std.proofs.lemmas.List.{append-nil}
use mathlib.Core.List.{IsPrefix}
use Rattle.outside.specs.Clocks.{Words}
use Rattle.cm_base.specs.declared.number.Moment.{Moment}
use Rattle.cm_base.specs.declared.user.User.{User}
use Rattle.desk_model.specs.declared.entry.Entry.{Entry}
use Rattle.desk_model.specs.Histories.{own}
use Rattle.talk.specs.declared.end.End.TheVariants.{WriteFault, Starved}
use Rattle.talk.specs.Served.{Kind, ask_of}
use Rattle.talk.specs.Requests.{rest_after, is_last, interim_of}
use Rattle.talk.specs.Session.{Setting, Turn, requests, sent, entries, listed, last_place, AreTurns, moments, timed, IsLost, of_turn, of_fault, of_interim, IsStarved, Session}
use Rattle.talk.specs.Told.{Gives}
use Rattle.talk.specs.Alone.{Progress, LosesAlone, in_reply, in_fault, in_interim, LostAlone, StarvedAlone, alone_at, after_requests}
use Rattle.talk.proofs.ListFacts.{prefix-trans, prefix-append}
use Rattle.talk.proofs.Alones.{turns-alone, does-down, gives-split, progress}
use Rattle.talk.proofs.FromSession.{last-within, progress-alone}

-- the turns before the last one are those that the session makes alone
earlier-alone : {S C Q : Type 0} (kind : Kind S C Q) (at : Setting S) (after : ℕ) (h : List (Entry C)) (t : Turn C) (ts : List (Turn C)) (u v : Words)
    → at.before ≡ 0 → AreTurns kind at after h (t ∷ ts) → IsPrefix (entries (t ∷ ts)) h → last_place at.before (t ∷ ts) ≤ length (entries (t ∷ ts)) → Gives u (moments kind at (t ∷ ts)) (Some v)
    → (after_requests kind at u (requests ts)).output ≡ sent kind.wire ts
earlier-alone kind at after h t ts u v none q pre le g =
    let ask = ask_of kind at.users t.arrived.request in
    let head = t.arrived.request.head in
    let split = gives-split u (moments kind at ts) (timed ask t.moment) (Some v) g in
    ap (λ (p : Progress _). p.output) (turns-alone kind at after h ts u split.0 none q.0 (prefix-trans (entries ts) (entries (t ∷ ts)) h (prefix-append (entries ts) (listed t.wrote)) pre)
    (does-down kind at (length (entries ts)) (last_place at.before ts) t.place (take t.place h) head (is_last kind.wire (length ts) head) ask t.wrote t.moment t.text (entries ts) le q.1.does) split.1)

pub lost-given : {S C Q : Type 0} (kind : Kind S C Q) (opening : S) (users : List User) (after : ℕ) (h : List (Entry C)) (input : List ℕ) (over : Bool) (output : List ℕ) (times : List Moment) (read_failed write_failed : Bool) (words v : Words)
    → Session kind (alone_at opening users) after h input over output times read_failed write_failed WriteFault → own 0 0 h ≡ h → Gives words times (Some v)
    → LostAlone kind opening users words input output h
lost-given {S} {C} {Q} kind opening users after h input over output times read_failed write_failed words v s mine gives = record {
  arrived = requests s.turns;
  are_requests = s.are_requests;
  history = rw is refl;
  loses = by_text s.ends.0;
}
  where
    is : after_requests kind (alone_at opening users) words (requests s.turns) ≡ progress h (sent kind.wire s.turns) v
    is = progress-alone kind opening users after h input over output times read_failed write_failed WriteFault words v s mine gives

    out : (after_requests kind (alone_at opening users) words (requests s.turns)).output ≡ sent kind.wire s.turns
    out = ap (λ (p : Progress C). p.output) is

    all : entries s.turns ≡ h
    all = sym s.owns ∙ mine

    le : last_place 0 s.turns ≤ length (entries s.turns)
    le = omega (arith, last-within kind (alone_at opening users) after h s.turns s.begins s.are_turns, s.held, ap length all)

    earlier-out : (t : Turn C) (earlier : List (Turn C)) → s.turns ≡ t ∷ earlier → (after_requests kind (alone_at opening users) words (requests earlier)).output ≡ sent kind.wire earlier
    earlier-out t earlier e = earlier-alone kind (alone_at opening users) after h t earlier words v refl
        (subst (AreTurns kind (alone_at opening users) after h) e s.are_turns)
        (subst (λ ts. IsPrefix (entries ts) h) e ([], append-nil (entries s.turns) ∙ all))
        (subst (λ ts. last_place 0 ts ≤ length (entries ts)) e le)
        (subst (λ ts. Gives words (moments kind (alone_at opening users) ts) (Some v)) e (subst (λ ms. Gives words ms (Some v)) (sym s.times_are) gives))

    by_text : IsLost kind.wire s.turns (rest_after input (requests s.turns)) output → LosesAlone kind (alone_at opening users) words (requests s.turns) (rest_after input (requests s.turns)) output
    by_text (of_turn t earlier part e front output_is) =
        let before = earlier-out t earlier e in
        in_reply t.arrived (requests earlier) (interim_of kind.wire t.arrived.request.head ++ t.text) part (ap requests e)
        (out ∙ (ap (sent kind.wire) e ∙ ap (λ o. o ++ (interim_of kind.wire t.arrived.request.head ++ t.text)) (sym before)))
        front (output_is ∙ ap (λ o. o ++ part) (sym before))
    by_text (of_fault open_so fault first due part is_due front output_is) = in_fault open_so fault first due part is_due front (output_is ∙ ap (λ o. o ++ part) (sym out))
    by_text (of_interim open_so head holds expects part front output_is) = in_interim open_so head holds expects part front (output_is ∙ ap (λ o. o ++ part) (sym out))

pub starved-given : {S C Q : Type 0} (kind : Kind S C Q) (opening : S) (users : List User) (after : ℕ) (h : List (Entry C)) (input : List ℕ) (over : Bool) (output : List ℕ) (times : List Moment) (read_failed write_failed : Bool) (words v : Words)
    → Session kind (alone_at opening users) after h input over output times read_failed write_failed Starved → own 0 0 h ≡ h → Gives words times (Some v)
    → StarvedAlone kind opening users words input output write_failed h
starved-given kind opening users after h input over output times read_failed write_failed words v s mine gives =
    let is = progress-alone kind opening users after h input over output times read_failed write_failed Starved words v s mine gives in
    let out = ap (λ (p : Progress _). p.output) is in
    record {
      arrived = requests s.turns;
      are_requests = s.are_requests;
      history = rw is refl;
      starves = subst (λ o. IsStarved kind.wire (requests s.turns) (rest_after input (requests s.turns)) o output write_failed) (sym out) s.ends;
    }
