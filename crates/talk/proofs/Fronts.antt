-- A session whose write failed has sent a front of what the session alone sends.
use Rattle.std.proofs.Common.{◌≡◌, ℕ, ◌≤◌, ◌<◌, ◌⊎◌, Bool, true, false, List, [], ◌∷◌, ◌++◌, Some, Result, Ok, Err, length, refl, ap, sym, ◌∙◌, arith, append_assoc, subst, inl, inr, if◌then◌else◌}
use Rattle.std.proofs.lemmas.List.{append-nil}
use mathlib.Core.List.{IsPrefix}
use Rattle.outside.specs.Clocks.{Words}
use Rattle.cm_base.specs.declared.cause.Cause.{Cause}
use Rattle.cm_base.specs.declared.number.Moment.{Moment}
use Rattle.cm_base.specs.declared.shown.Shown.{Shown}
use Rattle.cm_base.specs.declared.user.User.{User}
use Rattle.desk_model.specs.declared.entry.Entry.{Entry}
use Rattle.desk_model.specs.Histories.{own}
use Rattle.http_grammar.specs.Request.{Head, Request}
use Rattle.http_grammar.specs.Fields.{expects_continue}
use Rattle.http_grammar.specs.declared.fault.HttpFault.{HttpFault}
use Rattle.http_grammar.specs.First.{First, Whole, Fault, HoldsHead}
use Rattle.talk.specs.declared.end.End.{End}
use Rattle.talk.specs.declared.end.End.TheVariants.{Ended, Bad, ReadFault, WriteFault, Starved, Unkept}
use Rattle.talk.specs.Wire.{Wire}
use Rattle.talk.specs.Served.{Kind, Ask, faulty, writes, reads}
use Rattle.talk.specs.Requests.{Arrived, rest_after, IsOpen, AreRequests, interim_of, Due, interim, at_front, fault_text, closed, at_border}
use Rattle.talk.specs.Session.{Setting, requests, sent, IsLost, of_turn, of_fault, of_interim, Session}
use Rattle.talk.specs.Told.{Gives}
use Rattle.talk.specs.Alone.{Alone, EndsAlone, Progress, replied_late, judged, after_ask, after_requests, alone_at}
use Rattle.talk.proofs.ListFacts.{prefix-trans, prefix-append}
use Rattle.talk.proofs.WireLaws.{GrammarLaws, FrontLaws, rest_more, requests_more, due_more, due_one}
use Rattle.talk.proofs.OneAlone.{lined, follows, no_request, one_end, le_or_gt, open_closed}
use Rattle.talk.proofs.FromSession.{progress-alone}
use Rattle.talk.proofs.SoFar.{interim-true}
use Rattle.talk.proofs.Ending.{prefix-behind}

begins : (out first text : List ℕ) → IsPrefix (out ++ first) (out ++ (first ++ text))
begins out first text = (text, append_assoc out first text)

-- a turn sends more, beginning with the interim reply
ask-begins : {S C Q : Type 0} (kind : Kind S C Q) (at : Setting S) (a : Progress C) (head : Head) (last : Bool) (ask : Ask C Q) → IsPrefix (a.output ++ interim_of kind.wire head) (after_ask kind at a head last ask).output
ask-begins kind at a head last (faulty cause) = begins a.output (interim_of kind.wire head) _
ask-begins kind at a head last (reads user least question) = begins a.output (interim_of kind.wire head) _
ask-begins kind at a head last (writes user least call) = by_test _ _ _ _
  where
    by_test : (b : Bool) (text : List ℕ) (e : Entry _) (r : Result Shown Cause)
        → IsPrefix (a.output ++ interim_of kind.wire head) (if b then replied_late a (interim_of kind.wire head ++ text) else judged kind at a (interim_of kind.wire head) last e r).output
    by_test true text e r = begins a.output (interim_of kind.wire head) text
    by_test false text e (Ok shown) = begins a.output (interim_of kind.wire head) _
    by_test false text e (Err cause) = begins a.output (interim_of kind.wire head) _

-- and so do more turns
more-begins : {S C Q : Type 0} (kind : Kind S C Q) (at : Setting S) (words : Words) (more rs : List Arrived) → IsPrefix (after_requests kind at words rs).output (after_requests kind at words (more ++ rs)).output
more-begins kind at words [] rs = ([], append-nil _)
more-begins kind at words (x ∷ more) rs =
    let before = after_requests kind at words (more ++ rs) in
    prefix-trans _ before.output _ (more-begins kind at words more rs)
    (prefix-trans before.output (before.output ++ interim_of kind.wire x.request.head) _ (prefix-append before.output (interim_of kind.wire x.request.head)) (ask-begins kind at before x.request.head _ _))

-- the end sends no less than the turns
end-begins : (w : Wire) (rs : List Arrived) (rest before output : List ℕ) (end : End) → EndsAlone w rs rest before output end → IsPrefix before output
end-begins w rs rest before output Ended e = ([], append-nil before ∙ sym e.1)
end-begins w rs rest before output (Bad fault) e = (e.due ++ fault_text w fault, sym e.output_is)
end-begins w rs rest before output ReadFault e = absurd e
end-begins w rs rest before output WriteFault e = absurd e
end-begins w rs rest before output Starved e = absurd e
end-begins w rs rest before output Unkept e = absurd e

-- the request right behind some
behind : (w : Wire) (input : List ℕ) (x : Arrived) (more rs : List Arrived) → AreRequests w input (x ∷ (more ++ rs)) → (y : Arrived) × (m : List Arrived) × (x ∷ (more ++ rs) ≡ m ++ (y ∷ rs)) × AreRequests w input (y ∷ rs)
behind w input x [] rs q = (x, [], refl, q)
behind w input x (z ∷ more) rs q = (let b = behind w input z more rs q.0 in (b.0, x ∷ b.1, ap (λ l. x ∷ l) b.2, b.3))

whole_or_fault : (r : Request) (n : ℕ) (f : HttpFault) → Whole r n ≡ Fault f → ⊥
whole_or_fault r n f e = cc

-- the requests of a session that has ended begin with all those that stand at the front
all-lined : (w : Wire) → FrontLaws → (input before output : List ℕ) (end : End) (rs qs : List Arrived) → AreRequests w input rs → AreRequests w input qs → EndsAlone w qs (rest_after input qs) before output end → (more : List Arrived) × (qs ≡ more ++ rs)
all-lined w law input before output end rs qs p q ends = by_length (le_or_gt (length rs) (length qs))
  where
    by_more : (m : List Arrived) → rs ≡ m ++ qs → length qs < length rs → ⊥
    by_more [] e lt = omega (arith, lt, ap length e)
    by_more (x ∷ m) e lt =
        let f = follows w input x m qs (subst (AreRequests w input) e p) in
        no_request w law qs (rest_after input qs) before output end f.0.request f.0.size ends f.1 f.2

    by_length : (length rs ≤ length qs) ⊎ (length qs < length rs) → (more : List Arrived) × (qs ≡ more ++ rs)
    by_length (inl le) = lined w law input rs qs p q le
    by_length (inr lt) = let l = lined w law input qs rs q p (omega (arith, lt)) in absurd (by_more l.0 l.1 lt)

-- the replies to the requests at the front
front-of-turns : {S C Q : Type 0} (kind : Kind S C Q) (opening : S) (users : List User) (words : Words) (input o : List ℕ) (e : End) (h : List (Entry C)) (rs : List Arrived)
    → FrontLaws → AreRequests kind.wire input rs → Alone kind opening users words input o e h → IsPrefix (after_requests kind (alone_at opening users) words rs).output o
front-of-turns {C = C} kind opening users words input o e h rs law p a =
    let line = all-lined kind.wire law input (run a.arrived).output o e rs a.arrived p a.are_requests a.ends in
    prefix-trans (run rs).output (run a.arrived).output o
    (subst (λ qs. IsPrefix (run rs).output (run qs).output) (sym line.1) (more-begins kind (alone_at opening users) words line.0 rs))
    (end-begins kind.wire a.arrived (rest_after input a.arrived) (run a.arrived).output o e a.ends)
  where
    run : List Arrived → Progress C
    run = after_requests kind (alone_at opening users) words

-- those and the text of a fault
front-of-fault : {S C Q : Type 0} (kind : Kind S C Q) (opening : S) (users : List User) (words : Words) (input o : List ℕ) (e : End) (h : List (Entry C)) (rs : List Arrived) (fault : HttpFault) (due : List ℕ)
    → FrontLaws → AreRequests kind.wire input rs → IsOpen kind.wire rs → First (rest_after input rs) (Fault fault) → Due kind.wire (rest_after input rs) due → Alone kind opening users words input o e h
    → o ≡ (after_requests kind (alone_at opening users) words rs).output ++ (due ++ fault_text kind.wire fault)
front-of-fault {C = C} kind opening users words input o e h rs fault due law p open_so first is_due a = by_more line.0 line.1
  where
    run : List Arrived → Progress C
    run = after_requests kind (alone_at opening users) words

    line : (more : List Arrived) × (a.arrived ≡ more ++ rs)
    line = all-lined kind.wire law input (run a.arrived).output o e rs a.arrived p a.are_requests a.ends

    by_more : (more : List Arrived) → a.arrived ≡ more ++ rs → o ≡ (run rs).output ++ (due ++ fault_text kind.wire fault)
    by_more [] is =
        (one_end kind.wire law rs (rest_after input rs) (run rs).output o ((run rs).output ++ (due ++ fault_text kind.wire fault)) e (Bad fault)
        (subst (λ qs. EndsAlone kind.wire qs (rest_after input qs) (run qs).output o e) is a.ends)
        (record { still_open = open_so; has_fault = at_front first; due = due; is_due = is_due; output_is = refl })).0
    by_more (x ∷ more) is =
        let f = follows kind.wire input x more rs (subst (AreRequests kind.wire input) is a.are_requests) in
        absurd (whole_or_fault f.0.request f.0.size fault (law.one (rest_after input rs) (Whole f.0.request f.0.size) (Fault fault) f.2 first))

-- those and an interim reply
front-of-interim : {S C Q : Type 0} (kind : Kind S C Q) (opening : S) (users : List User) (words : Words) (input o : List ℕ) (e : End) (h : List (Entry C)) (rs : List Arrived) (head : Head)
    → FrontLaws → GrammarLaws → AreRequests kind.wire input rs → IsOpen kind.wire rs → HoldsHead (rest_after input rs) head → expects_continue head ≡ true → Alone kind opening users words input o e h
    → IsPrefix ((after_requests kind (alone_at opening users) words rs).output ++ kind.wire.interim_text) o
front-of-interim {C = C} kind opening users words input o e h rs head law laws p open_so holds expects a = by_more line.0 line.1
  where
    run : List Arrived → Progress C
    run = after_requests kind (alone_at opening users) words

    line : (more : List Arrived) × (a.arrived ≡ more ++ rs)
    line = all-lined kind.wire law input (run a.arrived).output o e rs a.arrived p a.are_requests a.ends

    by_end : (end : End) → EndsAlone kind.wire rs (rest_after input rs) (run rs).output o end → IsPrefix ((run rs).output ++ kind.wire.interim_text) o
    by_end Ended (closed is, out) = absurd (open_closed kind.wire rs open_so is)
    by_end Ended (at_border o' nothing so, out) = absurd (laws.no_head head (subst (λ b. HoldsHead b head) nothing holds))
    by_end (Bad fault) bad =
        let same : bad.due ≡ kind.wire.interim_text = due_one kind.wire (rest_after input rs) bad.due kind.wire.interim_text bad.is_due (interim head holds expects refl) in
        (fault_text kind.wire fault, append_assoc (run rs).output kind.wire.interim_text (fault_text kind.wire fault) ∙ (ap (λ d. (run rs).output ++ (d ++ fault_text kind.wire fault)) (sym same) ∙ sym bad.output_is))
    by_end ReadFault x = absurd x
    by_end WriteFault x = absurd x
    by_end Starved x = absurd x
    by_end Unkept x = absurd x

    by_more : (more : List Arrived) → a.arrived ≡ more ++ rs → IsPrefix ((run rs).output ++ kind.wire.interim_text) o
    by_more [] is = by_end e (subst (λ qs. EndsAlone kind.wire qs (rest_after input qs) (run qs).output o e) is a.ends)
    by_more (x ∷ more) is =
        let b = behind kind.wire input x more rs (subst (AreRequests kind.wire input) is a.are_requests) in
        let y = b.0 in
        let same : y.request.head ≡ head = laws.head_one (rest_after input rs) y.request.head head (laws.whole_head (rest_after input rs) y.request y.size b.3.2) holds in
        let sent_so : kind.wire.interim_text ≡ interim_of kind.wire y.request.head = interim-true kind.wire y.request.head (ap expects_continue same ∙ expects) in
        prefix-trans ((run rs).output ++ kind.wire.interim_text) (run (y ∷ rs)).output o
        (subst (λ t. IsPrefix ((run rs).output ++ t) (run (y ∷ rs)).output) (sym sent_so) (ask-begins kind (alone_at opening users) (run rs) y.request.head _ _))
        (front-of-turns kind opening users words input o e h (y ∷ rs) law b.3 a)

-- what was sent is a front of the output of the session alone on all that was left
pub lost-front : {S C Q : Type 0} (kind : Kind S C Q) (opening : S) (users : List User) (words v : Words) (after : ℕ) (h g : List (Entry C)) (input more : List ℕ) (over : Bool) (output o : List ℕ) (times : List Moment) (read_failed write_failed : Bool) (e : End)
    → FrontLaws → GrammarLaws → Session kind (alone_at opening users) after h input over output times read_failed write_failed WriteFault → own 0 0 h ≡ h → Gives words times (Some v)
    → Alone kind opening users words (input ++ more) o e g → IsPrefix output o
lost-front kind opening users words v after h g input more over output o times read_failed write_failed e law laws s mine gives a = by_text s.ends.0
  where
    rs : List Arrived
    rs = requests s.turns

    out : (after_requests kind (alone_at opening users) words rs).output ≡ sent kind.wire s.turns
    out = ap (λ p. p.output) (progress-alone kind opening users after h input over output times read_failed write_failed WriteFault words v s mine gives)

    are : AreRequests kind.wire (input ++ more) rs
    are = requests_more kind.wire laws input more rs s.are_requests

    rest : rest_after (input ++ more) rs ≡ rest_after input rs ++ more
    rest = rest_more kind.wire laws input more rs s.are_requests

    all : IsPrefix (sent kind.wire s.turns) o
    all = subst (λ t. IsPrefix t o) out (front-of-turns kind opening users words (input ++ more) o e g rs law are a)

    by_text : IsLost kind.wire s.turns (rest_after input rs) output → IsPrefix output o
    by_text (of_turn t earlier part is front output_is) =
        let whole : IsPrefix (sent kind.wire earlier ++ part) (sent kind.wire (t ∷ earlier)) = prefix-behind (sent kind.wire earlier) part (interim_of kind.wire t.arrived.request.head ++ t.text) front in
        subst (λ x. IsPrefix x o) (sym output_is) (prefix-trans (sent kind.wire earlier ++ part) (sent kind.wire s.turns) o (subst (λ ts. IsPrefix (sent kind.wire earlier ++ part) (sent kind.wire ts)) (sym is) whole) all)
    by_text (of_fault open_so fault first due part is_due front output_is) =
        let first' = subst (λ b. First b (Fault fault)) (sym rest) (laws.kept (rest_after input rs) more (Fault fault) first tt) in
        let due' = subst (λ b. Due kind.wire b due) (sym rest) (due_more kind.wire laws (rest_after input rs) more due fault first is_due) in
        let full = front-of-fault kind opening users words (input ++ more) o e g rs fault due law are open_so first' due' a in
        let full' : o ≡ sent kind.wire s.turns ++ (due ++ fault_text kind.wire fault) = full ∙ ap (λ t. t ++ (due ++ fault_text kind.wire fault)) out in
        subst (λ x. IsPrefix x o) (sym output_is) (subst (λ y. IsPrefix (sent kind.wire s.turns ++ part) y) (sym full') (prefix-behind (sent kind.wire s.turns) part (due ++ fault_text kind.wire fault) front))
    by_text (of_interim open_so head holds expects part front output_is) =
        let holds' = subst (λ b. HoldsHead b head) (sym rest) (laws.head_kept (rest_after input rs) more head holds) in
        let full = front-of-interim kind opening users words (input ++ more) o e g rs head law laws are open_so holds' expects a in
        let full' = subst (λ t. IsPrefix (t ++ kind.wire.interim_text) o) out full in
        subst (λ x. IsPrefix x o) (sym output_is) (prefix-trans (sent kind.wire s.turns ++ part) (sent kind.wire s.turns ++ kind.wire.interim_text) o (prefix-behind (sent kind.wire s.turns) part kind.wire.interim_text front) full')
