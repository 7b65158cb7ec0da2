-- The session alone has one output, one end and one history.
use Rattle.std.proofs.Common.{◌≡◌, ℕ, ◌+◌, ◌≤◌, ◌<◌, ◌⊎◌, Bool, true, List, [], ◌∷◌, ◌++◌, length, refl, ap, sym, ◌∙◌, arith, length-append, subst, inl, inr}
use Rattle.std.proofs.lemmas.List.{append-nil}
use Rattle.std.proofs.lemmas.Bool.{cases_lt}
use Rattle.outside.specs.Clocks.{Words}
use Rattle.cm_base.specs.declared.user.User.{User}
use Rattle.desk_model.specs.declared.entry.Entry.{Entry}
use Rattle.http_grammar.specs.Request.{Head, Request}
use Rattle.http_grammar.specs.declared.fault.HttpFault.{HttpFault}
use Rattle.http_grammar.specs.First.{First, Front, Nothing, Beginning, Waits, Whole, Fault, empty, IsPending}
use Rattle.talk.specs.declared.end.End.{End}
use Rattle.talk.specs.declared.end.End.TheVariants.{Ended, Bad, ReadFault, WriteFault, Starved, Unkept}
use Rattle.talk.specs.Served.{Kind}
use Rattle.talk.specs.Wire.{Wire}
use Rattle.talk.specs.Requests.{Arrived, rest_after, IsOpen, IsClosed, AreRequests, HasFault, at_front, cut, AtEnd, closed, at_border, IsBad, fault_text}
use Rattle.talk.specs.Alone.{Alone, EndsAlone, Progress, alone_at, after_requests}
use Rattle.talk.proofs.WireLaws.{FrontLaws, due_one}

same_arrived : (r q : Arrived) → Whole r.request r.size ≡ Whole q.request q.size → r ≡ q
same_arrived r q e =
    let a : r.request ≡ q.request = cc e in
    let b : r.size ≡ q.size = cc e in
    λ i. record { request = a i; size = b i }

pub no_front : (a : List Arrived) (n : ℕ) → length a + n ≡ n → a ≡ []
no_front [] n e = refl
no_front (x ∷ xs) n e = absurd (omega (arith, e))

pub le_or_gt : (m n : ℕ) → (m ≤ n) ⊎ (n < m)
le_or_gt m n = elim (cases_lt n m) [ inl lt ↦ inr lt | inr ge ↦ inl ge ]

-- of two lists of requests at the front of one input, one begins the other
pub lined : (w : Wire) → FrontLaws → (input : List ℕ) (rs qs : List Arrived) → AreRequests w input rs → AreRequests w input qs → length rs ≤ length qs → (more : List Arrived) × (qs ≡ more ++ rs)
lined w law input [] qs p q le = (qs, sym (append-nil qs))
lined w law input (r ∷ rs) [] p q le = absurd (omega (arith, le))
lined w law input (r ∷ rs) (x ∷ qs) p q le = by_length (lined w law input (r ∷ rs) qs p q.0) (lined w law input rs qs p.0 q.0) (le_or_gt (length (r ∷ rs)) (length qs))
  where
    by_length : (length (r ∷ rs) ≤ length qs → (more : List Arrived) × (qs ≡ more ++ (r ∷ rs))) → (length rs ≤ length qs → (more : List Arrived) × (qs ≡ more ++ rs))
        → (length (r ∷ rs) ≤ length qs) ⊎ (length qs < length (r ∷ rs)) → (more : List Arrived) × (x ∷ qs ≡ more ++ (r ∷ rs))
    by_length shorter same (inl short) = (let s = shorter short in (x ∷ s.0, ap (λ ys. x ∷ ys) s.1))
    by_length shorter same (inr long) =
        let s = same (omega (arith, le)) in
        let none : s.0 ≡ [] = no_front s.0 (length rs) (omega (arith, ap length s.1, length-append s.0 rs, long, le)) in
        let is : qs ≡ rs = s.1 ∙ ap (λ m. m ++ rs) none in
        let first : First (rest_after input rs) (Whole x.request x.size) = subst (λ ys. First (rest_after input ys) (Whole x.request x.size)) is q.2 in
        let e : x ≡ r = same_arrived x r (law.one (rest_after input rs) (Whole x.request x.size) (Whole r.request r.size) first p.2) in
        ([], λ i. e i ∷ is i)

-- behind the first of them stands another
pub follows : (w : Wire) (input : List ℕ) (x : Arrived) (more rs : List Arrived) → AreRequests w input (x ∷ (more ++ rs)) → (y : Arrived) × IsOpen w rs × First (rest_after input rs) (Whole y.request y.size)
follows w input x [] rs q = (x, q.1, q.2)
follows w input x (m ∷ more) rs q = follows w input m more rs q.0

pub open_closed : (w : Wire) (rs : List Arrived) → IsOpen w rs → IsClosed w rs → ⊥
open_closed w [] o c = c
open_closed w (r ∷ rs) o c = cc

not_pending : (w : Wire) → FrontLaws → (rest : List ℕ) (x : Front) → First rest x → (x ≡ Beginning → ⊥) → ((h : Head) → x ≡ Waits h → ⊥) → IsPending rest → ⊥
not_pending w law rest x first a b (inl p) = a (law.one rest x Beginning first p)
not_pending w law rest x first a b (inr p) = b p.0 (law.one rest x (Waits p.0) first p.1)

whole_fault : (r : Request) (n : ℕ) (f : HttpFault) → Whole r n ≡ Fault f → ⊥
whole_fault r n f e = cc

fault_faces : (w : Wire) → FrontLaws → (rest : List ℕ) (over : Bool) (fault : HttpFault) (r : Request) (n : ℕ) → HasFault rest over fault → First rest (Whole r n) → ⊥
fault_faces w law rest over fault r n (at_front first) whole = whole_fault r n fault (law.one rest (Whole r n) (Fault fault) whole first)
fault_faces w law rest over fault r n (cut is pending so) whole = not_pending w law rest (Whole r n) whole (λ e. cc) (λ h e. cc) pending

-- where the session has ended, no request follows
pub no_request : (w : Wire) → FrontLaws → (rs : List Arrived) (rest before output : List ℕ) (end : End) (r : Request) (n : ℕ) → EndsAlone w rs rest before output end → IsOpen w rs → First rest (Whole r n) → ⊥
no_request w law rs rest before output Ended r n e o first = by_end e.0
  where
    by_end : AtEnd w rs rest true → ⊥
    by_end (closed c) = open_closed w rs o c
    by_end (at_border o' nothing so) = (let w = law.within rest r n first in omega (arith, w.0, w.1, ap length nothing))
no_request w law rs rest before output (Bad fault) r n e o first = fault_faces w law rest true fault r n e.has_fault first
no_request w law rs rest before output ReadFault r n e o first = e
no_request w law rs rest before output WriteFault r n e o first = e
no_request w law rs rest before output Starved r n e o first = e
no_request w law rs rest before output Unkept r n e o first = e

empty_fault : (w : Wire) → FrontLaws → (rest : List ℕ) (over : Bool) (fault : HttpFault) → rest ≡ [] → HasFault rest over fault → ⊥
empty_fault w law rest over fault nothing (at_front first) = absurd (differ (law.one rest Nothing (Fault fault) (empty nothing refl) first))
  where
    differ : Nothing ≡ Fault fault → ⊥
    differ e = cc
empty_fault w law rest over fault nothing (cut is pending so) = not_pending w law rest Nothing (empty nothing refl) (λ e. cc) (λ h e. cc) pending

end_bad : (w : Wire) → FrontLaws → (rs : List Arrived) (rest before output : List ℕ) (fault : HttpFault) → AtEnd w rs rest true → IsBad w rs rest true fault before output → ⊥
end_bad w law rs rest before output fault (closed c) bad = open_closed w rs bad.still_open c
end_bad w law rs rest before output fault (at_border o nothing so) bad = empty_fault w law rest true fault nothing bad.has_fault

fault_cut : (w : Wire) → FrontLaws → (rest : List ℕ) (fault : HttpFault) → First rest (Fault fault) → IsPending rest → ⊥
fault_cut w law rest fault first pending = not_pending w law rest (Fault fault) first (λ e. cc) (λ h e. cc) pending

one_fault : (w : Wire) → FrontLaws → (rest : List ℕ) (f g : HttpFault) → HasFault rest true f → HasFault rest true g → f ≡ g
one_fault w law rest f g (at_front a) (at_front b) = cc (law.one rest (Fault f) (Fault g) a b)
one_fault w law rest f g (at_front a) (cut is pending so) = absurd (fault_cut w law rest f a pending)
one_fault w law rest f g (cut is pending so) (at_front b) = absurd (fault_cut w law rest g b pending)
one_fault w law rest f g (cut is pending so) (cut is' pending' so') = is ∙ sym is'

-- one end, and one output
pub one_end : (w : Wire) → FrontLaws → (rs : List Arrived) (rest before o o' : List ℕ) (e e' : End) → EndsAlone w rs rest before o e → EndsAlone w rs rest before o' e' → (o ≡ o') × (e ≡ e')
one_end w law rs rest before o o' Ended Ended a b = (a.1 ∙ sym b.1, refl)
one_end w law rs rest before o o' Ended (Bad g) a b = absurd (end_bad w law rs rest before o' g a.0 b)
one_end w law rs rest before o o' (Bad f) Ended a b = absurd (end_bad w law rs rest before o f b.0 a)
one_end w law rs rest before o o' (Bad f) (Bad g) a b =
    let same : f ≡ g = one_fault w law rest f g a.has_fault b.has_fault in
    let due : a.due ≡ b.due = due_one w rest a.due b.due a.is_due b.is_due in
    (a.output_is ∙ (ap (λ d. before ++ (d ++ fault_text w f)) due ∙ (ap (λ f. before ++ (b.due ++ fault_text w f)) same ∙ sym b.output_is)), ap (λ f. Bad f) same)
one_end w law rs rest before o o' Ended ReadFault a b = absurd b
one_end w law rs rest before o o' Ended WriteFault a b = absurd b
one_end w law rs rest before o o' Ended Starved a b = absurd b
one_end w law rs rest before o o' Ended Unkept a b = absurd b
one_end w law rs rest before o o' (Bad f) ReadFault a b = absurd b
one_end w law rs rest before o o' (Bad f) WriteFault a b = absurd b
one_end w law rs rest before o o' (Bad f) Starved a b = absurd b
one_end w law rs rest before o o' (Bad f) Unkept a b = absurd b
one_end w law rs rest before o o' ReadFault e' a b = absurd a
one_end w law rs rest before o o' WriteFault e' a b = absurd a
one_end w law rs rest before o o' Starved e' a b = absurd a
one_end w law rs rest before o o' Unkept e' a b = absurd a

-- nothing more, where the shorter has ended
pub same_requests : (w : Wire) → FrontLaws → (input before output : List ℕ) (end : End) (rs qs : List Arrived) → AreRequests w input rs → AreRequests w input qs → EndsAlone w rs (rest_after input rs) before output end → length rs ≤ length qs → qs ≡ rs
same_requests w law input before output end rs qs p q ends le = by_more line.0 line.1
  where
    line : (more : List Arrived) × (qs ≡ more ++ rs)
    line = lined w law input rs qs p q le

    by_more : (more : List Arrived) → qs ≡ more ++ rs → qs ≡ rs
    by_more [] e = e
    by_more (x ∷ more) e =
        let f = follows w input x more rs (subst (AreRequests w input) e q) in
        absurd (no_request w law rs (rest_after input rs) before output end f.0.request f.0.size ends f.1 f.2)

pub alone-one : {S C Q : Type 0} (kind : Kind S C Q) (opening : S) (users : List User) (words : Words) (input o o' : List ℕ) (e e' : End) (h h' : List (Entry C))
    → FrontLaws → Alone kind opening users words input o e h → Alone kind opening users words input o' e' h' → (o ≡ o') × (e ≡ e') × (h ≡ h')
alone-one {C = C} kind opening users words input o o' e e' h h' law a b = (ends.0, ends.1, a.history ∙ (ap (λ rs. (run rs).journal) same ∙ sym b.history))
  where
    run : List Arrived → Progress C
    run = after_requests kind (alone_at opening users) words

    by_length : (length a.arrived ≤ length b.arrived) ⊎ (length b.arrived < length a.arrived) → a.arrived ≡ b.arrived
    by_length (inl le) = sym (same_requests kind.wire law input (run a.arrived).output o e a.arrived b.arrived a.are_requests b.are_requests a.ends le)
    by_length (inr lt) = same_requests kind.wire law input (run b.arrived).output o' e' b.arrived a.arrived b.are_requests a.are_requests b.ends (omega (arith, lt))

    same : a.arrived ≡ b.arrived
    same = by_length (le_or_gt (length a.arrived) (length b.arrived))

    ends : (o ≡ o') × (e ≡ e')
    ends = one_end kind.wire law b.arrived (rest_after input b.arrived) (run b.arrived).output o o' e e'
        (subst (λ rs. EndsAlone kind.wire rs (rest_after input rs) (run rs).output o e) same a.ends) b.ends
