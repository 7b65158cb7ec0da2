-- Each run keeps a world lawful, and puts each accepted write into the history once.
use Rattle.std.proofs.Common.{OnErr, ◌≡◌, ◌≢◌, ℕ, ◌≤◌, ◌==◌, List, [], ◌∷◌, ◌++◌, Option, Some, None, Result, Ok, Err, IsOk, length, map, refl, ap, sym, ◌∙◌, arith, length-append, append_assoc, subst, inl, inr, eq-eqb, if◌then◌else◌}
use Rattle.std.proofs.lemmas.List.{append-nil, map-append}
use Rattle.std.proofs.lemmas.Bool.{ne_eqb}
use Rattle.std.proofs.lemmas.Bool.Decides.{eqb_tells}
use Rattle.cm_base.specs.declared.number.Moment.{Moment}
use Rattle.desk_model.specs.declared.entry.Entry.{Entry}
use Rattle.desk_model.specs.Histories.{replay, own, shown_by}
use Rattle.desk_model.proofs.Replays.{legal-append}
use Rattle.desk_model.proofs.OwnEntries.{own-mine, own-other}
use Rattle.desk_core.proofs.Holdings.{numbered-more}
use Rattle.desk_core.specs.declared.event.Event.{Event}
use Rattle.desk_core.specs.declared.event.Event.TheVariants.{Enter, Write, Look, Ask}
use Rattle.desk_core.specs.declared.event.Done.{Done}
use Rattle.desk_core.specs.declared.event.CoreStop.{CoreStop}
use Rattle.desk_core.specs.declared.event.CoreStop.TheVariants.{Unknown}
use Rattle.desk_core.specs.Interleaving.{Rules, World, IsLawful, Request, holds, entry_by, verdict, judged, if_entered, happens, told, wrote, run, answers, accepted, accepted_by, request_of, state_now, holding}

ok-shown : {S A X : Type 0} (r : Result (S × A) X) (a : A) → shown_by r ≡ Ok a → IsOk r
ok-shown (Ok p) a h = refl
ok-shown (Err x) a h = absurd (cc h)

judged-lawful : {S C Q A X : Type 0} (m : Rules S C Q A X) (w : World S C) (s : ℕ) (user : List ℕ) (moment : Moment) (call : C) (r : Result A X)
    → verdict m w (entry_by w s user moment call) ≡ r → IsLawful m.next w → IsLawful m.next (judged w s (entry_by w s user moment call) r)
judged-lawful m w s user moment call (Ok a) is l =
    let e = entry_by w s user moment call in record {
      legal = legal-append m.next w.opening w.journal (e ∷ []) l.legal (ok-shown (m.next (state_now m w) e) a is, tt);
      begun = omega (arith, l.begun, length-append w.journal (e ∷ []));
      numbered = numbered-more w.base s w.journal e l.begun refl refl l.numbered;
    }
judged-lawful m w s user moment call (Err x) is l = record { legal = l.legal; begun = l.begun; numbered = l.numbered }

entered-lawful : {S C A X : Type 0} (next : S → Entry C → Result (S × A) X) (n : Option ℕ) (v : World S C) (f : ℕ → World S C) → IsLawful next v → ((k : ℕ) → IsLawful next (f k)) → IsLawful next (if_entered n v f)
entered-lawful next None v f l k = l
entered-lawful next (Some n) v f l k = k n

pub happens-lawful : {S C Q A X : Type 0} (m : Rules S C Q A X) (w : World S C) (e : Event C Q) → IsLawful m.next w → IsLawful m.next (happens m w e)
happens-lawful m w (Enter s) l = entered-lawful m.next (holds w s) _ _ (record { legal = l.legal; begun = l.begun; numbered = l.numbered }) (λ n. l)
happens-lawful m w (Write s user moment call) l = entered-lawful m.next (holds w s) _ _ l (λ n. judged-lawful m w s user moment call (verdict m w (entry_by w s user moment call)) refl l)
happens-lawful m w (Look s) l = entered-lawful m.next (holds w s) _ _ l (λ n. record { legal = l.legal; begun = l.begun; numbered = l.numbered })
happens-lawful m w (Ask s user question) l = l

pub run-lawful : {S C Q A X : Type 0} (m : Rules S C Q A X) (w : World S C) (es : List (Event C Q)) → IsLawful m.next w → IsLawful m.next (run m w es)
run-lawful m w [] l = l
run-lawful m w (e ∷ es) l = run-lawful m (happens m w e) es (happens-lawful m w e l)

base_if : {S C : Type 0} (n : Option ℕ) (v w : World S C) (f : ℕ → World S C) → v.base ≡ w.base → ((k : ℕ) → (f k).base ≡ w.base) → (if_entered n v f).base ≡ w.base
base_if None v w f a b = a
base_if (Some n) v w f a b = b n

base_judged : {S C A X : Type 0} (w : World S C) (s : ℕ) (e : Entry C) (r : Result A X) → (judged w s e r).base ≡ w.base
base_judged w s e (Ok a) = refl
base_judged w s e (Err x) = refl

pub happens-base : {S C Q A X : Type 0} (m : Rules S C Q A X) (w : World S C) (e : Event C Q) → (happens m w e).base ≡ w.base
happens-base m w (Enter s) = base_if (holds w s) (holding w w.journal s w.base) w (λ n. w) refl (λ n. refl)
happens-base m w (Write s user moment call) =
    let e = entry_by w s user moment call in
    base_if (holds w s) w w (λ n. judged w s e (verdict m w e)) refl (λ n. base_judged w s e (verdict m w e))
happens-base m w (Look s) = base_if (holds w s) w w (λ n. holding w w.journal s (length w.journal)) refl (λ n. refl)
happens-base m w (Ask s user question) = refl

-- one event adds the accepted write of its session, and nothing else
abbrev Adds : {C : Type 0} → ℕ → ℕ → List (Entry C) → List (Entry C) → List (Request C) → Type 0
Adds b s old new more = map request_of (own b s new) ≡ map request_of (own b s old) ++ more

adds_none : {C : Type 0} (b s : ℕ) (h : List (Entry C)) → Adds b s h h []
adds_none b s h = sym (append-nil (map request_of (own b s h)))

adds_write : {C : Type 0} (b s t : ℕ) (h : List (Entry C)) (e : Entry C) → b ≤ length h → e.session ≡ t → Adds b s h (h ++ e ∷ []) (if t == s then request_of e ∷ [] else [])
adds_write b s t h e le is = elim (eqb_tells t s) [
  | inl p ↦ (let mine : e.session ≡ s = is ∙ p.1 in rw (eq-eqb t s p.1) (ap (map request_of) (own-mine b s h e le mine) ∙ map-append request_of (own b s h) (e ∷ [])))
  | inr p ↦ (let other : e.session ≢ s = λ q. p.1 (sym is ∙ q) in rw (ne_eqb t s p.1) (ap (map request_of) (own-other b s h e le other) ∙ adds_none b s h))
]

adds_if : {S C : Type 0} (s : ℕ) (w v : World S C) (n : Option ℕ) (f : ℕ → World S C) → v.journal ≡ w.journal → ((k : ℕ) → (f k).journal ≡ w.journal) → Adds w.base s w.journal (if_entered n v f).journal []
adds_if s w v None f a b = ap (λ h. map request_of (own w.base s h)) a ∙ adds_none w.base s w.journal
adds_if s w v (Some n) f a b = ap (λ h. map request_of (own w.base s h)) (b n) ∙ adds_none w.base s w.journal

adds_judged : {S C A X : Type 0} (Q : Type 0) (s : ℕ) (w : World S C) (t : ℕ) (user : List ℕ) (moment : Moment) (call : C) (n : Option ℕ) (r : Result A X) (before after : ℕ) → w.base ≤ length w.journal
    → Adds w.base s w.journal (if_entered n w (λ n. judged w t (entry_by w t user moment call) r)).journal (accepted_by {Q = Q} s (Write t user moment call) (if_entered n (Err Unknown) (λ n. wrote before after r)))
adds_judged Q s w t user moment call None r before after le = adds_none w.base s w.journal
adds_judged Q s w t user moment call (Some n) (Ok a) before after le = adds_write w.base s t w.journal (entry_by w t user moment call) le refl
adds_judged Q s w t user moment call (Some n) (Err x) before after le = adds_none w.base s w.journal

event-adds : {S C Q A X : Type 0} (m : Rules S C Q A X) (w : World S C) (s : ℕ) (e : Event C Q) → IsLawful m.next w → Adds w.base s w.journal (happens m w e).journal (accepted_by s e (told m w e))
event-adds m w s (Enter t) l = adds_if s w (holding w w.journal t w.base) (holds w t) (λ n. w) refl (λ n. refl)
event-adds m w s (Look t) l = adds_if s w w (holds w t) (λ n. holding w w.journal t (length w.journal)) refl (λ n. refl)
event-adds m w s (Ask t user question) l = adds_none w.base s w.journal
event-adds {Q = Q} m w s (Write t user moment call) l =
    let e = entry_by w t user moment call in
    adds_judged Q s w t user moment call (holds w t) (verdict m w e) (m.number (state_now m w)) (m.number (replay m.next w.opening (w.journal ++ e ∷ []))) l.begun

pub run-adds : {S C Q A X : Type 0} (m : Rules S C Q A X) (w : World S C) (s : ℕ) (es : List (Event C Q)) → IsLawful m.next w → Adds w.base s w.journal (run m w es).journal (accepted s es (answers m w es))
run-adds m w s [] l = adds_none w.base s w.journal
run-adds m w s (e ∷ es) l =
    let one = event-adds m w s e l in
    let base = happens-base m w e in
    let rest = subst (λ b. Adds b s (happens m w e).journal (run m (happens m w e) es).journal (accepted s es (answers m (happens m w e) es))) base (run-adds m (happens m w e) s es (happens-lawful m w e l)) in
    rest ∙ (ap (λ xs. xs ++ accepted s es (answers m (happens m w e) es)) one ∙ append_assoc (map request_of (own w.base s w.journal)) (accepted_by s e (told m w e)) (accepted s es (answers m (happens m w e) es)))

-- one event more at the end of a run
pub run-more : {S C Q A X : Type 0} (m : Rules S C Q A X) (w : World S C) (es : List (Event C Q)) (e : Event C Q) → run m w (es ++ e ∷ []) ≡ happens m (run m w es) e
run-more m w [] e = refl
run-more m w (x ∷ es) e = run-more m (happens m w x) es e

pub answers-more : {S C Q A X : Type 0} (m : Rules S C Q A X) (w : World S C) (es : List (Event C Q)) (e : Event C Q) → answers m w (es ++ e ∷ []) ≡ answers m w es ++ told m (run m w es) e ∷ []
answers-more m w [] e = refl
answers-more m w (x ∷ es) e = ap (λ ds. told m w x ∷ ds) (answers-more m (happens m w x) es e)

-- the answers and the world after one event more
pub both-more : {S C Q A X : Type 0} (m : Rules S C Q A X) (w v u : World S C) (ds all : List (Result (Done A) (CoreStop X))) (es : List (Event C Q)) (e : Event C Q) (d : Result (Done A) (CoreStop X))
    → ds ≡ answers m w es → v ≡ run m w es → d ≡ told m v e → u ≡ happens m v e → all ≡ ds ++ d ∷ [] → (all ≡ answers m w (es ++ e ∷ [])) × (u ≡ run m w (es ++ e ∷ []))
both-more m w v u ds all es e d answered at is goes more = (
  more ∙ (ap (λ xs. xs ++ d ∷ []) answered ∙ (ap (λ x. answers m w es ++ x ∷ []) (is ∙ ap (λ v. told m v e) at) ∙ sym (answers-more m w es e))),
  goes ∙ (ap (λ v. happens m v e) at ∙ sym (run-more m w es e)),
)

-- one event moves from those to come to those that were made
pub one-moves : {E : Type 0} (made rest later all : List E) (e : E) → made ++ rest ≡ all → rest ≡ e ∷ later → (made ++ e ∷ []) ++ later ≡ all
one-moves made rest later all e is next = append_assoc made (e ∷ []) later ∙ (ap (λ r. made ++ r) (sym next) ∙ is)

pub on_err : {T E : Type 0} (r : Result T E) (P : Type 0) → P → OnErr r P
on_err (Ok x) P p = tt
on_err (Err e) P p = p
