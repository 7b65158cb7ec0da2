-- The turns that are made at a desk.
use Rattle.std.proofs.Common.{IfOk, IfErr, OnOk, inl, inr, pos, ◌≡◌, ℕ, ◌≤◌, ◌<◌, Bool, List, [], ◌∷◌, ◌++◌, Option, Some, None, Result, Ok, Err, IfSome, length, refl, ap, sym, ◌∙◌, arith, length-append, subst}
use Rattle.std.proofs.lemmas.List.{append-nil}
use Rattle.std.proofs.lemmas.Bool.{lt-ltb, le-ltb}
use mathlib.Core.List.{IsPrefix}
use Rattle.outside.specs.Clocks.{Words, first_word, rest_words}
use Rattle.cm_base.specs.declared.cause.Cause.{Cause}
use Rattle.cm_base.specs.declared.cause.Cause.TheVariants as causes
use Rattle.cm_base.specs.declared.number.Moment.{Moment}
use Rattle.cm_base.specs.declared.shown.Shown.{Shown}
use Rattle.cm_base.specs.declared.user.User.{User}
use Rattle.desk_model.specs.declared.entry.Entry.{Entry}
use Rattle.desk_model.specs.declared.machine.Stop.TheVariants as stops
use Rattle.desk_model.specs.Clocks.{moment_of}
use Rattle.desk_model.specs.Histories.{History, replay, shown_by, state_of}
use Rattle.desk_model.specs.Desks.{Known, entry_of, with_seen, Wrote, Looked}
use Rattle.desk_model.proofs.Replays.{replay-more}
use Rattle.http_grammar.specs.Request.{Head, Request}
use Rattle.cm_base.specs.declared.asked.Asked.TheVariants.{Write, Question}
use Rattle.talk.specs.Served.{Kind, Ask, faulty, writes, reads, ask_of}
use Rattle.talk.specs.Session.{plain_shown, number_at, ahead, refused, with_number, reading_text}
use Rattle.talk.specs.Settled.{IsWithin}
use Rattle.talk.specs.Told.{Told}
use Rattle.talk.specs.declared.turn.Verdict.{Verdict}
use Rattle.talk.specs.declared.turn.Verdict.TheVariants.{Shows, Refuses}
use Rattle.talk.specs.declared.turn.Unanswered.{Unanswered}
use Rattle.talk.specs.declared.turn.Unanswered.TheVariants as unanswered
use Rattle.talk.specs.Turned.{Turned, TurnUnkept, GoesOn, Stays, IsRefusal, IfRefuses, IfStarved, IfUnkept, setting}
use Rattle.talk.proofs.ListFacts.{prefix-le, prefix-more}

-- a reply that has its number
numbered : (a : Shown) (n : ℕ) → a.number ≡ Some n → a ≡ with_number n a
numbered a n e = λ i. record { status = a.status; kind = a.kind; body = a.body; number = e i }

shown-ok : {S A X : Type 0} (r : Result (S × A) X) (a : A) → shown_by r ≡ Ok a → (t : S) × (r ≡ Ok (t, a))
shown-ok (Ok p) a h = (let e : p.1 ≡ a = cc h in (p.0, λ i. Ok (p.0, e i)))
shown-ok (Err x) a h = absurd (cc h)

pub told-one : (v u w : Option Words) (x : Moment) → IfSome v (λ a. (x ≡ moment_of (first_word a)) × (u ≡ Some (rest_words a))) → w ≡ u → Told v (x ∷ []) w
told-one None u w x h e = tt
told-one (Some a) u w x h e = (h.0, e ∙ h.1)

same-none : (v w : Option Words) → w ≡ v → Told v [] w
same-none None w e = tt
same-none (Some a) w e = e

saw-on : {S C : Type 0} (k : Known S C) (g : List (Entry C)) → IsPrefix k.seen g → GoesOn k (with_seen k g) []
saw-on k g pre = record { opening = refl; base = refl; session = refl; seen = pre; own = sym (append-nil k.own) }

pub accepted-turn : {S C Q : Type 0} (kind : Kind S C Q) (users : List User) (head : Head) (last : Bool) (k l : Known S C) (least : ℕ) (user : List ℕ) (moment : Moment) (call : C) (a : Shown) (v w : Option Words)
    → ((s t : S) (e : Entry C) (a : Shown) → kind.next s e ≡ Ok (t, a) → a.number ≡ Some (kind.number t))
    → Wrote kind.next kind.number k least user moment call (Ok a) l → Told v (moment ∷ []) w
    → Turned kind users head last (writes user least call) k v (kind.wire.reply_text a last) l w
accepted-turn kind users head last k l least user moment call a v w law h told =
    let g = h.0 in
    let e : Entry _ = entry_of k user moment call in
    let step = shown-ok (kind.next (replay kind.next k.opening g) e) a h.4 in
    let after : step.0 ≡ replay kind.next k.opening (g ++ e ∷ []) = replay-more kind.next k.opening step.0 a g e step.1 in
    let number : a.number ≡ Some (kind.number (replay kind.next k.opening (g ++ e ∷ []))) = law _ _ _ _ step.1 ∙ ap (λ t. Some (kind.number t)) after in
    let longer : length k.seen < length (g ++ e ∷ []) = omega (arith, prefix-le k.seen g h.1, length-append g (e ∷ [])) in
    rw h.2 (record {
      wrote = Some e;
      moment = moment;
      does = (longer, record { earlier = g; prefix = refl; entry_is = refl; not_ahead = h.3; shown = a; accepted = h.4; text_is = ap (λ a. kind.wire.reply_text a last) (numbered a _ number) });
      on = record { opening = refl; base = refl; session = refl; seen = prefix-more k.seen g (e ∷ []) h.1; own = refl };
      told = told;
    })

pub refused-turn : {S C Q : Type 0} (kind : Kind S C Q) (users : List User) (head : Head) (last : Bool) (k l : Known S C) (least : ℕ) (user : List ℕ) (moment : Moment) (call : C) (cause : Cause) (n : ℕ) (v w : Option Words)
    → Wrote {A = Shown} kind.next kind.number k least user moment call (Err (stops.Refused cause n)) l → Told v (moment ∷ []) w
    → Turned kind users head last (writes user least call) k v (kind.wire.reply_text (kind.wire.cause_shown cause (Some n)) last) l w
refused-turn kind users head last k l least user moment call cause n v w h told =
    rw h.2 (record {
      wrote = None;
      moment = moment;
      does = (prefix-le k.seen h.0 h.1, refused cause h.3 h.4 (ap (λ n. kind.wire.reply_text (kind.wire.cause_shown cause (Some n)) last) h.5));
      on = saw-on k h.0 h.1;
      told = told;
    })

pub ahead-turn : {S C Q : Type 0} (kind : Kind S C Q) (users : List User) (head : Head) (last : Bool) (k l : Known S C) (least : ℕ) (user : List ℕ) (moment : Moment) (call : C) (n : ℕ) (v w : Option Words)
    → Wrote {A = Shown} {X = Cause} kind.next kind.number k least user moment call (Err (stops.Ahead n)) l → Told v (moment ∷ []) w
    → Turned kind users head last (writes user least call) k v (kind.wire.reply_text (kind.wire.cause_shown (causes.StepAhead least n) (Some n)) last) l w
ahead-turn kind users head last k l least user moment call n v w h told =
    rw h.2 (record {
      wrote = None;
      moment = moment;
      does = (prefix-le k.seen h.0 h.1, ahead h.3 (ap (λ n. kind.wire.reply_text (kind.wire.cause_shown (causes.StepAhead least n) (Some n)) last) h.4));
      on = saw-on k h.0 h.1;
      told = told;
    })

-- a question, by the text that is due at the version
pub looked-turn : {S C Q : Type 0} (kind : Kind S C Q) (users : List User) (head : Head) (last : Bool) (k l : Known S C) (least : ℕ) (user : List ℕ) (question : Q) (g : History S C) (text : List ℕ) (v w : Option Words)
    → Looked k g l → text ≡ reading_text kind (setting k users) g.journal last user least question → w ≡ v
    → Turned kind users head last (reads user least question) k v text l w
looked-turn kind users head last k l least user question g text v w h is words =
    rw h.2 (record {
      wrote = None;
      moment = record { 0 = pos 0 };
      does = (prefix-le k.seen g.journal h.0, is);
      on = saw-on k g.journal h.0;
      told = same-none v w words;
    })

pub late-text : {S C Q : Type 0} (kind : Kind S C Q) (users : List User) (last : Bool) (k : Known S C) (least : ℕ) (user : List ℕ) (question : Q) (g : History S C) (n : ℕ)
    → g.opening ≡ k.opening → n ≡ kind.number (state_of kind.next g) → n < least
    → kind.wire.reply_text (kind.wire.cause_shown (causes.StepAhead least n) (Some n)) last ≡ reading_text kind (setting k users) g.journal last user least question
late-text kind users last k least user question g n o num lt =
    let here : n ≡ number_at kind (setting k users) g.journal = num ∙ ap (λ o. kind.number (replay kind.next o g.journal)) o in
    let below = rw here at lt in
    rw (lt-ltb (number_at kind (setting k users) g.journal) least below) (ap (λ n. kind.wire.reply_text (kind.wire.cause_shown (causes.StepAhead least n) (Some n)) last) here)

pub said-text : {S C Q : Type 0} (kind : Kind S C Q) (users : List User) (last : Bool) (k : Known S C) (least : ℕ) (user : List ℕ) (question : Q) (g : History S C) (n : ℕ) (a : Shown)
    → ((s : S) (u : List ℕ) (q : Q) (a : Shown) → kind.answer s u q ≡ Ok a → a.number ≡ Some (kind.number s))
    → g.opening ≡ k.opening → n ≡ kind.number (state_of kind.next g) → least ≤ n → kind.answer (state_of kind.next g) user question ≡ Ok a
    → kind.wire.reply_text a last ≡ reading_text kind (setting k users) g.journal last user least question
said-text kind users last k least user question g n a law o num le is =
    let here : n ≡ number_at kind (setting k users) g.journal = num ∙ ap (λ o. kind.number (replay kind.next o g.journal)) o in
    let above = rw here at le in
    let there : kind.answer (replay kind.next k.opening g.journal) user question ≡ Ok a = ap (λ o. kind.answer (replay kind.next o g.journal) user question) (sym o) ∙ is in
    rw (le-ltb (number_at kind (setting k users) g.journal) least above, there) (ap (λ a. kind.wire.reply_text a last) (numbered a _ (law _ _ _ _ there)))

pub refused-text : {S C Q : Type 0} (kind : Kind S C Q) (users : List User) (last : Bool) (k : Known S C) (least : ℕ) (user : List ℕ) (question : Q) (g : History S C) (n : ℕ) (cause : Cause)
    → g.opening ≡ k.opening → n ≡ kind.number (state_of kind.next g) → least ≤ n → kind.answer (state_of kind.next g) user question ≡ Err cause
    → kind.wire.reply_text (kind.wire.cause_shown cause (Some n)) last ≡ reading_text kind (setting k users) g.journal last user least question
refused-text kind users last k least user question g n cause o num le is =
    let here : n ≡ number_at kind (setting k users) g.journal = num ∙ ap (λ o. kind.number (replay kind.next o g.journal)) o in
    let above = rw here at le in
    let there : kind.answer (replay kind.next k.opening g.journal) user question ≡ Err cause = ap (λ o. kind.answer (replay kind.next o g.journal) user question) (sym o) ∙ is in
    rw (le-ltb (number_at kind (setting k users) g.journal) least above, there) (ap (λ n. kind.wire.reply_text (kind.wire.cause_shown cause (Some n)) last) here)

-- a refusal leaves the pass without a new entry
pub refused-on : {S C Q : Type 0} (kind : Kind S C Q) (k l : Known S C) (least : ℕ) (user : List ℕ) (moment : Moment) (call : C) (cause : Cause) (n : ℕ)
    → Wrote {A = Shown} kind.next kind.number k least user moment call (Err (stops.Refused cause n)) l → GoesOn k l []
refused-on kind k l least user moment call cause n h = rw h.2 (saw-on k h.0 h.1)

pub ahead-on : {S C Q : Type 0} (kind : Kind S C Q) (k l : Known S C) (least : ℕ) (user : List ℕ) (moment : Moment) (call : C) (n : ℕ)
    → Wrote {A = Shown} {X = Cause} kind.next kind.number k least user moment call (Err (stops.Ahead n)) l → GoesOn k l []
ahead-on kind k l least user moment call n h = rw h.2 (saw-on k h.0 h.1)

-- a question whose step is ahead, one that is answered, and one that is refused
pub late-turn : {S C Q : Type 0} (kind : Kind S C Q) (users : List User) (head : Head) (last : Bool) (k l : Known S C) (least : ℕ) (user : List ℕ) (question : Q) (g : History S C) (n : ℕ) (v w : Option Words)
    → Looked k g l → n ≡ kind.number (state_of kind.next g) → n < least → w ≡ v
    → Turned kind users head last (reads user least question) k v (kind.wire.reply_text (kind.wire.cause_shown (causes.StepAhead least n) (Some n)) last) l w
late-turn kind users head last k l least user question g n v w h num lt words =
    looked-turn kind users head last k l least user question g _ v w h (late-text kind users last k least user question g n h.1 num lt) words

pub said-turn : {S C Q : Type 0} (kind : Kind S C Q) (users : List User) (head : Head) (last : Bool) (k l : Known S C) (least : ℕ) (user : List ℕ) (question : Q) (g : History S C) (n : ℕ) (a : Shown) (v w : Option Words)
    → ((s : S) (u : List ℕ) (q : Q) (a : Shown) → kind.answer s u q ≡ Ok a → a.number ≡ Some (kind.number s))
    → Looked k g l → n ≡ kind.number (state_of kind.next g) → least ≤ n → kind.answer (state_of kind.next g) user question ≡ Ok a → w ≡ v
    → Turned kind users head last (reads user least question) k v (kind.wire.reply_text a last) l w
said-turn kind users head last k l least user question g n a v w law h num le is words =
    looked-turn kind users head last k l least user question g _ v w h (said-text kind users last k least user question g n a law h.1 num le is) words

pub denied-turn : {S C Q : Type 0} (kind : Kind S C Q) (users : List User) (head : Head) (last : Bool) (k l : Known S C) (least : ℕ) (user : List ℕ) (question : Q) (g : History S C) (n : ℕ) (cause : Cause) (v w : Option Words)
    → Looked k g l → n ≡ kind.number (state_of kind.next g) → least ≤ n → kind.answer (state_of kind.next g) user question ≡ Err cause → w ≡ v
    → Turned kind users head last (reads user least question) k v (kind.wire.reply_text (kind.wire.cause_shown cause (Some n)) last) l w
denied-turn kind users head last k l least user question g n cause v w h num le is words =
    looked-turn kind users head last k l least user question g _ v w h (refused-text kind users last k least user question g n cause h.1 num le is) words

-- one word more is gone
pub stays-late : {S C : Type 0} (k l : Known S C) (u v w : Option Words) (moment : Moment) → GoesOn k l [] → IfSome u (λ a. (moment ≡ moment_of (first_word a)) × (v ≡ Some (rest_words a))) → w ≡ v → Stays k l u w
stays-late k l u v w moment on h e = record { on = on; told = inr (moment, told-one u v w moment h e) }

-- the pass is as it was, after a word of the clock
pub same-on : {S C : Type 0} (k l : Known S C) → l ≡ k → GoesOn k l []
same-on k l e = rw e (record { opening = refl; base = refl; session = refl; seen = ([], append-nil k.seen); own = sym (append-nil k.own) })

-- a write that could not be kept
pub unkept-turn : {S C Q : Type 0} (kind : Kind S C Q) (users : List User) (head : Head) (last : Bool) (k l : Known S C) (least : ℕ) (user : List ℕ) (moment : Moment) (call : C) (v u w : Option Words)
    → ((s t : S) (e : Entry C) (a : Shown) → kind.next s e ≡ Ok (t, a) → a.number ≡ Some (kind.number t))
    → Wrote {A = Shown} {X = Cause} kind.next kind.number k least user moment call (Err stops.Fault) l
    → IfSome v (λ a. (moment ≡ moment_of (first_word a)) × (u ≡ Some (rest_words a))) → w ≡ u
    → TurnUnkept kind users head last (writes user least call) k v l w
unkept-turn kind users head last k l least user moment call v u w law (inl same) took is = inl (stays-late k l v u w moment (same-on k l same) took is)
unkept-turn kind users head last k l least user moment call v u w law (inr (Ok a, judged)) took is =
    inr (_, accepted-turn kind users head last k l least user moment call a v w law judged (told-one v u w moment took is))
unkept-turn kind users head last k l least user moment call v u w law (inr (Err (stops.Refused cause n), judged)) took is =
    inr (_, refused-turn kind users head last k l least user moment call cause n v w judged (told-one v u w moment took is))
unkept-turn kind users head last k l least user moment call v u w law (inr (Err (stops.Ahead n), judged)) took is =
    inr (_, ahead-turn kind users head last k l least user moment call n v w judged (told-one v u w moment took is))
unkept-turn kind users head last k l least user moment call v u w law (inr (Err stops.Memory, judged)) took is = absurd judged
unkept-turn kind users head last k l least user moment call v u w law (inr (Err stops.Fault, judged)) took is = absurd judged

-- no word is gone
pub stays-same : {S C : Type 0} (k l : Known S C) (u w : Option Words) → GoesOn k l [] → w ≡ u → Stays k l u w
stays-same k l u w on e = record { on = on; told = inl (same-none u w e) }

pub looked-stays : {S C : Type 0} (k l : Known S C) (g : History S C) (u w : Option Words) → Looked k g l → w ≡ u → Stays k l u w
looked-stays k l g u w h e = stays-same k l u w (rw h.2 (saw-on k g.journal h.0)) e

-- what a refusal says
pub of-refusal : (verdict : Verdict) (fact : Type 0) → IsRefusal verdict → IfRefuses verdict fact → fact
of-refusal (Shows shown) fact is holds = absurd is
of-refusal (Refuses cause n) fact is holds = holds

-- a fact of what came, from another
pub if-ok-map : {T E : Type 0} (P Q : T → Type 0) (r : Result T E) → ((x : T) → P x → Q x) → IfOk r P → IfOk r Q
if-ok-map P Q (Ok x) f p = f x p
if-ok-map P Q (Err e) f p = tt

-- a reply for which memory was wanted is not one that could not be kept
pub not-unkept : {A : Type 0} (r : Result A Unanswered) (fact : Type 0) → IfErr r (λ e. e ≡ unanswered.Memory) → IfUnkept r fact
not-unkept (Ok a) fact h = tt
not-unkept (Err unanswered.Memory) fact h = tt
not-unkept (Err unanswered.Unkept) fact h = absurd (cc h)

-- a fact that holds holds of what came
pub ok-so : {A E : Type 0} (r : Result A E) (fact : Type 0) → fact → OnOk r fact
ok-so (Ok a) fact h = h
ok-so (Err e) fact h = tt

-- a fact that holds holds where memory was wanted
pub starved-so : {A : Type 0} (r : Result A Unanswered) (fact : Type 0) → fact → IfStarved r fact
starved-so (Ok a) fact h = tt
starved-so (Err unanswered.Memory) fact h = h
starved-so (Err unanswered.Unkept) fact h = tt

-- what a request asks, by its parts
pub asks-write : {S C Q : Type 0} (kind : Kind S C Q) (users : List User) (r : Request) (user : List ℕ) (least : ℕ) (call : C)
    → kind.wire.caller_of r.head users ≡ Ok user → kind.call r ≡ Ok (Write call) → least ≡ kind.wire.least_of r.head → ask_of kind users r ≡ writes user least call
asks-write kind users r user least call a b c = rw (a, b, c) refl

pub asks-question : {S C Q : Type 0} (kind : Kind S C Q) (users : List User) (r : Request) (user : List ℕ) (least : ℕ) (question : Q)
    → kind.wire.caller_of r.head users ≡ Ok user → kind.call r ≡ Ok (Question question) → least ≡ kind.wire.least_of r.head → ask_of kind users r ≡ reads user least question
asks-question kind users r user least question a b c = rw (a, b, c) refl

pub asks-badly : {S C Q : Type 0} (kind : Kind S C Q) (users : List User) (r : Request) (user : List ℕ) (cause : Cause)
    → kind.wire.caller_of r.head users ≡ Ok user → kind.call r ≡ Err cause → ask_of kind users r ≡ faulty cause
asks-badly kind users r user cause a b = rw (a, b) refl

pub asks-wrongly : {S C Q : Type 0} (kind : Kind S C Q) (users : List User) (r : Request) (cause : Cause)
    → kind.wire.caller_of r.head users ≡ Err cause → ask_of kind users r ≡ faulty cause
asks-wrongly kind users r cause a = rw a refl

-- a write that could not be kept is what the request asks
pub unkept-asking : {S C Q A : Type 0} (kind : Kind S C Q) (users : List User) (r : Request) (head : Head) (user : List ℕ) (least : ℕ) (call : C) (k l : Known S C) (u v : Option Words) (result : Result A Unanswered)
    → head ≡ r.head → kind.wire.caller_of head users ≡ Ok user → kind.call r ≡ Ok (Write call) → least ≡ kind.wire.least_of head
    → IfUnkept result ((us : List User) (h : Head) (last : Bool) → TurnUnkept kind us h last (writes user least call) k u l v)
    → IfUnkept result ((last : Bool) → TurnUnkept kind users r.head last (ask_of kind users r) k u l v)
unkept-asking kind users r head user least call k l u v (Ok a) e caller called is h = tt
unkept-asking kind users r head user least call k l u v (Err unanswered.Memory) e caller called is h = tt
unkept-asking kind users r head user least call k l u v (Err unanswered.Unkept) e caller called is h =
    let ask : ask_of kind users r ≡ writes user least call = asks-write kind users r user least call (ap (λ x. kind.wire.caller_of x users) (sym e) ∙ caller) called (is ∙ ap (λ x. kind.wire.least_of x) e) in
    λ last. subst (λ a. TurnUnkept kind users r.head last a k u l v) (sym ask) (h users r.head last)

-- the turn of a request that asks so
pub turned-asking : {S C Q : Type 0} (kind : Kind S C Q) (users : List User) (head : Head) (last : Bool) (a b : Ask C Q) (k : Known S C) (u : Option Words) (text : List ℕ) (l : Known S C) (v : Option Words)
    → b ≡ a → Turned kind users head last a k u text l v → Turned kind users head last b k u text l v
turned-asking kind users head last a b k u text l v e t = subst (λ ask. Turned kind users head last ask k u text l v) (sym e) t

-- a cause of credentials or of arguments
pub faulty-turn : {S C Q : Type 0} (kind : Kind S C Q) (users : List User) (head : Head) (last : Bool) (cause : Cause) (k : Known S C) (u : Option Words)
    → Turned kind users head last (faulty cause) k u (kind.wire.reply_text (plain_shown kind.wire head cause) last) k u
faulty-turn kind users head last cause k u = record {
  wrote = None;
  moment = record { 0 = pos 0 };
  does = (refl, refl);
  on = same-on k k refl;
  told = same-none u u refl;
}

pub stays-put : {S C : Type 0} (k : Known S C) (u : Option Words) → Stays k k u u
stays-put k u = stays-same k k u u (same-on k k refl) refl

-- a request whose arguments have a cause, and one whose credentials have
pub badly-turn : {S C Q : Type 0} (kind : Kind S C Q) (users : List User) (r : Request) (head : Head) (shown : Shown) (last : Bool) (user : List ℕ) (cause : Cause) (k : Known S C) (u : Option Words)
    → head ≡ r.head → kind.wire.caller_of head users ≡ Ok user → kind.call r ≡ Err cause → shown ≡ plain_shown kind.wire head cause
    → Turned kind users r.head last (ask_of kind users r) k u (kind.wire.reply_text shown last) k u
badly-turn kind users r head shown last user cause k u e caller call is =
    let text : kind.wire.reply_text (plain_shown kind.wire r.head cause) last ≡ kind.wire.reply_text shown last = ap (λ a. kind.wire.reply_text a last) (sym (is ∙ ap (λ h. plain_shown kind.wire h cause) e)) in
    turned-asking kind users r.head last (faulty cause) (ask_of kind users r) k u (kind.wire.reply_text shown last) k u (asks-badly kind users r user cause (ap (λ h. kind.wire.caller_of h users) (sym e) ∙ caller) call)
    (subst (λ text. Turned kind users r.head last (faulty cause) k u text k u) text (faulty-turn kind users r.head last cause k u))

pub wrongly-turn : {S C Q : Type 0} (kind : Kind S C Q) (users : List User) (r : Request) (head : Head) (shown : Shown) (last : Bool) (cause : Cause) (k : Known S C) (u : Option Words)
    → head ≡ r.head → kind.wire.caller_of head users ≡ Err cause → shown ≡ plain_shown kind.wire head cause
    → Turned kind users r.head last (ask_of kind users r) k u (kind.wire.reply_text shown last) k u
wrongly-turn kind users r head shown last cause k u e caller is =
    let text : kind.wire.reply_text (plain_shown kind.wire r.head cause) last ≡ kind.wire.reply_text shown last = ap (λ a. kind.wire.reply_text a last) (sym (is ∙ ap (λ h. plain_shown kind.wire h cause) e)) in
    turned-asking kind users r.head last (faulty cause) (ask_of kind users r) k u (kind.wire.reply_text shown last) k u (asks-wrongly kind users r cause (ap (λ h. kind.wire.caller_of h users) (sym e) ∙ caller))
    (subst (λ text. Turned kind users r.head last (faulty cause) k u text k u) text (faulty-turn kind users r.head last cause k u))

-- they show nothing of the repository
pub badly-within : {S C Q : Type 0} (kind : Kind S C Q) (users : List User) (r : Request) (head : Head) (user : List ℕ) (cause : Cause) (n place : ℕ)
    → head ≡ r.head → kind.wire.caller_of head users ≡ Ok user → kind.call r ≡ Err cause → IsWithin n (ask_of kind users r) place
badly-within kind users r head user cause n place e caller call =
    let ask : ask_of kind users r ≡ faulty cause = asks-badly kind users r user cause (ap (λ h. kind.wire.caller_of h users) (sym e) ∙ caller) call in
    subst (λ a. IsWithin n a place) (sym ask) tt

pub wrongly-within : {S C Q : Type 0} (kind : Kind S C Q) (users : List User) (r : Request) (head : Head) (cause : Cause) (n place : ℕ)
    → head ≡ r.head → kind.wire.caller_of head users ≡ Err cause → IsWithin n (ask_of kind users r) place
wrongly-within kind users r head cause n place e caller =
    let ask : ask_of kind users r ≡ faulty cause = asks-wrongly kind users r cause (ap (λ h. kind.wire.caller_of h users) (sym e) ∙ caller) in
    subst (λ a. IsWithin n a place) (sym ask) tt
