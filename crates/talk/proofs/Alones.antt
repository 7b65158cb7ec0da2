-- Where all entries of a history are a session's own, nothing in its turns is left open.
use Rattle.std.proofs.Common.{◌≡◌, ℕ, ◌≤◌, Bool, List, [], ◌∷◌, ◌++◌, Option, Some, None, Ok, length, take, refl, ap, sym, ◌∙◌, arith, length-append, subst}
use Rattle.std.proofs.lemmas.List.{append-nil}
use Rattle.std.proofs.lemmas.Bool.{lt-ltb, le-ltb}
use mathlib.Core.List.{IsPrefix}
use Rattle.outside.specs.Clocks.{Words, first_word, rest_words}
use Rattle.cm_base.specs.declared.number.Moment.{Moment}
use Rattle.desk_model.specs.declared.entry.Entry.{Entry}
use Rattle.desk_model.specs.Clocks.{moment_of}
use Rattle.desk_model.specs.Histories.{replay, shown_by}
use Rattle.http_grammar.specs.Request.{Head}
use Rattle.talk.specs.Served.{Kind, Ask, faulty, writes, reads, ask_of}
use Rattle.talk.specs.Requests.{is_last, interim_of}
use Rattle.talk.specs.Session.{Setting, Turn, Does, Accepted, Refused, ahead, refused, AreTurns, number_at, listed, entries, last_place, requests, sent, timed, moments}
use Rattle.talk.specs.Told.{Gives}
use Rattle.talk.specs.Alone.{Progress, after_ask, after_requests, next_entry}
use Rattle.talk.proofs.ListFacts.{prefix-trans, prefix-append, take-front, snoc-inj, length_map}

-- a turn leads from the number of the session's entries to a prefix with at least as many
pub does-up : {S C Q : Type 0} (kind : Kind S C Q) (at : Setting S) (k p q : ℕ) (g : List (Entry C)) (head : Head) (last : Bool) (ask : Ask C Q) (w : Option (Entry C)) (moment : Moment) (text : List ℕ) (es : List (Entry C))
    → length es ≤ p → Does kind at k p q g head last ask w moment text → length (es ++ listed w) ≤ q
does-up kind at k p q g head last (faulty cause) None moment text es le d = omega (arith, ap length (append-nil es), le, d.0)
does-up kind at k p q g head last (faulty cause) (Some e) moment text es le d = absurd d
does-up kind at k p q g head last (writes user least call) None moment text es le d = omega (arith, ap length (append-nil es), le, d.0)
does-up kind at k p q g head last (writes user least call) (Some e) moment text es le d = omega (arith, length-append es (e ∷ []), le, d.0)
does-up kind at k p q g head last (reads user least question) None moment text es le d = omega (arith, ap length (append-nil es), le, d.0)
does-up kind at k p q g head last (reads user least question) (Some e) moment text es le d = absurd d

-- and from one with no more back to one with no more
pub does-down : {S C Q : Type 0} (kind : Kind S C Q) (at : Setting S) (k p q : ℕ) (g : List (Entry C)) (head : Head) (last : Bool) (ask : Ask C Q) (w : Option (Entry C)) (moment : Moment) (text : List ℕ) (es : List (Entry C))
    → q ≤ length (es ++ listed w) → Does kind at k p q g head last ask w moment text → p ≤ length es
does-down kind at k p q g head last (faulty cause) None moment text es le d = omega (arith, ap length (append-nil es), le, d.0)
does-down kind at k p q g head last (faulty cause) (Some e) moment text es le d = absurd d
does-down kind at k p q g head last (writes user least call) None moment text es le d = omega (arith, ap length (append-nil es), le, d.0)
does-down kind at k p q g head last (writes user least call) (Some e) moment text es le d = omega (arith, length-append es (e ∷ []), le, d.0)
does-down kind at k p q g head last (reads user least question) None moment text es le d = omega (arith, ap length (append-nil es), le, d.0)
does-down kind at k p q g head last (reads user least question) (Some e) moment text es le d = absurd d

-- the prefix of the last turn holds all entries of the turns
pub places-up : {S C Q : Type 0} (kind : Kind S C Q) (at : Setting S) (after : ℕ) (h : List (Entry C)) (ts : List (Turn C)) → at.before ≡ 0 → AreTurns kind at after h ts → length (entries ts) ≤ last_place at.before ts
places-up kind at after h [] zero_so q = omega arith
places-up kind at after h (t ∷ ts) zero_so q =
    let head = t.arrived.request.head in
    does-up kind at (length (entries ts)) (last_place at.before ts) t.place (take t.place h) head (is_last kind.wire (length ts) head) (ask_of kind at.users t.arrived.request) t.wrote t.moment t.text (entries ts) (places-up kind at after h ts zero_so q.0) q.1.does

pub gives-split : (u : Words) (xs ys : List Moment) (w : Option Words) → Gives u (xs ++ ys) w → (v : Words) × Gives u xs (Some v) × Gives v ys w
gives-split u [] ys w h = (u, refl, h)
gives-split u (x ∷ xs) ys w h = (let r = gives-split (rest_words u) xs ys w h.1 in (r.0, (h.0, r.1), r.2))

some_words : (u v : Words) → Some u ≡ Some v → u ≡ v
some_words u v h = cc h

abbrev pub progress : {C : Type 0} → List (Entry C) → List ℕ → Words → Progress C
progress es out w = record { journal = es; output = out; words = w }

refused-alone : {S C Q : Type 0} (kind : Kind S C Q) (at : Setting S) (head : Head) (last : Bool) (user : List ℕ) (least : ℕ) (call : C) (es : List (Entry C)) (out : List ℕ) (u v : Words) (moment : Moment) (text : List ℕ)
    → Refused kind at (length es) es last user least call moment text → moment ≡ moment_of (first_word u) → v ≡ rest_words u
    → after_ask kind at (progress es out u) head last (writes user least call) ≡ progress es (out ++ (interim_of kind.wire head ++ text)) v
refused-alone kind at head last user least call es out u v moment text (ahead lt is) now later =
    rw (is, later, lt-ltb (number_at kind at es) least lt) refl
refused-alone kind at head last user least call es out u v moment text (refused cause le judged is) now later =
    let here = rw now at judged in
    rw (is, later, le-ltb (number_at kind at es) least le, here) refl

accepted-alone : {S C Q : Type 0} (kind : Kind S C Q) (at : Setting S) (head : Head) (last : Bool) (user : List ℕ) (least : ℕ) (call : C) (es : List (Entry C)) (e : Entry C) (out : List ℕ) (u v : Words) (moment : Moment) (text : List ℕ)
    → Accepted kind at (length es) (es ++ e ∷ []) last user least call moment e text → moment ≡ moment_of (first_word u) → v ≡ rest_words u
    → after_ask kind at (progress es out u) head last (writes user least call) ≡ progress (es ++ e ∷ []) (out ++ (interim_of kind.wire head ++ text)) v
accepted-alone kind at head last user least call es e out u v moment text a now later =
    let same : a.earlier ≡ es = sym (snoc-inj es a.earlier e e a.prefix) in
    let le : least ≤ number_at kind at es = rw same at a.not_ahead in
    let is : e ≡ next_entry at (progress es out u) user call = rw now at a.entry_is in
    let judged : shown_by (kind.next (replay kind.next at.opening es) (next_entry at (progress es out u) user call)) ≡ Ok a.shown = rw (same, is) at a.accepted in
    rw (a.text_is, later, le-ltb (number_at kind at es) least le, judged) (rw (← is) refl)

-- a turn is the one that a session alone makes
pub does-alone : {S C Q : Type 0} (kind : Kind S C Q) (at : Setting S) (p q : ℕ) (head : Head) (last : Bool) (ask : Ask C Q) (w : Option (Entry C)) (es : List (Entry C)) (out : List ℕ) (u v : Words) (moment : Moment) (text : List ℕ)
    → Does kind at (length es) p q (es ++ listed w) head last ask w moment text → Gives u (timed ask moment) (Some v)
    → after_ask kind at (progress es out u) head last ask ≡ progress (es ++ listed w) (out ++ (interim_of kind.wire head ++ text)) v
does-alone kind at p q head last (faulty cause) None es out u v moment text d g = rw (append-nil es, d.1, some_words v u g) refl
does-alone kind at p q head last (faulty cause) (Some e) es out u v moment text d g = absurd d
does-alone kind at p q head last (reads user least question) None es out u v moment text d g =
    let d' = rw (append-nil es) at d.1 in
    rw (append-nil es, d', some_words v u g) refl
does-alone kind at p q head last (reads user least question) (Some e) es out u v moment text d g = absurd d
does-alone kind at p q head last (writes user least call) None es out u v moment text d g =
    let d' : Refused kind at (length es) es last user least call moment text = subst (λ xs. Refused kind at (length es) xs last user least call moment text) (append-nil es) d.1 in
    rw (append-nil es) (refused-alone kind at head last user least call es out u v moment text d' g.0 (some_words v (rest_words u) g.1))
does-alone kind at p q head last (writes user least call) (Some e) es out u v moment text d g =
    accepted-alone kind at head last user least call es e out u v moment text d.1 g.0 (some_words v (rest_words u) g.1)

-- the turns are those that the session makes alone
pub turns-alone : {S C Q : Type 0} (kind : Kind S C Q) (at : Setting S) (after : ℕ) (h : List (Entry C)) (ts : List (Turn C)) (u v : Words)
    → at.before ≡ 0 → AreTurns kind at after h ts → IsPrefix (entries ts) h → last_place at.before ts ≤ length (entries ts) → Gives u (moments kind at ts) (Some v)
    → after_requests kind at u (requests ts) ≡ progress (entries ts) (sent kind.wire ts) v
turns-alone kind at after h [] u v none q pre le g = rw (some_words v u g) refl
turns-alone kind at after h (t ∷ ts) u v none q pre le g =
    let ask = ask_of kind at.users t.arrived.request in
    let head = t.arrived.request.head in
    let split = gives-split u (moments kind at ts) (timed ask t.moment) (Some v) g in
    let here : t.place ≡ length (entries (t ∷ ts)) = omega (arith, le, places-up kind at after h (t ∷ ts) none q) in
    let before = turns-alone kind at after h ts u split.0 none q.0 (prefix-trans (entries ts) (entries (t ∷ ts)) h (prefix-append (entries ts) (listed t.wrote)) pre)
    (does-down kind at (length (entries ts)) (last_place at.before ts) t.place (take t.place h) head (is_last kind.wire (length ts) head) ask t.wrote t.moment t.text (entries ts) le q.1.does) split.1 in
    let does = rw (take-front (entries (t ∷ ts)) h t.place pre here) at q.1.does in
    ap (λ a. after_ask kind at a head (is_last kind.wire (length (requests ts)) head) ask) before
    ∙ (ap (λ n. after_ask kind at (progress (entries ts) (sent kind.wire ts) split.0) head (is_last kind.wire n head) ask) (length_map (λ (t : Turn _). t.arrived) ts)
    ∙ does-alone kind at (last_place at.before ts) t.place head (is_last kind.wire (length ts) head) ask t.wrote (entries ts) (sent kind.wire ts) split.0 v t.moment t.text does split.2)
