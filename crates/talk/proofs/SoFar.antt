-- A session up to one of its steps, and after one step more.
use Rattle.std.proofs.Common.{◌≡◌, ◌≢◌, ℕ, ◌+◌, ◌<◌, ◌≤◌, ◌==◌, Bool, true, false, List, [], ◌∷◌, ◌++◌, Option, Some, None, length, take, drop, refl, ap, sym, ◌∙◌, arith, append_assoc, subst, inl, inr}
use Rattle.std.specs.Prelude.{◌-◌, ◌*◌, ◌||◌}
use Rattle.std.proofs.lemmas.Bool.{eqb-false}
use Rattle.std.proofs.lemmas.List.{append-nil}
use Rattle.outside.specs.Clocks.{Words, rest_words}
use Rattle.outside.specs.Outside.{SourceTold, SinkTold, Gave, Took}
use Rattle.outside.proofs.Known.{Gave-then, Gave-none, Took-then, Took-none}
use Rattle.cm_base.specs.declared.number.Moment.{Moment}
use Rattle.cm_base.specs.declared.user.User.{User}
use Rattle.desk_model.specs.declared.entry.Entry.{Entry}
use Rattle.desk_model.specs.Desks.{Known}
use Rattle.http_grammar.specs.Request.{Head, Request}
use Rattle.http_grammar.specs.Fields.{expects_continue}
use Rattle.http_grammar.specs.First.{First, Whole, HoldsHead}
use Rattle.http_wire.specs.Answers.{NoneDue}
use Rattle.http_wire.specs.Buffers.{BufferTold}
use Rattle.talk.specs.Wire.{Wire}
use Rattle.talk.specs.Served.{Kind, Ask, faulty, writes, reads, ask_of}
use Rattle.talk.specs.Requests.{rest_after, is_last, IsOpen, AreRequests, interim_of, Due, interim, no_interim}
use Rattle.talk.specs.Session.{Setting, Turn, Does, Accepted, Refused, ahead, refused, AreTurns, requests, sent, entries, last_place, moments, listed}
use Rattle.talk.specs.Settled.{IsWithin, AreWithin}
use Rattle.talk.specs.Told.{Told}
use Rattle.talk.specs.Turned.{Turned, GoesOn, setting}
use Rattle.talk.specs.Steps.{Standing, SendsInterim, SendsReply, StepDoes, Steps}
use Rattle.talk.proofs.ListFacts.{prefix-le, prefix-trans, take-self, length_map}
use Rattle.talk.proofs.Longer.{turns-longer}
use Rattle.talk.proofs.WireLaws.{GrammarLaws, rest_more, requests_more}

-- the interim reply of the head that the bytes hold was sent, or none was
pub data IsInterim (w : Wire) (answered : Bool) (bytes text : List ℕ) : Type 0 where
  was_sent : (head : Head) → answered ≡ true → HoldsHead bytes head → expects_continue head ≡ true → text ≡ w.interim_text → IsInterim w answered bytes text
  not_sent : answered ≡ false → text ≡ [] → IsInterim w answered bytes text

-- The turns up to now, and what the link gave and took for them since the session began. Then its pass knew o, its clock had the words w, and its link told source0 and sink0.
-- Begun is the interim reply that was sent before the next reply, or nothing.
pub record SoFar {S C Q : Type 0} (kind : Kind S C Q) (users : List User) (o : Known S C) (w : Option Words) (source0 : SourceTold) (sink0 : SinkTold)
    (a : Standing S C) (answered : Bool) (bytes : List ℕ) (source : SourceTold) (sink : SinkTold) : Type 0 where
  pub input : List ℕ
  pub turns : List (Turn C)
  pub begun : List ℕ
  pub gave : Gave source0 source input
  pub took : Took sink0 sink (sent kind.wire turns ++ begun)
  pub are_requests : AreRequests kind.wire input (requests turns)
  pub still_open : IsOpen kind.wire (requests turns)
  pub rest_is : rest_after input (requests turns) ≡ bytes
  pub are_turns : AreTurns kind (setting o users) (length a.known.seen) a.known.seen turns
  pub last_is : last_place (length o.seen) turns ≡ length a.known.seen
  pub on : GoesOn o a.known (entries turns)
  pub times : Told w (moments kind (setting o users) turns) a.words
  pub count_is : a.count ≡ length turns
  pub is_begun : IsInterim kind.wire answered bytes begun
  pub within : AreWithin kind users a.sure turns

pub told-none : (w : Option Words) → Told w [] w
told-none None = tt
told-none (Some w) = refl

pub told-then : (u v w : Option Words) (xs ys : List Moment) → Told u xs v → Told v ys w → Told u (xs ++ ys) w
told-then None v w xs ys p q = tt
told-then (Some a) v w [] ys p q = subst (λ v. Told v ys w) p q
told-then (Some a) v w (x ∷ xs) ys p q = (p.0, told-then (Some (rest_words a)) v w xs ys p.1 q)

pub goes-same : {S C : Type 0} (k : Known S C) → GoesOn k k []
goes-same k = record { opening = refl; base = refl; session = refl; seen = ([], append-nil k.seen); own = sym (append-nil k.own) }

pub goes-then : {S C : Type 0} (o k l : Known S C) (xs ys : List (Entry C)) → GoesOn o k xs → GoesOn k l ys → GoesOn o l (xs ++ ys)
goes-then o k l xs ys p q = record {
  opening = q.opening ∙ p.opening;
  base = q.base ∙ p.base;
  session = q.session ∙ p.session;
  seen = prefix-trans o.seen k.seen l.seen p.seen q.seen;
  own = q.own ∙ (ap (λ zs. zs ++ ys) p.own ∙ append_assoc o.own xs ys);
}

-- what is among the first m entries is among the first n
pub within-more : {C Q : Type 0} (m n : ℕ) (ask : Ask C Q) (place : ℕ) → m ≤ n → IsWithin m ask place → IsWithin n ask place
within-more m n (faulty cause) place le h = tt
within-more m n (writes user least call) place le h = omega (arith, le, h)
within-more m n (reads user least question) place le h = omega (arith, le, h)

pub all-within-more : {S C Q : Type 0} (kind : Kind S C Q) (users : List User) (m n : ℕ) (ts : List (Turn C)) → m ≤ n → AreWithin kind users m ts → AreWithin kind users n ts
all-within-more kind users m n [] le h = tt
all-within-more kind users m n (t ∷ ts) le h = (all-within-more kind users m n ts le h.0, within-more m n (ask_of kind users t.arrived.request) t.place le h.1)

-- before the first step
pub so-far-none : {S C Q : Type 0} (kind : Kind S C Q) (users : List User) (o : Known S C) (n : ℕ) (w : Option Words) (source : SourceTold) (sink : SinkTold)
    → SoFar kind users o w source sink (record { known = o; sure = n; words = w; count = 0 }) false [] source sink
so-far-none kind users o n w source sink = record {
  input = [];
  turns = [];
  begun = [];
  gave = Gave-none source source refl refl (omega arith);
  took = Took-none sink sink refl (omega arith);
  are_requests = tt;
  still_open = tt;
  rest_is = refl;
  are_turns = tt;
  last_is = refl;
  on = goes-same o;
  times = told-none w;
  count_is = refl;
  is_begun = not_sent refl refl;
  within = tt;
}

interim-read : (w : Wire) (law : GrammarLaws) (answered : Bool) (bytes got text : List ℕ) → IsInterim w answered bytes text → IsInterim w answered (bytes ++ got) text
interim-read w law answered bytes got text (was_sent head is holds expects said) = was_sent head is (law.head_kept bytes got head holds) expects said
interim-read w law answered bytes got text (not_sent is said) = not_sent is said

-- more bytes come
pub so-far-read : {S C Q : Type 0} (kind : Kind S C Q) (users : List User) (o : Known S C) (w : Option Words) (source0 : SourceTold) (sink0 : SinkTold)
    (a : Standing S C) (answered : Bool) (bytes got : List ℕ) (source source' : SourceTold) (sink : SinkTold) → GrammarLaws
    → SoFar kind users o w source0 sink0 a answered bytes source sink → Gave source source' got → SoFar kind users o w source0 sink0 a answered (bytes ++ got) source' sink
so-far-read kind users o w source0 sink0 a answered bytes got source source' sink law s gave = record {
  input = s.input ++ got;
  turns = s.turns;
  begun = s.begun;
  gave = Gave-then source0 source source' s.input got s.gave gave;
  took = s.took;
  are_requests = requests_more kind.wire law s.input got (requests s.turns) s.are_requests;
  still_open = s.still_open;
  rest_is = rest_more kind.wire law s.input got (requests s.turns) s.are_requests ∙ ap (λ b. b ++ got) s.rest_is;
  are_turns = s.are_turns;
  last_is = s.last_is;
  on = s.on;
  times = s.times;
  count_is = s.count_is;
  is_begun = interim-read kind.wire law answered bytes got s.begun s.is_begun;
  within = s.within;
}

-- what was begun is the interim reply that is due
not_both : (b : Bool) → b ≡ true → b ≡ false → ⊥
not_both b p q = cc

is_false : (b c : Bool) → c ≡ false → (b ≡ true → c ≡ true) → b ≡ false
is_false false c e f = refl
is_false true c e f = absurd (not_both c (f refl) e)

pub due-begun : (w : Wire) (answered : Bool) (bytes text : List ℕ) → NoneDue answered bytes → IsInterim w answered bytes text → Due w bytes text
due-begun w answered bytes text none (was_sent head is holds expects said) = interim head holds expects said
due-begun w answered bytes text none (not_sent is said) = no_interim (λ head holds. is_false (expects_continue head) answered is (none head holds)) said

pub interim-true : (w : Wire) (head : Head) → expects_continue head ≡ true → w.interim_text ≡ interim_of w head
interim-true w head e = rw e refl

interim-false : (w : Wire) (head : Head) → expects_continue head ≡ false → [] ≡ interim_of w head
interim-false w head e = rw e refl

-- what was begun is the interim reply of the request that stands there
pub begun-of : (w : Wire) → GrammarLaws → (answered : Bool) (bytes text : List ℕ) (r : Request) (n : ℕ) → First bytes (Whole r n) → NoneDue answered bytes → IsInterim w answered bytes text → text ≡ interim_of w r.head
begun-of w law answered bytes text r n first none (was_sent head is holds expects said) =
    let same : head ≡ r.head = law.head_one bytes head r.head holds (law.whole_head bytes r n first) in
    said ∙ interim-true w r.head (ap expects_continue (sym same) ∙ expects)
begun-of w law answered bytes text r n first none (not_sent is said) =
    said ∙ interim-false w r.head (is_false (expects_continue r.head) answered is (none r.head (law.whole_head bytes r n first)))

-- what a turn does doesn't rest on where the session began
accepted-before : {S C Q : Type 0} (kind : Kind S C Q) (at : Setting S) (b k : ℕ) (g : List (Entry C)) (last : Bool) (user : List ℕ) (least : ℕ) (call : C) (moment : Moment) (e : Entry C) (text : List ℕ)
    → Accepted kind at k g last user least call moment e text → Accepted kind (record { opening = at.opening; users = at.users; number = at.number; before = b }) k g last user least call moment e text
accepted-before kind at b k g last user least call moment e text a = record {
  earlier = a.earlier;
  prefix = a.prefix;
  entry_is = a.entry_is;
  not_ahead = a.not_ahead;
  shown = a.shown;
  accepted = a.accepted;
  text_is = a.text_is;
}

refused-before : {S C Q : Type 0} (kind : Kind S C Q) (at : Setting S) (b k : ℕ) (g : List (Entry C)) (last : Bool) (user : List ℕ) (least : ℕ) (call : C) (moment : Moment) (text : List ℕ)
    → Refused kind at k g last user least call moment text → Refused kind (record { opening = at.opening; users = at.users; number = at.number; before = b }) k g last user least call moment text
refused-before kind at b k g last user least call moment text (ahead lt is) = ahead lt is
refused-before kind at b k g last user least call moment text (refused cause le judged is) = refused cause le judged is

pub does-before : {S C Q : Type 0} (kind : Kind S C Q) (at : Setting S) (b k p q : ℕ) (g : List (Entry C)) (head : Head) (last : Bool) (ask : Ask C Q) (w : Option (Entry C)) (moment : Moment) (text : List ℕ)
    → Does kind at k p q g head last ask w moment text → Does kind (record { opening = at.opening; users = at.users; number = at.number; before = b }) k p q g head last ask w moment text
does-before kind at b k p q g head last (faulty cause) None moment text d = d
does-before kind at b k p q g head last (faulty cause) (Some e) moment text d = d
does-before kind at b k p q g head last (writes user least call) None moment text d = (d.0, refused-before kind at b k g last user least call moment text d.1)
does-before kind at b k p q g head last (writes user least call) (Some e) moment text d = (d.0, accepted-before kind at b k g last user least call moment e text d.1)
does-before kind at b k p q g head last (reads user least question) None moment text d = d
does-before kind at b k p q g head last (reads user least question) (Some e) moment text d = d

does-to : {S C Q : Type 0} (kind : Kind S C Q) (at at' : Setting S) (k k' p p' q : ℕ) (g g' : List (Entry C)) (head : Head) (last last' : Bool) (ask : Ask C Q) (w : Option (Entry C)) (moment : Moment) (text : List ℕ)
    → at ≡ at' → k ≡ k' → p ≡ p' → g ≡ g' → last ≡ last' → Does kind at k p q g head last ask w moment text → Does kind at' k' p' q g' head last' ask w moment text
does-to kind at at' k k' p p' q g g' head last last' ask w moment text e f h i j d =
    subst (λ at. Does kind at k' p' q g' head last' ask w moment text) e
    (subst (λ k. Does kind at k p' q g' head last' ask w moment text) f
    (subst (λ p. Does kind at k p q g' head last' ask w moment text) h
    (subst (λ g. Does kind at k p q g head last' ask w moment text) i
    (subst (λ last. Does kind at k p q g head last ask w moment text) j d))))

same-setting : {S C : Type 0} (o k : Known S C) (users : List User) → k.opening ≡ o.opening → k.session ≡ o.session
    → record { opening = k.opening; users = users; number = k.session; before = length o.seen } ≡ setting o users
same-setting o k users e f = λ i. record { opening = e i; users = users; number = f i; before = length o.seen }

-- the turn of a request
abbrev pub new_turn : {S C Q : Type 0} {kind : Kind S C Q} {users : List User} {head : Head} {last : Bool} {ask : Ask C Q} {k l : Known S C} {u v : Option Words} {text : List ℕ}
    → Request → ℕ → Turned kind users head last ask k u text l v → Turn C
new_turn {l = l} {text = text} r n t = record { arrived = record { request = r; size = n }; place = length l.seen; moment = t.moment; wrote = t.wrote; text = text }

pub turns-more : {S C Q : Type 0} (kind : Kind S C Q) (users : List User) (o : Known S C) (a b : Standing S C) (ts : List (Turn C)) (r : Request) (n : ℕ) (text : List ℕ)
    → o.own ≡ [] → AreTurns kind (setting o users) (length a.known.seen) a.known.seen ts → last_place (length o.seen) ts ≡ length a.known.seen → GoesOn o a.known (entries ts) → a.count ≡ length ts
    → (t : Turned kind users r.head (is_last kind.wire a.count r.head) (ask_of kind users r) a.known a.words text b.known b.words)
    → AreTurns kind (setting o users) (length b.known.seen) b.known.seen (new_turn r n t ∷ ts)
turns-more kind users o a b ts r n text none are last on count t =
    let seen = prefix-le a.known.seen b.known.seen t.on.seen in
    let own : length a.known.own ≡ length (entries ts) = ap length on.own ∙ ap (λ xs. length (xs ++ entries ts)) none in (
      turns-longer kind (setting o users) (length a.known.seen) (length b.known.seen) a.known.seen b.known.seen ts t.on.seen (omega arith) seen are,
      record {
        within = omega arith;
        does = does-to kind _ (setting o users) (length a.known.own) (length (entries ts)) (length a.known.seen) (last_place (length o.seen) ts) (length b.known.seen) b.known.seen (take (length b.known.seen) b.known.seen)
            r.head (is_last kind.wire a.count r.head) (is_last kind.wire (length ts) r.head) (ask_of kind users r) t.wrote t.moment text
            (same-setting o a.known users on.opening on.session) own (sym last) (sym (take-self b.known.seen)) (ap (λ c. is_last kind.wire c r.head) count)
            (does-before kind (setting a.known users) (length o.seen) (length a.known.own) (length a.known.seen) (length b.known.seen) b.known.seen r.head (is_last kind.wire a.count r.head) (ask_of kind users r) t.wrote t.moment text t.does);
      },
    )

-- the requests with this one
pub requests-more : (w : Wire) {C : Type 0} (input bytes : List ℕ) (ts : List (Turn C)) (r : Request) (n : ℕ) → AreRequests w input (requests ts) → IsOpen w (requests ts) → rest_after input (requests ts) ≡ bytes → First bytes (Whole r n)
    → AreRequests w input (record { request = r; size = n } ∷ requests ts)
requests-more w input bytes ts r n are open_so rest first = (are, open_so, subst (λ b. First b (Whole r n)) (sym rest) first)

-- what is sent with this one
pub sent-more : (w : Wire) {C : Type 0} (ts : List (Turn C)) (head : Head) (begun text : List ℕ) → begun ≡ interim_of w head → (sent w ts ++ begun) ++ text ≡ sent w ts ++ (interim_of w head ++ text)
sent-more w ts head begun text is = append_assoc (sent w ts) begun text ∙ ap (λ b. sent w ts ++ (b ++ text)) is

-- whether a reply is the last, by the count of the turns before it
pub last-by : (w : Wire) {C : Type 0} (ts : List (Turn C)) (head : Head) (count : ℕ) (b : Bool) → count ≡ length ts → is_last w count head ≡ b → is_last w (length (requests ts)) head ≡ b
last-by w ts head count b is said = ap (λ c. is_last w c head) (length_map (λ (t : Turn _). t.arrived) ts ∙ sym is) ∙ said

pub nothing-begun : (w : Wire) (answered : Bool) (bytes text : List ℕ) → answered ≡ false → IsInterim w answered bytes text → text ≡ []
nothing-begun w answered bytes text no_one (was_sent head is holds expects said) = absurd (not_both answered is no_one)
nothing-begun w answered bytes text no_one (not_sent is said) = said

-- an interim reply is sent
pub so-far-interim : {S C Q : Type 0} (kind : Kind S C Q) (users : List User) (o : Known S C) (w : Option Words) (source0 : SourceTold) (sink0 : SinkTold)
    (a b : Standing S C) (answered : Bool) (bytes : List ℕ) (source : SourceTold) (sink sink' : SinkTold) (after : BufferTold)
    → SoFar kind users o w source0 sink0 a answered bytes source sink → SendsInterim kind.wire answered bytes a sink b sink' after → SoFar kind users o w source0 sink0 b after.answered after.bytes source sink'
so-far-interim kind users o w source0 sink0 a b answered bytes source sink sink' after s i =
    let nothing = nothing-begun kind.wire answered bytes s.begun i.interim.unanswered s.is_begun in
    let is : (sent kind.wire s.turns ++ s.begun) ++ kind.wire.interim_text ≡ sent kind.wire s.turns ++ kind.wire.interim_text =
    append_assoc (sent kind.wire s.turns) s.begun kind.wire.interim_text ∙ ap (λ b. sent kind.wire s.turns ++ (b ++ kind.wire.interim_text)) nothing in
    rw (i.same, i.after_is) (record {
      input = s.input;
      turns = s.turns;
      begun = kind.wire.interim_text;
      gave = s.gave;
      took = subst (Took sink0 sink') is (Took-then sink0 sink sink' (sent kind.wire s.turns ++ s.begun) kind.wire.interim_text s.took i.took);
      are_requests = s.are_requests;
      still_open = s.still_open;
      rest_is = s.rest_is;
      are_turns = s.are_turns;
      last_is = s.last_is;
      on = s.on;
      times = s.times;
      count_is = s.count_is;
      is_begun = was_sent i.interim.head refl i.interim.holds i.interim.expects refl;
      within = s.within;
    })

-- a reply is sent, and the session goes on
pub so-far-reply : {S C Q : Type 0} (kind : Kind S C Q) (users : List User) (o : Known S C) (w : Option Words) (source0 : SourceTold) (sink0 : SinkTold)
    (a b : Standing S C) (answered : Bool) (bytes : List ℕ) (source : SourceTold) (sink sink' : SinkTold) (after : BufferTold) → GrammarLaws → o.own ≡ []
    → SoFar kind users o w source0 sink0 a answered bytes source sink → SendsReply kind users answered bytes a sink b sink' after None → a.sure ≤ b.sure → SoFar kind users o w source0 sink0 b after.answered after.bytes source sink'
so-far-reply kind users o w source0 sink0 a b answered bytes source sink sink' after law none s i later =
    let r = i.request in
    let text = i.answers.2 in
    let t = i.answers.3 in
    let begun = begun-of kind.wire law answered bytes s.begun r i.size i.first i.none_due s.is_begun in
    let output = sent-more kind.wire s.turns r.head s.begun text begun in
    rw i.after_is (record {
      input = s.input;
      turns = new_turn r i.size t ∷ s.turns;
      begun = [];
      gave = s.gave;
      took = subst (Took sink0 sink') (output ∙ sym (append-nil (sent kind.wire s.turns ++ (interim_of kind.wire r.head ++ text))))
          (Took-then sink0 sink sink' (sent kind.wire s.turns ++ s.begun) text s.took i.answers.5);
      are_requests = requests-more kind.wire s.input bytes s.turns r i.size s.are_requests s.still_open s.rest_is i.first;
      still_open = last-by kind.wire s.turns r.head a.count false s.count_is i.answers.0;
      rest_is = ap (drop i.size) s.rest_is;
      are_turns = turns-more kind users o a b s.turns r i.size text none s.are_turns s.last_is s.on s.count_is t;
      last_is = refl;
      on = goes-then o a.known b.known (entries s.turns) (listed t.wrote) s.on t.on;
      times = told-then w a.words b.words (moments kind (setting o users) s.turns) _ s.times t.told;
      count_is = i.answers.1 ∙ omega (arith, s.count_is);
      is_begun = not_sent refl refl;
      within = (all-within-more kind users a.sure b.sure s.turns later s.within, i.answers.4);
    })

-- one step more
pub so-far-more : {S C Q : Type 0} (kind : Kind S C Q) (users : List User) (o : Known S C) (w : Option Words) (source0 : SourceTold) (sink0 : SinkTold)
    (a b : Standing S C) (before after : BufferTold) (source source' : SourceTold) (sink sink' : SinkTold) → GrammarLaws → o.own ≡ []
    → SoFar kind users o w source0 sink0 a before.answered before.bytes source sink → Steps kind users before source a sink after source' b sink' None
    → SoFar kind users o w source0 sink0 b after.answered after.bytes source' sink'
so-far-more kind users o w source0 sink0 a b before after source source' sink sink' law none s step = by_kind step.does
  where
    read : SoFar kind users o w source0 sink0 a before.answered (before.bytes ++ step.got) source' sink
    read = so-far-read kind users o w source0 sink0 a before.answered before.bytes step.got source source' sink law s step.gave

    by_kind : StepDoes kind users before.answered (before.bytes ++ step.got) source source' a sink b sink' after None → SoFar kind users o w source0 sink0 b after.answered after.bytes source' sink'
    by_kind (inl i) = so-far-interim kind users o w source0 sink0 a b before.answered (before.bytes ++ step.got) source' sink sink' after read i
    by_kind (inr i) = so-far-reply kind users o w source0 sink0 a b before.answered (before.bytes ++ step.got) source' sink sink' after law none read i step.later

-- how many steps a session still has at most: two for each reply, less one where the interim reply was sent
abbrev pub steps_left : ℕ → Bool → ℕ
steps_left count true = 1999 - 2 * count
steps_left count false = 2000 - 2 * count

or-false : (x y : Bool) → (x || y) ≡ false → x ≡ false
or-false true y e = e
or-false false y e = refl

below-last : (w : Wire) (count : ℕ) (head : Head) → is_last w count head ≡ false → count < 1000 → count + 1 < 1000
below-last w count head more few =
    let differ : count ≢ 999 = eqb-false count 999 (or-false (count == 999) (w.closes head) more) in
    omega (arith, differ, few)

count-on : {S C Q : Type 0} (kind : Kind S C Q) (users : List User) (a b : Standing S C) (before after : BufferTold) (source source' : SourceTold) (sink sink' : SinkTold) (bytes : List ℕ)
    → a.count < 1000 → StepDoes kind users before.answered bytes source source' a sink b sink' after None → (b.count < 1000) × (steps_left b.count after.answered < steps_left a.count before.answered)
count-on kind users a b before after source source' sink sink' bytes few (inl i) =
    rw (i.same, i.after_is, i.interim.unanswered) (few, omega (arith, few))
count-on kind users a b before after source source' sink sink' bytes few (inr i) =
    let next = below-last kind.wire a.count i.request.head i.answers.0 few in
    rw (i.answers.1, i.after_is) (next, by_answered before.answered next)
  where
    by_answered : (answered : Bool) → a.count + 1 < 1000 → steps_left (a.count + 1) false < steps_left a.count answered
    by_answered true next = omega (arith, next)
    by_answered false next = omega (arith, next)

pub counts : {S C Q : Type 0} (kind : Kind S C Q) (users : List User) (a b : Standing S C) (before after : BufferTold) (source source' : SourceTold) (sink sink' : SinkTold)
    → a.count < 1000 → Steps kind users before source a sink after source' b sink' None → (b.count < 1000) × (steps_left b.count after.answered < steps_left a.count before.answered)
counts kind users a b before after source source' sink sink' few step = count-on kind users a b before after source source' sink sink' (before.bytes ++ step.got) few step.does
