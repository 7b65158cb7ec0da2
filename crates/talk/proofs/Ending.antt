-- How a session ends, by its last step.
use Rattle.std.proofs.Common.{◌≡◌, ℕ, ◌+◌, ◌≤◌, ◌⊎◌, Bool, true, false, List, [], ◌∷◌, ◌++◌, Option, Some, length, take, drop, refl, ap, sym, ◌∙◌, arith, append_assoc, subst, inl, inr}
use Rattle.std.specs.Prelude.{◌-◌, ◌^◌, min}
use Rattle.std.specs.List.{filter}
use Rattle.std.proofs.lemmas.Bool.{le-leb}
use Rattle.std.proofs.lemmas.List.{append-nil, take-append-drop}
use Rattle.std.proofs.lemmas.List.Elements.{filter-append}
use mathlib.Core.List.{IsPrefix}
use Rattle.outside.specs.Clocks.{Words}
use Rattle.outside.specs.Outside.{SourceTold, SinkTold, Gave, Took, Rose}
use Rattle.outside.proofs.Known.{Took-then}
use Rattle.cm_base.specs.declared.number.Moment.{Moment}
use Rattle.cm_base.specs.declared.user.User.{User}
use Rattle.desk_model.specs.declared.entry.Entry.{Entry}
use Rattle.desk_model.specs.Histories.{own, is_by}
use Rattle.desk_model.specs.Desks.{Known}
use Rattle.http_grammar.specs.declared.fault.HttpFault.{HttpFault}
use Rattle.http_grammar.specs.declared.fault.HttpFault.TheVariants.{BadHead, LongHead, LongBody, BadLength, Coding, Cut}
use Rattle.http_grammar.specs.Request.{Head, Request}
use Rattle.http_grammar.specs.First.{First, Whole, Fault, IsPending, HoldsHead}
use Rattle.http_wire.specs.Answers.{NoneDue, BadAnswer}
use Rattle.http_wire.specs.Buffers.{BufferTold}
use Rattle.talk.specs.declared.end.End.{End}
use Rattle.talk.specs.declared.end.End.TheVariants.{Ended, Bad, ReadFault, WriteFault, Starved, Unkept}
use Rattle.talk.specs.Wire.{Wire}
use Rattle.talk.specs.Served.{Kind, ask_of}
use Rattle.talk.specs.Requests.{rest_after, is_last, AreRequests, interim_of, Due, interim, HasFault, at_front, cut, fault_text, closed, at_border}
use Rattle.talk.specs.Session.{Turn, AreTurns, requests, sent, entries, moments, listed, Ends, of_turn, of_fault, of_interim, IsUnsent}
use Rattle.talk.specs.Settled.{IsWithin, AreWithin, ShowsWithin}
use Rattle.talk.specs.Told.{Told, ToldOrOneMore}
use Rattle.talk.specs.Turned.{Turned, TurnUnkept, GoesOn, Stays, setting}
use Rattle.talk.specs.Steps.{Standing, Lost, SentOrLost, ExpectsInterim, SendsReply, StepDoes, Steps}
use Rattle.talk.specs.Talked.{Talked, TakesWords, rose}
use Rattle.talk.proofs.ListFacts.{prefix-le, take-prefix}
use Rattle.talk.proofs.Longer.{turns-longer}
use Rattle.talk.proofs.WireLaws.{GrammarLaws}
use Rattle.talk.proofs.Turns.{stays-put}
use Rattle.talk.proofs.SoFar.{SoFar, IsInterim, was_sent, not_sent, told-then, goes-then, so-far-none, so-far-read, due-begun, begun-of, new_turn, turns-more, requests-more, sent-more, last-by, nothing-begun, within-more, all-within-more}

-- what holds of the pass when the session begins, and of the pass at its end
pub record Fresh {S C : Type 0} (o : Known S C) : Type 0 where
  pub none_made : o.own ≡ []
  pub none_before : own 0 o.session (take o.base o.seen) ≡ []
  pub begun : o.base ≤ length o.seen

own-parts : {C : Type 0} (b n : ℕ) (h : List (Entry C)) → own 0 n h ≡ own 0 n (take b h) ++ own b n h
own-parts b n h = ap (filter (is_by n)) (sym (take-append-drop b h)) ∙ filter-append (is_by n) (take b h) (drop b h)

-- its entries in what the pass has seen are those of the turns
pub owns-at : {S C : Type 0} (o l : Known S C) (es : List (Entry C)) → Fresh o → own l.base l.session l.seen ≡ l.own → GoesOn o l es → own 0 o.session l.seen ≡ es
owns-at o l es fresh mine on =
    let front : take o.base l.seen ≡ take o.base o.seen = take-prefix o.base o.seen l.seen on.seen fresh.begun in
    let behind : own o.base o.session l.seen ≡ es =
    ap (λ b. own b o.session l.seen) (sym on.base) ∙ (ap (λ n. own l.base n l.seen) (sym on.session) ∙ (mine ∙ (on.own ∙ ap (λ xs. xs ++ es) fresh.none_made))) in
    own-parts o.base o.session l.seen ∙ (ap (λ xs. own 0 o.session xs ++ own o.base o.session l.seen) front ∙ (ap (λ xs. xs ++ own o.base o.session l.seen) fresh.none_before ∙ behind))

-- the session, by its turns and its end
pub talked-by : {S C Q : Type 0} (kind : Kind S C Q) (users : List User) (o l : Known S C) (n : ℕ) (w after : Option Words) (source0 source : SourceTold) (sink0 sink : SinkTold) (end : End) (input output : List ℕ) (ts : List (Turn C))
    → Fresh o → own l.base l.session l.seen ≡ l.own → Gave source0 source input → Took sink0 sink output
    → AreRequests kind.wire input (requests ts) → AreTurns kind (setting o users) (length l.seen) l.seen ts → GoesOn o l (entries ts)
    → TakesWords end w (moments kind (setting o users) ts) after
    → Ends kind.wire ts (rest_after input (requests ts)) source.ended output (rose source0.faults source.faults) (rose sink0.faults sink.faults) end
    → ShowsWithin kind users n ts output end
    → Talked kind users o w source0 sink0 l n after source sink end
talked-by kind users o l n w after source0 source sink0 sink end input output ts fresh mine gave took asks are on told ends within = record {
  input = input;
  output = output;
  times = moments kind (setting o users) ts;
  gave = gave;
  took = took;
  told = told;
  opening = on.opening;
  base = on.base;
  number = on.session;
  seen = on.seen;
  session = record {
    turns = ts;
    are_requests = asks;
    are_turns = are;
    begins = prefix-le o.seen l.seen on.seen;
    held = omega arith;
    owns = owns-at o l (entries ts) fresh mine on;
    times_are = refl;
    ends = ends;
  };
  settled = within;
}

-- a count that rose in a step rose in the session
pub rose-by : (a b c : ℕ) → a ≤ b → Rose b c → rose a c ≡ true
rose-by a b c le r = le-leb (min (a + 1) (2 ^ 64 - 1)) c (omega (arith, le, r))

-- with no turn more: the pass is as it was
pub stays-talked : {S C Q : Type 0} (kind : Kind S C Q) (users : List User) (o : Known S C) (w : Option Words) (source0 source : SourceTold) (sink0 sink sink' : SinkTold) (a b : Standing S C) (answered : Bool) (bytes text : List ℕ) (end : End)
    → Fresh o → own b.known.base b.known.session b.known.seen ≡ b.known.own → (s : SoFar kind users o w source0 sink0 a answered bytes source sink) → b ≡ a → Took sink sink' text
    → (Told w (moments kind (setting o users) s.turns) a.words → TakesWords end w (moments kind (setting o users) s.turns) a.words)
    → Ends kind.wire s.turns bytes source.ended ((sent kind.wire s.turns ++ s.begun) ++ text) (rose source0.faults source.faults) (rose sink0.faults sink'.faults) end
    → (AreWithin kind users a.sure s.turns → ShowsWithin kind users a.sure s.turns ((sent kind.wire s.turns ++ s.begun) ++ text) end)
    → Talked kind users o w source0 sink0 b.known b.sure b.words source sink' end
stays-talked kind users o w source0 source sink0 sink sink' a b answered bytes text end fresh mine s same took told ends within =
    let mine' = rw same at mine in
    let ends' = rw (← s.rest_is) at ends in
    rw same (talked-by kind users o a.known a.sure w a.words source0 source sink0 sink' end s.input ((sent kind.wire s.turns ++ s.begun) ++ text) s.turns fresh mine' s.gave
    (Took-then sink0 sink sink' (sent kind.wire s.turns ++ s.begun) text s.took took) s.are_requests s.are_turns s.on (told s.times) ends' (within s.within))

-- with one turn more
pub turn-talked : {S C Q : Type 0} (kind : Kind S C Q) (users : List User) (o : Known S C) (w : Option Words) (source0 source : SourceTold) (sink0 sink sink' : SinkTold) (a b : Standing S C) (answered : Bool) (bytes : List ℕ) (r : Request) (n : ℕ) (text part : List ℕ) (end : End)
    → GrammarLaws → Fresh o → own b.known.base b.known.session b.known.seen ≡ b.known.own → (s : SoFar kind users o w source0 sink0 a answered bytes source sink)
    → First bytes (Whole r n) → NoneDue answered bytes → (t : Turned kind users r.head (is_last kind.wire a.count r.head) (ask_of kind users r) a.known a.words text b.known b.words) → Took sink sink' part
    → (Told w (moments kind (setting o users) (new_turn r n t ∷ s.turns)) b.words → TakesWords end w (moments kind (setting o users) (new_turn r n t ∷ s.turns)) b.words)
    → Ends kind.wire (new_turn r n t ∷ s.turns) (drop n bytes) source.ended (sent kind.wire s.turns ++ (interim_of kind.wire r.head ++ part)) (rose source0.faults source.faults) (rose sink0.faults sink'.faults) end
    → (AreWithin kind users b.sure (new_turn r n t ∷ s.turns) → ShowsWithin kind users b.sure (new_turn r n t ∷ s.turns) (sent kind.wire s.turns ++ (interim_of kind.wire r.head ++ part)) end)
    → a.sure ≤ b.sure → IsWithin b.sure (ask_of kind users r) (length b.known.seen)
    → Talked kind users o w source0 sink0 b.known b.sure b.words source sink' end
turn-talked kind users o w source0 source sink0 sink sink' a b answered bytes r n text part end law fresh mine s first none t took told ends within later is_within =
    let begun = begun-of kind.wire law answered bytes s.begun r n first none s.is_begun in
    let ends' = rw (← s.rest_is) at ends in
    talked-by kind users o b.known b.sure w b.words source0 source sink0 sink' end s.input (sent kind.wire s.turns ++ (interim_of kind.wire r.head ++ part)) (new_turn r n t ∷ s.turns) fresh mine s.gave
    (subst (Took sink0 sink') (sent-more kind.wire s.turns r.head s.begun part begun) (Took-then sink0 sink sink' (sent kind.wire s.turns ++ s.begun) part s.took took))
    (requests-more kind.wire s.input bytes s.turns r n s.are_requests s.still_open s.rest_is first)
    (turns-more kind users o a b s.turns r n text fresh.none_made s.are_turns s.last_is s.on s.count_is t)
    (goes-then o a.known b.known (entries s.turns) (listed t.wrote) s.on t.on)
    (told (told-then w a.words b.words (moments kind (setting o users) s.turns) _ s.times t.told))
    ends'
    (within (all-within-more kind users a.sure b.sure s.turns later s.within, is_within))

-- where memory was wanted: the pass may have seen more, and a word may be gone
told-or-more : (w v after : Option Words) (xs : List Moment) → Told w xs v → ToldOrOneMore v [] after → ToldOrOneMore w xs after
told-or-more w v after xs p (inl q) = inl (subst (λ xs. Told w xs after) (append-nil xs) (told-then w v after xs [] p q))
told-or-more w v after xs p (inr q) = inr (q.0, told-then w v after xs (q.0 ∷ []) p q.1)

goes-none : {S C : Type 0} (o k l : Known S C) (es : List (Entry C)) → GoesOn o k es → GoesOn k l [] → GoesOn o l es
goes-none o k l es p q = subst (GoesOn o l) (append-nil es) (goes-then o k l es [] p q)

starved-due : (w : Wire) (answered : Bool) (bytes text : List ℕ) → IsInterim w answered bytes text → (text ≡ []) ⊎ Due w bytes text
starved-due w answered bytes text (was_sent head is holds expects said) = inr (interim head holds expects said)
starved-due w answered bytes text (not_sent is said) = inl said

-- the text that was due, or a front of it
pub front-of : (old new : SinkTold) (text : List ℕ) → Lost old new text → (part : List ℕ) × IsPrefix part text × Took old new part × Rose old.faults new.faults
front-of old new text (front, rose_so) = (front.0, (front.1, sym front.2), front.3, rose_so)

pub starves-talked : {S C Q : Type 0} (kind : Kind S C Q) (users : List User) (o : Known S C) (w : Option Words) (source0 source : SourceTold) (sink0 sink sink' : SinkTold) (a b : Standing S C) (answered : Bool) (bytes : List ℕ)
    → Fresh o → own b.known.base b.known.session b.known.seen ≡ b.known.own → (s : SoFar kind users o w source0 sink0 a answered bytes source sink)
    → Stays a.known b.known a.words b.words → a.sure ≤ b.sure → SentOrLost sink sink' kind.wire.runtime_text → Talked kind users o w source0 sink0 b.known b.sure b.words source sink' Starved
starves-talked kind users o w source0 source sink0 sink sink' a b answered bytes fresh mine s stays later out = by_out out
  where
    by_part : (part : List ℕ) → Took sink sink' part → (part ≡ kind.wire.runtime_text) ⊎ (IsPrefix part kind.wire.runtime_text × (rose sink0.faults sink'.faults ≡ true)) → Talked kind users o w source0 sink0 b.known b.sure b.words source sink' Starved
    by_part part took is =
        talked-by kind users o b.known b.sure w b.words source0 source sink0 sink' Starved s.input ((sent kind.wire s.turns ++ s.begun) ++ part) s.turns fresh mine s.gave
        (Took-then sink0 sink sink' (sent kind.wire s.turns ++ s.begun) part s.took took) s.are_requests
        (turns-longer kind (setting o users) (length a.known.seen) (length b.known.seen) a.known.seen b.known.seen s.turns stays.on.seen (omega arith) (prefix-le a.known.seen b.known.seen stays.on.seen) s.are_turns)
        (goes-none o a.known b.known (entries s.turns) s.on stays.on) (told-or-more w a.words b.words (moments kind (setting o users) s.turns) s.times stays.told)
        (record {
          still_open = s.still_open;
          due = s.begun;
          is_due = starved-due kind.wire answered (rest_after s.input (requests s.turns)) s.begun (subst (λ b. IsInterim kind.wire answered b s.begun) (sym s.rest_is) s.is_begun);
          part = part;
          part_is = is;
          output_is = append_assoc (sent kind.wire s.turns) s.begun part;
        })
        (all-within-more kind users a.sure b.sure s.turns later s.within)

    by_out : SentOrLost sink sink' kind.wire.runtime_text → Talked kind users o w source0 sink0 b.known b.sure b.words source sink' Starved
    by_out (inl took) = by_part kind.wire.runtime_text took (inl refl)
    by_out (inr lost) =
        let f = front-of sink sink' kind.wire.runtime_text lost in
        by_part f.0 f.2 (inr (f.1, rose-by sink0.faults sink.faults sink'.faults s.took.later f.3))

-- a session that wanted memory before its first step
pub starved-at-once : {S C Q : Type 0} (kind : Kind S C Q) (users : List User) (o : Known S C) (n : ℕ) (w : Option Words) (source0 source : SourceTold) (sink0 sink : SinkTold)
    → Fresh o → own o.base o.session o.seen ≡ o.own → SentOrLost sink0 sink kind.wire.runtime_text → source ≡ source0 → Talked kind users o w source0 sink0 o n w source sink Starved
starved-at-once kind users o n w source0 source sink0 sink fresh mine out still =
    let a : Standing _ _ = record { known = o; sure = n; words = w; count = 0 } in
    subst (λ s. Talked kind users o w source0 sink0 o n w s sink Starved) (sym still)
    (starves-talked kind users o w source0 source0 sink0 sink0 sink a a false [] fresh mine (so-far-none kind users o n w source0 sink0) (stays-put o w) (omega arith) out)

-- a session that ends after a reply
ended-reply : {S C Q : Type 0} (kind : Kind S C Q) (users : List User) (o : Known S C) (w : Option Words) (source0 source : SourceTold) (sink0 sink sink' : SinkTold) (a b : Standing S C) (answered : Bool) (bytes : List ℕ) (after : BufferTold)
    → GrammarLaws → Fresh o → own b.known.base b.known.session b.known.seen ≡ b.known.own → SoFar kind users o w source0 sink0 a answered bytes source sink
    → SendsReply kind users answered bytes a sink b sink' after (Some Ended) → a.sure ≤ b.sure → Talked kind users o w source0 sink0 b.known b.sure b.words source sink' Ended
ended-reply kind users o w source0 source sink0 sink sink' a b answered bytes after law fresh mine s i later =
    turn-talked kind users o w source0 source sink0 sink sink' a b answered bytes i.request i.size i.answers.1 i.answers.1 Ended law fresh mine s i.first i.none_due i.answers.2 i.answers.4
    (λ t. t) (closed (last-by kind.wire s.turns i.request.head a.count true s.count_is i.answers.0), refl) (λ t. t) later i.answers.3

-- and one whose input ends at a border
ended-border : {S C Q : Type 0} (kind : Kind S C Q) (users : List User) (o : Known S C) (w : Option Words) (source0 source : SourceTold) (sink0 sink sink' : SinkTold) (a b : Standing S C) (answered : Bool) (bytes : List ℕ)
    → GrammarLaws → Fresh o → own b.known.base b.known.session b.known.seen ≡ b.known.own → SoFar kind users o w source0 sink0 a answered bytes source sink
    → bytes ≡ [] → source.ended ≡ true → b ≡ a → sink' ≡ sink → Talked kind users o w source0 sink0 b.known b.sure b.words source sink' Ended
ended-border kind users o w source0 source sink0 sink sink' a b answered bytes law fresh mine s none over same still =
    let mine' = rw same at mine in
    let nothing = nothing-there s.is_begun in
    rw (same, still) (talked-by kind users o a.known a.sure w a.words source0 source sink0 sink Ended s.input (sent kind.wire s.turns ++ s.begun) s.turns fresh mine' s.gave s.took s.are_requests s.are_turns s.on s.times
    (at_border s.still_open (s.rest_is ∙ none) over, ap (λ b. sent kind.wire s.turns ++ b) nothing ∙ append-nil (sent kind.wire s.turns)) s.within)
  where
    nothing-there : IsInterim kind.wire answered bytes s.begun → s.begun ≡ []
    nothing-there (was_sent head is holds expects said) = absurd (law.no_head head (subst (λ b. HoldsHead b head) none holds))
    nothing-there (not_sent is said) = said

-- a fault of the bytes
has-fault : (answered over : Bool) (bytes : List ℕ) (source : SourceTold) (fault : HttpFault) → source.ended ≡ over → BadAnswer answered bytes source fault → HasFault bytes over fault × NoneDue answered bytes
has-fault answered over bytes source BadHead is bad = (at_front bad.0, bad.1)
has-fault answered over bytes source LongHead is bad = (at_front bad.0, bad.1)
has-fault answered over bytes source LongBody is bad = (at_front bad.0, bad.1)
has-fault answered over bytes source BadLength is bad = (at_front bad.0, bad.1)
has-fault answered over bytes source Coding is bad = (at_front bad.0, bad.1)
has-fault answered over bytes source Cut is bad = (cut refl bad.0 (sym is ∙ bad.2), bad.1)

ended-bad : {S C Q : Type 0} (kind : Kind S C Q) (users : List User) (o : Known S C) (w : Option Words) (source0 source : SourceTold) (sink0 sink sink' : SinkTold) (a b : Standing S C) (answered : Bool) (bytes : List ℕ) (fault : HttpFault)
    → Fresh o → own b.known.base b.known.session b.known.seen ≡ b.known.own → SoFar kind users o w source0 sink0 a answered bytes source sink
    → BadAnswer answered bytes source fault → b ≡ a → Took sink sink' (fault_text kind.wire fault) → Talked kind users o w source0 sink0 b.known b.sure b.words source sink' (Bad fault)
ended-bad kind users o w source0 source sink0 sink sink' a b answered bytes fault fresh mine s bad same took =
    let has = has-fault answered source.ended bytes source fault refl bad in
    stays-talked kind users o w source0 source sink0 sink sink' a b answered bytes (fault_text kind.wire fault) (Bad fault) fresh mine s same took (λ t. t) (record {
      still_open = s.still_open;
      has_fault = has.0;
      due = s.begun;
      is_due = due-begun kind.wire answered bytes s.begun has.1 s.is_begun;
      output_is = append_assoc (sent kind.wire s.turns) s.begun (fault_text kind.wire fault);
    }) (λ t. t)

-- a read that failed
ended-read : {S C Q : Type 0} (kind : Kind S C Q) (users : List User) (o : Known S C) (w : Option Words) (source0 mid source : SourceTold) (sink0 sink sink' : SinkTold) (a b : Standing S C) (answered : Bool) (bytes : List ℕ)
    → Fresh o → own b.known.base b.known.session b.known.seen ≡ b.known.own → SoFar kind users o w source0 sink0 a answered bytes source sink
    → source0.faults ≤ mid.faults → (bytes ≡ []) ⊎ IsPending bytes → NoneDue answered bytes → Rose mid.faults source.faults → b ≡ a → sink' ≡ sink → Talked kind users o w source0 sink0 b.known b.sure b.words source sink' ReadFault
ended-read kind users o w source0 mid source sink0 sink sink' a b answered bytes fresh mine s le pending none_due failed same still =
    let mine' = rw same at mine in
    rw (same, still) (talked-by kind users o a.known a.sure w a.words source0 source sink0 sink ReadFault s.input (sent kind.wire s.turns ++ s.begun) s.turns fresh mine' s.gave s.took s.are_requests s.are_turns s.on s.times (
      record {
        still_open = s.still_open;
        no_more = subst (λ b. (b ≡ []) ⊎ IsPending b) (sym s.rest_is) pending;
        due = s.begun;
        is_due = subst (λ b. Due kind.wire b s.begun) (sym s.rest_is) (due-begun kind.wire answered bytes s.begun none_due s.is_begun);
        output_is = refl;
      },
      rose-by source0.faults mid.faults source.faults le failed,
    ) s.within)

-- a write that failed: of an interim reply, of a reply, and of a fault's text
lost-interim : {S C Q : Type 0} (kind : Kind S C Q) (users : List User) (o : Known S C) (w : Option Words) (source0 source : SourceTold) (sink0 sink sink' : SinkTold) (a b : Standing S C) (answered : Bool) (bytes : List ℕ)
    → Fresh o → own b.known.base b.known.session b.known.seen ≡ b.known.own → SoFar kind users o w source0 sink0 a answered bytes source sink
    → ExpectsInterim answered bytes → b ≡ a → Lost sink sink' kind.wire.interim_text → Talked kind users o w source0 sink0 b.known b.sure b.words source sink' WriteFault
lost-interim kind users o w source0 source sink0 sink sink' a b answered bytes fresh mine s e same lost =
    let f = front-of sink sink' kind.wire.interim_text lost in
    let nothing = nothing-begun kind.wire answered bytes s.begun e.unanswered s.is_begun in
    let output : (sent kind.wire s.turns ++ s.begun) ++ f.0 ≡ sent kind.wire s.turns ++ f.0 = append_assoc (sent kind.wire s.turns) s.begun f.0 ∙ ap (λ b. sent kind.wire s.turns ++ (b ++ f.0)) nothing in
    stays-talked kind users o w source0 source sink0 sink sink' a b answered bytes f.0 WriteFault fresh mine s same f.2 (λ t. t)
    (of_interim s.still_open e.head e.holds e.expects f.0 f.1 output, rose-by sink0.faults sink.faults sink'.faults s.took.later f.3) (λ t. t)

pub prefix-behind : {A : Type 0} (xs f g : List A) → IsPrefix f g → IsPrefix (xs ++ f) (xs ++ g)
prefix-behind xs f g p = (p.0, append_assoc xs f p.0 ∙ ap (λ ys. xs ++ ys) p.1)

lost-reply : {S C Q : Type 0} (kind : Kind S C Q) (users : List User) (o : Known S C) (w : Option Words) (source0 source : SourceTold) (sink0 sink sink' : SinkTold) (a b : Standing S C) (answered : Bool) (bytes : List ℕ) (after : BufferTold)
    → GrammarLaws → Fresh o → own b.known.base b.known.session b.known.seen ≡ b.known.own → SoFar kind users o w source0 sink0 a answered bytes source sink
    → SendsReply kind users answered bytes a sink b sink' after (Some WriteFault) → a.sure ≤ b.sure → Talked kind users o w source0 sink0 b.known b.sure b.words source sink' WriteFault
lost-reply kind users o w source0 source sink0 sink sink' a b answered bytes after law fresh mine s i later =
    let text = i.answers.0 in
    let f = front-of sink sink' text i.answers.3 in
    turn-talked kind users o w source0 source sink0 sink sink' a b answered bytes i.request i.size text f.0 WriteFault law fresh mine s i.first i.none_due i.answers.1 f.2 (λ t. t)
    (of_turn (new_turn i.request i.size i.answers.1) s.turns (interim_of kind.wire i.request.head ++ f.0) refl (prefix-behind (interim_of kind.wire i.request.head) f.0 text f.1) refl, rose-by sink0.faults sink.faults sink'.faults s.took.later f.3)
    (λ t. t) later i.answers.2

lost-fault : {S C Q : Type 0} (kind : Kind S C Q) (users : List User) (o : Known S C) (w : Option Words) (source0 source : SourceTold) (sink0 sink sink' : SinkTold) (a b : Standing S C) (answered : Bool) (bytes : List ℕ) (fault : HttpFault)
    → Fresh o → own b.known.base b.known.session b.known.seen ≡ b.known.own → SoFar kind users o w source0 sink0 a answered bytes source sink
    → First bytes (Fault fault) → NoneDue answered bytes → b ≡ a → Lost sink sink' (fault_text kind.wire fault) → Talked kind users o w source0 sink0 b.known b.sure b.words source sink' WriteFault
lost-fault kind users o w source0 source sink0 sink sink' a b answered bytes fault fresh mine s first none_due same lost =
    let f = front-of sink sink' (fault_text kind.wire fault) lost in
    stays-talked kind users o w source0 source sink0 sink sink' a b answered bytes f.0 WriteFault fresh mine s same f.2 (λ t. t) (
      of_fault s.still_open fault first s.begun (s.begun ++ f.0) (due-begun kind.wire answered bytes s.begun none_due s.is_begun) (prefix-behind s.begun f.0 (fault_text kind.wire fault) f.1) (append_assoc (sent kind.wire s.turns) s.begun f.0),
      rose-by sink0.faults sink.faults sink'.faults s.took.later f.3,
    ) (λ t. t)

-- a reply that could not be kept
unkept-reply : {S C Q : Type 0} (kind : Kind S C Q) (users : List User) (o : Known S C) (w : Option Words) (source0 source : SourceTold) (sink0 sink sink' : SinkTold) (a b : Standing S C) (answered : Bool) (bytes : List ℕ) (after : BufferTold)
    → GrammarLaws → Fresh o → own b.known.base b.known.session b.known.seen ≡ b.known.own → SoFar kind users o w source0 sink0 a answered bytes source sink
    → SendsReply kind users answered bytes a sink b sink' after (Some Unkept) → a.sure ≤ b.sure → Talked kind users o w source0 sink0 b.known b.sure b.words source sink' Unkept
unkept-reply {S} {C} {Q} kind users o w source0 source sink0 sink sink' a b answered bytes after law fresh mine s i later = rw i.answers.1 (by_turn i.answers.0)
  where
    head : Head
    head = i.request.head

    begun : s.begun ≡ interim_of kind.wire head
    begun = begun-of kind.wire law answered bytes s.begun i.request i.size i.first i.none_due s.is_begun

    earlier : AreWithin kind users b.sure s.turns
    earlier = all-within-more kind users a.sure b.sure s.turns later s.within

    by_turn : TurnUnkept kind users head (is_last kind.wire a.count head) (ask_of kind users i.request) a.known a.words b.known b.words → Talked kind users o w source0 sink0 b.known b.sure b.words source sink Unkept
    by_turn (inl stays) =
        talked-by kind users o b.known b.sure w b.words source0 source sink0 sink Unkept s.input (sent kind.wire s.turns ++ s.begun) s.turns fresh mine s.gave s.took s.are_requests
        (turns-longer kind (setting o users) (length a.known.seen) (length b.known.seen) a.known.seen b.known.seen s.turns stays.on.seen (omega arith) (prefix-le a.known.seen b.known.seen stays.on.seen) s.are_turns)
        (goes-none o a.known b.known (entries s.turns) s.on stays.on) (told-or-more w a.words b.words (moments kind (setting o users) s.turns) s.times stays.told)
        (inl (record {
          still_open = s.still_open;
          request = i.request;
          size = i.size;
          first = subst (λ b. First b (Whole i.request i.size)) (sym s.rest_is) i.first;
          output_is = ap (λ b. sent kind.wire s.turns ++ b) begun;
        }))
        (inl earlier)
    by_turn (inr (text, t)) =
        let out : IsUnsent kind.wire (new_turn i.request i.size t ∷ s.turns) (sent kind.wire s.turns ++ interim_of kind.wire head) = record { turn = new_turn i.request i.size t; earlier = s.turns; turns_are = refl; output_is = refl } in
        talked-by kind users o b.known b.sure w b.words source0 source sink0 sink Unkept s.input (sent kind.wire s.turns ++ interim_of kind.wire head) (new_turn i.request i.size t ∷ s.turns) fresh mine s.gave
        (subst (λ b. Took sink0 sink (sent kind.wire s.turns ++ b)) begun s.took)
        (requests-more kind.wire s.input bytes s.turns i.request i.size s.are_requests s.still_open s.rest_is i.first)
        (turns-more kind users o a b s.turns i.request i.size text fresh.none_made s.are_turns s.last_is s.on s.count_is t)
        (goes-then o a.known b.known (entries s.turns) (listed t.wrote) s.on t.on)
        (inl (told-then w a.words b.words (moments kind (setting o users) s.turns) _ s.times t.told))
        (inr out)
        (inr (out, earlier))

-- the session, by its last step
pub talked-at : {S C Q : Type 0} (kind : Kind S C Q) (users : List User) (o : Known S C) (w : Option Words) (source0 source source' : SourceTold) (sink0 sink sink' : SinkTold) (a b : Standing S C) (before after : BufferTold) (end : End)
    → GrammarLaws → Fresh o → own b.known.base b.known.session b.known.seen ≡ b.known.own → SoFar kind users o w source0 sink0 a before.answered before.bytes source sink
    → Steps kind users before source a sink after source' b sink' (Some end) → Talked kind users o w source0 sink0 b.known b.sure b.words source' sink' end
talked-at kind users o w source0 source source' sink0 sink sink' a b before after end law fresh mine s step = by_end end step.does
  where
    bytes : List ℕ
    bytes = before.bytes ++ step.got

    read : SoFar kind users o w source0 sink0 a before.answered bytes source' sink
    read = so-far-read kind users o w source0 sink0 a before.answered before.bytes step.got source source' sink law s step.gave

    by_end : (end : End) → StepDoes kind users before.answered bytes source source' a sink b sink' after (Some end) → Talked kind users o w source0 sink0 b.known b.sure b.words source' sink' end
    by_end Ended (inl i) = ended-reply kind users o w source0 source' sink0 sink sink' a b before.answered bytes after law fresh mine read i step.later
    by_end Ended (inr e) = ended-border kind users o w source0 source' sink0 sink sink' a b before.answered bytes law fresh mine read e.0 e.1 e.2 e.3
    by_end (Bad fault) e = ended-bad kind users o w source0 source' sink0 sink sink' a b before.answered bytes fault fresh mine read e.0 e.1 e.2
    by_end ReadFault e = ended-read kind users o w source0 source source' sink0 sink sink' a b before.answered bytes fresh mine read s.gave.later e.0 e.1 e.2 e.3 e.4
    by_end WriteFault (inl e) = lost-interim kind users o w source0 source' sink0 sink sink' a b before.answered bytes fresh mine read e.0 e.1 e.2
    by_end WriteFault (inr (inl i)) = lost-reply kind users o w source0 source' sink0 sink sink' a b before.answered bytes after law fresh mine read i step.later
    by_end WriteFault (inr (inr e)) = lost-fault kind users o w source0 source' sink0 sink sink' a b before.answered bytes e.0 fresh mine read e.1 e.2 e.3 e.4
    by_end Starved e = starves-talked kind users o w source0 source' sink0 sink sink' a b before.answered bytes fresh mine read e.0 step.later e.1
    by_end Unkept i = unkept-reply kind users o w source0 source' sink0 sink sink' a b before.answered bytes after law fresh mine read i step.later
