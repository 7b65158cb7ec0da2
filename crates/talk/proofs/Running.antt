-- A session of the first pass of a desk that begins with an opening is the session alone.
use Rattle.std.proofs.Common.{IfSome, ◌≡◌, ◌≢◌, ℕ, Bool, true, List, [], ◌∷◌, ◌++◌, Option, Some, None, Result, length, drop, refl, sym, ◌∙◌, subst, inl, inr}
use Rattle.std.specs.Io.KnownBytes.{prepend_known, IsAtEnd}
use mathlib.Core.List.{IsPrefix}
use Rattle.outside.specs.Clocks.{Words, rest_words}
use Rattle.outside.specs.Outside.{SourceTold, SinkTold, Gave}
use Rattle.cm_base.specs.declared.number.Moment.{Moment}
use Rattle.cm_base.specs.declared.user.User.{User}
use Rattle.desk_model.specs.declared.entry.Entry.{Entry}
use Rattle.desk_model.specs.Histories.{own, SessionsBelow}
use Rattle.desk_model.specs.Desks.{Known}
use Rattle.desk_model.specs.Single.{Single, IsOf}
use Rattle.talk.specs.declared.end.End.{End}
use Rattle.talk.specs.declared.end.End.TheVariants.{Ended, Bad, ReadFault, WriteFault, Starved, Unkept}
use Rattle.talk.specs.Served.{Kind}
use Rattle.talk.specs.Session.{Session}
use Rattle.talk.specs.Told.{Gives, ToldOrOneMore}
use Rattle.talk.specs.Turned.{setting}
use Rattle.talk.specs.Talked.{Talked, TakesWords, IfUnkept, rose}
use Rattle.talk.specs.Alone.{Alone, IsFinal, alone_at}
use Rattle.talk.specs.Ran.{RunAlone, IsAloneOnGiven}
use Rattle.talk.proofs.ListFacts.{below-one}
use Rattle.talk.proofs.WireLaws.{GrammarLaws, FrontLaws}
use Rattle.talk.proofs.FromSession.{session-given, session-alone, session-cut-off}
use Rattle.talk.proofs.Fronts.{lost-front}
use Rattle.talk.proofs.Alones.{gives-split}
use Rattle.talk.proofs.Losing.{lost-given, starved-given}

gives-end : (u : Words) (xs : List Moment) (w : Option Words) → Gives u xs w → (v : Words) × Gives u xs (Some v)
gives-end u [] w h = (u, refl)
gives-end u (x ∷ xs) w h = (let r = gives-end (rest_words u) xs w h.1 in (r.0, (h.0, r.1)))

-- the words that were taken, with one more or none
gives-so-far : (u : Words) (xs : List Moment) (w : Option Words) → ToldOrOneMore (Some u) xs w → (v : Words) × Gives u xs (Some v)
gives-so-far u xs w (inl h) = gives-end u xs w h
gives-so-far u xs w (inr x) = (let split = gives-split u xs (x.0 ∷ []) w x.1 in (split.0, split.1))

some-is : {A : Type 0} (o : Option A) (P : A → Type 0) → ((a : A) → o ≡ Some a → P a) → IfSome o P
some-is None P f = tt
some-is (Some a) P f = f a refl

-- where a text was given of what was left, more is left
some-more : (given left : List ℕ) (o : Option (List ℕ)) → Some left ≡ prepend_known given o → (more : List ℕ) × (o ≡ Some more) × (left ≡ given ++ more)
some-more given left None e = absurd (cc)
some-more given left (Some more) e = (more, refl, cc)

-- what has ended has nothing left
none-left : (source : SourceTold) (more : List ℕ) → (source.ended ≡ true → IsAtEnd source.left) → source.left ≡ Some more → source.ended ≡ true → more ≡ []
none-left source more law is over = subst IsAtEnd is (law over)

-- the words of an end that is not for want of memory
final-gives : (end : End) (words : Words) (times : List Moment) (after : Option Words) → IsFinal end → TakesWords end (Some words) times after → Gives words times after
final-gives Ended words times after final told = told
final-gives (Bad fault) words times after final told = told
final-gives ReadFault words times after final told = absurd final
final-gives WriteFault words times after final told = absurd final
final-gives Starved words times after final told = absurd final
final-gives Unkept words times after final told = absurd final

-- each reply was kept
all-kept : (end : End) → IfUnkept end ⊥ → end ≢ Unkept
all-kept Ended h e = cc
all-kept (Bad fault) h e = cc
all-kept ReadFault h e = cc
all-kept WriteFault h e = cc
all-kept Starved h e = cc
all-kept Unkept h e = h

on-given : {S C Q : Type 0} (kind : Kind S C Q) (opening : S) (users : List User) (words : Words) (after : Option Words) (h : List (Entry C)) (input output : List ℕ) (over : Bool) (times : List Moment) (read_failed write_failed : Bool) (end : End)
    → GrammarLaws → Session kind (alone_at opening users) (length h) h input over output times read_failed write_failed end → own 0 0 h ≡ h → TakesWords end (Some words) times after → IfUnkept end ⊥
    → IsAloneOnGiven kind opening users words input output write_failed h end
on-given kind opening users words after h input output over times read_failed write_failed Ended law s mine told kept =
    let v = gives-end words times after told in
    session-given kind opening users (length h) h input over output times read_failed write_failed Ended words v.0 s mine v.1 tt
on-given kind opening users words after h input output over times read_failed write_failed (Bad fault) law s mine told kept =
    let v = gives-end words times after told in
    session-given kind opening users (length h) h input over output times read_failed write_failed (Bad fault) words v.0 s mine v.1 tt
on-given kind opening users words after h input output over times read_failed write_failed ReadFault law s mine told kept =
    let v = gives-end words times after told in
    session-cut-off kind opening users (length h) h input over output times read_failed write_failed words v.0 law s mine v.1
on-given kind opening users words after h input output over times read_failed write_failed WriteFault law s mine told kept =
    let v = gives-end words times after told in
    lost-given kind opening users (length h) h input over output times read_failed write_failed words v.0 s mine v.1
on-given kind opening users words after h input output over times read_failed write_failed Starved law s mine told kept =
    let v = gives-so-far words times after told in
    starved-given kind opening users (length h) h input over output times read_failed write_failed words v.0 s mine v.1
on-given kind opening users words after h input output over times read_failed write_failed Unkept law s mine told kept = absurd kept

on-all : {S C Q : Type 0} (kind : Kind S C Q) (opening : S) (users : List User) (words : Words) (after : Option Words) (h : List (Entry C)) (input output left : List ℕ) (source source' : SourceTold) (times : List Moment) (read_failed write_failed : Bool) (end : End)
    → GrammarLaws → Session kind (alone_at opening users) (length h) h input source'.ended output times read_failed write_failed end → own 0 0 h ≡ h → TakesWords end (Some words) times after
    → Gave source source' input → (source'.ended ≡ true → IsAtEnd source'.left) → IsFinal end → source.left ≡ Some left → Alone kind opening users words left output end h
on-all kind opening users words after h input output left source source' times read_failed write_failed end law s mine told gave empty final is =
    let v = gives-end words times after (final-gives end words times after final told) in
    let m = some-more input left source'.left (sym is ∙ gave.left) in
    subst (λ left. Alone kind opening users words left output end h) (sym m.2)
    (session-alone kind opening users (length h) h input m.0 source'.ended output times read_failed write_failed end words v.0 law s mine v.1 (none-left source' m.0 empty m.1) final)

on-lost : {S C Q : Type 0} (kind : Kind S C Q) (opening : S) (users : List User) (words : Words) (after : Option Words) (h g : List (Entry C)) (input output left o : List ℕ) (source source' : SourceTold) (times : List Moment) (read_failed write_failed : Bool) (end stop : End)
    → FrontLaws → GrammarLaws → Session kind (alone_at opening users) (length h) h input source'.ended output times read_failed write_failed end → own 0 0 h ≡ h → TakesWords end (Some words) times after
    → Gave source source' input → end ≡ WriteFault → source.left ≡ Some left → Alone kind opening users words left o stop g → IsPrefix output o
on-lost kind opening users words after h g input output left o source source' times read_failed write_failed end stop front law s mine told gave lost is a =
    let s' = subst (λ e. Session kind (alone_at opening users) (length h) h input source'.ended output times read_failed write_failed e) lost s in
    let v = gives-end words times after (subst (λ e. TakesWords e (Some words) times after) lost told) in
    let m = some-more input left source'.left (sym is ∙ gave.left) in
    lost-front kind opening users words v.0 (length h) h g input m.0 source'.ended output o times read_failed write_failed stop front law s' mine v.1
    (subst (λ left. Alone kind opening users words left o stop g) m.2 a)

same-alone : {S C : Type 0} (opening : S) (users : List User) (k : Known S C) → k.opening ≡ opening → k.session ≡ 0 → k.seen ≡ [] → setting k users ≡ alone_at opening users
same-alone opening users k o c s = λ i. record { opening = o i; users = users; number = c i; before = length (s i) }

all-own : {C : Type 0} (b c : ℕ) (h : List (Entry C)) → b ≡ 0 → c ≡ 1 → SessionsBelow c (drop b h) → own 0 0 h ≡ h
all-own b c h is one below = below-one h (rw (is, one) at below)

pub run-alone : {S C Q : Type 0} (kind : Kind S C Q) (opening : S) (users : List User) (k l : Known S C) (sure : ℕ) (words after : Option Words) (source source' : SourceTold) (sink sink' : SinkTold) (sessions : ℕ) (end : End)
    → FrontLaws → GrammarLaws → (now : Option Words) → Talked kind users k now source sink l sure after source' sink' end → IfUnkept end ⊥ → now ≡ words
    → k.opening ≡ opening → k.base ≡ 0 → k.session ≡ 0 → k.seen ≡ [] → sessions ≡ 1 → SessionsBelow sessions (drop l.base l.seen)
    → (source'.ended ≡ true → IsAtEnd source'.left)
    → RunAlone kind opening users words source sink source' sink' end l.seen after
run-alone {S} {C} {Q} kind opening users k l sure words after source source' sink sink' sessions end front law now talked kept at o b c none one below empty = record {
  input = t.input;
  output = t.output;
  times = t.times;
  gave = t.gave;
  took = t.took;
  told = t.told;
  kept = all-kept end kept;
  all_own = mine;
  session = session;
  on_given = some-is words _ (λ w is. on-given kind opening users w after l.seen t.input t.output source'.ended t.times (rose source.faults source'.faults) (rose sink.faults sink'.faults) end law session mine (told w is) kept);
  on_all = λ final. some-is words _ (λ w is. some-is source.left _ (λ left there. on-all kind opening users w after l.seen t.input t.output left source source' t.times (rose source.faults source'.faults) (rose sink.faults sink'.faults) end law session mine (told w is) t.gave empty final there));
  on_lost = λ lost. some-is words _ (λ w is. some-is source.left _ (λ left there. λ o stop g a. on-lost kind opening users w after l.seen g t.input t.output left o source source' t.times (rose source.faults source'.faults) (rose sink.faults sink'.faults) end stop front law session mine (told w is) t.gave lost there a));
}
  where
    t : Talked kind users k words source sink l sure after source' sink' end
    t = subst (λ w. Talked kind users k w source sink l sure after source' sink' end) at talked

    mine : own 0 0 l.seen ≡ l.seen
    mine = all-own l.base sessions l.seen (t.base ∙ b) one below

    session : Session kind (alone_at opening users) (length l.seen) l.seen t.input source'.ended t.output t.times (rose source.faults source'.faults) (rose sink.faults sink'.faults) end
    session = subst (λ at. Session kind at (length l.seen) l.seen t.input source'.ended t.output t.times (rose source.faults source'.faults) (rose sink.faults sink'.faults) end) (same-alone opening users k o c none) t.session

    told : (w : Words) → words ≡ Some w → TakesWords end (Some w) t.times after
    told w is = subst (λ o. TakesWords end o t.times after) is t.told

-- where only one pass was made, it has seen the whole journal
own-at : {C : Type 0} (b n : ℕ) (h : List (Entry C)) → b ≡ 0 → n ≡ 0 → own b n h ≡ own 0 0 h
own-at b n h e f = λ i. own (e i) (f i) h

pub whole-seen : {S C A X : Type 0} (next : S → Entry C → Result (S × A) X) (d : Single S C) (p : Known S C) → IsOf next d p → d.made ≡ 1 → p.base ≡ 0 → p.session ≡ 0 → p.seen ≡ d.journal
whole-seen next d p of one base session =
    sym (all-own p.base d.made p.seen base one of.below)
    ∙ (sym (own-at p.base p.session p.seen base session)
    ∙ (of.sound.mine
    ∙ (sym of.all
    ∙ (own-at p.base p.session d.journal base session
    ∙ all-own d.base d.made d.journal (sym of.base ∙ base) one of.few))))

-- the journal and the words by other names
pub leaves : {S C Q : Type 0} (kind : Kind S C Q) (opening : S) (users : List User) (words : Option Words) (source source' : SourceTold) (sink sink' : SinkTold) (end : End) (j h : List (Entry C)) (a b : Option Words)
    → j ≡ h → a ≡ b → RunAlone kind opening users words source sink source' sink' end j a → RunAlone kind opening users words source sink source' sink' end h b
leaves kind opening users words source source' sink sink' end j h a b e f ran =
    subst (λ j. RunAlone kind opening users words source sink source' sink' end j b) e (subst (λ a. RunAlone kind opening users words source sink source' sink' end j a) f ran)
