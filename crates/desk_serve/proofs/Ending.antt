-- What is told as the lock is closed.
use Rattle.std.proofs.Common.{append-nil, ◌≡◌, ◌≢◌, ℕ, eqb, zero, suc, ◌≤◌, ◌+◌, Bool, true, false, List, [], ◌∷◌, ◌++◌, length, drop, map, ap, sym, ◌∙◌, subst, ⊎_elim, arith, if◌then◌else◌, nat_lt, eq-eqb, Option, Some, None}
use Rattle.std.proofs.lemmas.List.{length-append}
use Rattle.std.proofs.lemmas.List.Elements.{All-weaker}
use Rattle.std.specs.List.{count_by, filter}
use mathlib.Core.Option.{some, some-ne-none, some-injective}
use mathlib.Core.List.{IsPrefix}
use lib.ListN.{get_elem?}
use Rattle.cm_base.specs.declared.number.Moment.{Moment}
use Rattle.desk_model.specs.declared.entry.Entry.{Entry}
use Rattle.desk_model.specs.Histories.{History, own, is_by, IsLegal, IsNumbered}
use Rattle.desk_lock.specs.Numbers.{names, IsIn}
use Rattle.desk_lock.specs.Seats.{longer}
use Rattle.desk_lock.specs.Words.{LockView, PassView, IsOf, Retired, Closes}
use Rattle.talk.specs.declared.end.End.{End}
use Rattle.talk.specs.Session.{Setting, Session}
use Rattle.talk.specs.Settled.{ShowsWithin}
use Rattle.talk.specs.Talked.{rose}
use Rattle.desk_serve.specs.declared.ended.Ended.{Ended}
use Rattle.desk_serve.specs.Sessions.{Terms, Taken, EndsFor, IsServed, Closed, setting_of, number_of, is_at}
use Rattle.desk_serve.specs.declared.ended.HostEnd.{HostEnd}
use Rattle.outside.specs.Hosts.{HostTold}
use Rattle.desk_serve.specs.Keeping.{IsNoted, IsFresh, Keeps, IsDone, IsStopped, IsOverAll}
use Rattle.desk_serve.proofs.Lists.{prefix_trans, begin_longer, get_left, get_mid, at_append, names_append}
use Rattle.desk_serve.proofs.Settling.{SettledSession, below_greater}
use Rattle.desk_serve.proofs.Noting.{kept_note}

abbrev one_if : Bool → ℕ
one_if true = 1
one_if false = 0

module _ {C : Type 0} where
  picked : (b : Bool) (x : Entry C) (l : List (Entry C)) → b ≡ true → (if b then x ∷ l else l) ≢ []
  picked true x l e none = absurd (let h = ap length none in omega arith)
  picked false x l e none = absurd (let h : 0 ≡ 1 = ap one_if e in omega arith)

  rest_of : (b : Bool) (x : Entry C) (l : List (Entry C)) → (if b then x ∷ l else l) ≡ [] → l ≡ []
  rest_of true x l e = absurd (let h = ap length e in omega arith)
  rest_of false x l e = e

  -- who has an entry has one
  has_one : (h : List (Entry C)) (k : ℕ) (e : Entry C) → get_elem? h k ≡ some e → filter (is_by e.session) h ≢ []
  has_one [] k e at none = absurd (some-ne-none e (sym at))
  has_one (x ∷ h) zero e at none = picked (eqb x.session e.session) x (filter (is_by e.session) h) (eq-eqb x.session e.session (ap (λ (y : Entry C). y.session) (some-injective x e at))) none
  has_one (x ∷ h) (suc k) e at none = has_one h k e at (rest_of (eqb x.session e.session) x (filter (is_by e.session) h) none)

module _ {S C Q L K : Type 0} (t : Terms S C Q L K) where
  -- what a session was over a history it is over each longer one in which its own entries are the same
  abbrev pub Stands : Type 0
  Stands = (at : Setting S) (after : ℕ) (g h : List (Entry C)) (input : List ℕ) (over : Bool) (output : List ℕ) (times : List Moment) (read_failed write_failed : Bool) (end : End)
      (s : Session t.kind at after g input over output times read_failed write_failed end) → IsPrefix g h → own 0 at.number h ≡ own 0 at.number g
      → (u : Session t.kind at after h input over output times read_failed write_failed end) × (u.turns ≡ s.turns)

module _ {S C Q L K : Type 0} (t : Terms S C Q L K) (l : LockView S C K) (stands : Stands t) where
  serves : (p : PassView S C) (last : History S C) → l.version.journal ≡ [] → IsOf t.kind.next l p → Closes l p last → (x : Ended L) → IsNoted t p x → IsServed t l.version.opening last.journal p.sure x
  serves p last empty of_ c x n =
      let s = n.served in
      let base : length l.version.journal ≡ 0 = ap length empty in
      let grows = prefix_trans n.history p.known.seen last.journal n.seen c.seen in
      let now : own 0 x.number last.journal ≡ n.mine = ap (λ (b : ℕ). own b x.number last.journal) (sym base) ∙ c.ended n.at (x.number, n.mine) n.tallied in
      let there = stands (setting_of p.known.opening t.users x) x.after n.history last.journal s.input (t.source x.link).ended s.output s.times (rose (t.source s.from).faults (t.source x.link).faults) (rose (t.sink s.from).faults (t.sink x.link).faults) x.outcome s.session grows (now ∙ sym n.owns) in
      let whole = subst (λ (o : S). SettledSession t (setting_of o t.users x) x.after last.journal p.sure s.input (t.source x.link).ended s.output s.times (rose (t.source s.from).faults (t.source x.link).faults) (rose (t.sink s.from).faults (t.sink x.link).faults) x.outcome) of_.opening
      (there.0, subst (λ ts. ShowsWithin t.kind t.users p.sure ts s.output x.outcome) (sym there.1) s.settled) in
      record {
        from = s.from;
        given = s.given;
        was_new = s.was_new;
        input = s.input;
        output = s.output;
        times = s.times;
        gave = s.gave;
        took = s.took;
        session = whole.0;
        settled = whole.1;
        kept = s.kept;
      }

  covers : (p : PassView S C) (last : History S C) (ended : List (Ended L)) (rest : List ℕ) → l.version.journal ≡ [] → Closes l p last → p.known.own ≡ [] → names p.ended ≡ map number_of ended ++ rest
      → ((n : ℕ) → IsIn n rest → (j : ℕ) × (get_elem? p.ended j ≡ some (n, [])))
      → (k : ℕ) (e : Entry C) → get_elem? last.journal k ≡ some e → (i : ℕ) → get_elem? (p.known.session ∷ names p.ended) i ≡ some e.session → IsIn e.session (map number_of ended)
  covers p last ended rest empty c idle numbers resting k e at zero is =
      let same : p.known.session ≡ e.session = some-injective p.known.session e.session is in
      let base : length l.version.journal ≡ 0 = ap length empty in
      absurd (has_one last.journal k e at (ap (λ (m : ℕ). own 0 m last.journal) (sym same) ∙ (ap (λ (b : ℕ). own b p.known.session last.journal) (sym base) ∙ (c.mine ∙ idle))))
  covers p last ended rest empty c idle numbers resting k e at (suc i) is =
      let base : length l.version.journal ≡ 0 = ap length empty in
      ⊎_elim (λ (u : get_elem? (map number_of ended) i ≡ some e.session). (i, u))
      (λ (u : (k : ℕ) × (get_elem? rest k ≡ some e.session)).
      let j = resting e.session u in
      absurd (has_one last.journal k e at (ap (λ (b : ℕ). own b e.session last.journal) (sym base) ∙ c.ended j.0 (e.session, []) j.1)))
      (at_append (map number_of ended) rest i e.session (ap (λ m. get_elem? m i) (sym numbers) ∙ is))

  pub closed : (p : PassView S C) (last : History S C) (ended : List (Ended L)) → IsDone t l p ended → Closes l p last → IsLegal t.kind.next last.opening last.journal → Closed t l.version.opening last p.sure ended
  closed p last ended d c lawful =
      let base : length l.version.journal ≡ 0 = ap length d.empty in
      record {
        opening_is = c.opening;
        lawful = subst (λ o. IsLegal t.kind.next o last.journal) c.opening lawful;
        serials = subst (λ (b : ℕ). IsNumbered b last.journal) base c.serials;
        numbers = (λ i j n a b.
            let up = λ (k : ℕ) (q : get_elem? (map number_of ended) k ≡ some n). ap (λ m. get_elem? m k) d.numbers ∙ get_left (map number_of ended) d.rest k n q in
            let e : suc i ≡ suc j = c.apart (suc i) (suc j) n (up i a) (up j b) in omega arith);
        sessions = (λ k e at. let q = c.all k e (ap (λ (b : ℕ). get_elem? (drop b last.journal) k) base ∙ at) in covers p last ended d.rest d.empty c d.idle d.numbers d.resting k e at q.0 q.1);
        places = d.places;
        served = All-weaker (IsNoted t p) (IsServed t l.version.opening last.journal p.sure) (serves p last d.empty d.is_of c) ended d.noted;
      }

module _ {S C Q L K : Type 0} (t : Terms S C Q L K) (l : LockView S C K) where
  all_places : (ended : List (Ended L)) (held : ℕ → ℕ) (n : ℕ) → ((k : ℕ) → held k ≡ 0) → length ended + 0 ≡ n → ((place : ℕ) → count_by (is_at place) ended + held place ≡ (if nat_lt place n then 1 else 0)) → (place : ℕ) → count_by (is_at place) ended ≡ (if nat_lt place (length ended) then 1 else 0)
  all_places ended held n none total places place = (let z = none place in let a : count_by (is_at place) ended ≡ count_by (is_at place) ended + held place = omega arith in a) ∙ (places place ∙ ap (λ (m : ℕ). if nat_lt place m then 1 else 0) (let e : n ≡ length ended = omega arith in e))

  -- every pass got a link
  pub done : (p : PassView S C) (ended : List (Ended L)) (held : ℕ → ℕ) (n : ℕ) → ((k : ℕ) → held k ≡ 0) → Keeps t l p ended held 0 0 n → IsDone t l p ended
  done p ended held n none k = record {
    empty = k.empty;
    is_of = k.is_of;
    idle = k.idle;
    made = (let m = k.made in omega arith);
    rest = [];
    numbers = sym k.numbers ∙ sym (append-nil (map number_of ended));
    resting = (λ n i. absurd (some-ne-none n (sym i.1)));
    noted = k.noted;
    places = all_places ended held n none k.total k.places;
  }

  only : (m n : ℕ) (k : ℕ) → get_elem? (m ∷ []) k ≡ some n → m ≡ n
  only m n zero e = some-injective m n e
  only m n (suc k) e = absurd (some-ne-none n (sym e))

  -- the pass that got none was retired
  pub done_with : (p r q : PassView S C) (ended : List (Ended L)) (held : ℕ → ℕ) (n : ℕ) → ((k : ℕ) → held k ≡ 0) → Keeps t l p ended held 0 1 n → IsFresh t.kind.next l r → IsOf t.kind.next l q → Retired p r q → IsDone t l q ended
  done_with p r q ended held n none k fresh of_ retired =
      let same = retired.1 in
      let ends : q.ended ≡ p.ended ++ (r.known.session, []) ∷ [] = ap (λ (y : PassView S C). y.ended) same ∙ ap (λ (y : List (Entry C) × List (ℕ × List (Entry C))). p.ended ++ (r.known.session, y.0) ∷ y.1) (λ i. (fresh.own i, fresh.ended i)) in
      let seen : q.known.seen ≡ longer p.known.seen r.known.seen = ap (λ (y : PassView S C). y.known.seen) same in
      let grows : IsPrefix p.known.seen q.known.seen = subst (λ g. IsPrefix p.known.seen g) (sym seen) (begin_longer p.known.seen r.known.seen retired.0).0 in
      let later : p.sure ≤ q.sure = (let s = ap (λ (y : PassView S C). y.sure) same in let a = (below_greater p.sure r.sure).0 in omega arith) in
      record {
        empty = k.empty;
        is_of = of_;
        idle = ap (λ (y : PassView S C). y.known.own) same ∙ k.idle;
        made = (let a = ap (λ (y : PassView S C). y.made) same in let b = ap length ends in let m = k.made in omega (arith, length-append p.ended ((r.known.session, []) ∷ [])));
        rest = r.known.session ∷ [];
        numbers = ap names ends ∙ (names_append p.ended ((r.known.session, []) ∷ []) ∙ ap (λ e. e ++ r.known.session ∷ []) (sym k.numbers));
        resting = (λ n i. (length p.ended, ap (λ e. get_elem? e (length p.ended)) ends ∙ (get_mid p.ended [] (r.known.session, []) ∙ ap (λ (m : ℕ). some (m, [])) (only r.known.session n i.0 i.1))));
        noted = All-weaker (IsNoted t p) (IsNoted t q) (kept_note t p q ((r.known.session, []) ∷ []) (ap (λ (y : PassView S C). y.known.opening) same) grows later ends) ended k.noted;
        places = all_places ended held n none k.total k.places;
      }

  over_all : (p q : PassView S C) (ended : List (Ended L)) (host host' : HostTold) (left' : Option (List L)) (end : HostEnd) (n : ℕ) → length ended ≡ n → IsDone t l q ended → Taken host t.links host' left' n → EndsFor host host' left' n end → IsOverAll t l q ended host host' left' end
  over_all p q ended host host' left' end n total d taken ends = record {
    done = d;
    taken = subst (λ (m : ℕ). Taken host t.links host' left' m) (sym total) taken;
    ends = subst (λ (m : ℕ). EndsFor host host' left' m end) (sym total) ends;
  }

  -- every pass got a link
  pub over : (p : PassView S C) (ended : List (Ended L)) (held : ℕ → ℕ) (host host' : HostTold) (left' : Option (List L)) (end : HostEnd) → ((k : ℕ) → held k ≡ 0) → IsStopped t l p ended held 0 host host' left' None end → IsOverAll t l p ended host host' left' end
  over p ended held host host' left' end none s = let total : length ended ≡ s.n = (let m = s.keeps.total in omega arith) in
      over_all p p ended host host' left' end s.n total (done p ended held s.n none s.keeps) s.taken s.ends

  -- the pass that got none was taken in
  pub over_with : (p r q : PassView S C) (ended : List (Ended L)) (held : ℕ → ℕ) (host host' : HostTold) (left' : Option (List L)) (end : HostEnd) → ((k : ℕ) → held k ≡ 0) → IsStopped t l p ended held 0 host host' left' (Some r) end → IsOf t.kind.next l q → Retired p r q → IsOverAll t l q ended host host' left' end
  over_with p r q ended held host host' left' end none s of_ retired = let k = s.keeps.0 in let total : length ended ≡ s.n = (let m = k.total in omega arith) in
      over_all p q ended host host' left' end s.n total (done_with p r q ended held s.n none k s.keeps.1 of_ retired) s.taken s.ends

  -- a session more has ended, and the pass that got no link is still out
  pub fewer : (p q : PassView S C) (ended ended' : List (Ended L)) (held held' : ℕ → ℕ) (running running' : ℕ) (host host' : HostTold) (left' : Option (List L)) (spare : Option (PassView S C)) (end : HostEnd)
      → ((spare n : ℕ) → Keeps t l p ended held running spare n → Keeps t l q ended' held' running' spare n) → IsStopped t l p ended held running host host' left' spare end → IsStopped t l q ended' held' running' host host' left' spare end
  fewer p q ended ended' held held' running running' host host' left' None end step s = record { n = s.n; taken = s.taken; ends = s.ends; keeps = step 0 s.n s.keeps }
  fewer p q ended ended' held held' running running' host host' left' (Some r) end step s = record { n = s.n; taken = s.taken; ends = s.ends; keeps = (step 1 s.n s.keeps.0, s.keeps.1) }

  -- whose pass it is, whoever has got a link
  pub own_pass : (p : PassView S C) (ended : List (Ended L)) (held : ℕ → ℕ) (running : ℕ) (host host' : HostTold) (left' : Option (List L)) (spare : Option (PassView S C)) (end : HostEnd) → IsStopped t l p ended held running host host' left' spare end → IsOf t.kind.next l p
  own_pass p ended held running host host' left' None end s = s.keeps.is_of
  own_pass p ended held running host host' left' (Some r) end s = s.keeps.0.is_of
