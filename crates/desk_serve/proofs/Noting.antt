-- The calling thread's pass makes others, and takes in those of sessions that are over.
use Rattle.std.proofs.Common.{◌≡◌, ◌≢◌, ℕ, suc, ◌<◌, ◌≤◌, ◌+◌, List, [], ◌∷◌, ◌++◌, length, map, refl, ap, sym, ◌∙◌, subst, arith, append-nil, All, None}
use Rattle.std.proofs.lemmas.List.{length-append, length-map, map-append}
use Rattle.std.proofs.lemmas.List.Elements.{All-push, All-weaker, All-nil}
use Rattle.std.specs.List.{count_by}
use mathlib.Core.Option.{some}
use mathlib.Core.List.{IsPrefix}
use lib.ListN.{get_elem?}
use Rattle.cm_base.specs.declared.user.User.{User}
use Rattle.desk_model.specs.declared.entry.Entry.{Entry}
use Rattle.desk_model.specs.Histories.{own}
use Rattle.desk_lock.specs.Numbers.{names, most_passes}
use Rattle.desk_lock.specs.Seats.{longer, greater}
use Rattle.desk_lock.specs.Words.{HasFailed, LockView, PassView, IsOf, Retired, with_one_more, made_by, first_pass}
use Rattle.talk.specs.declared.end.End.{End}
use Rattle.talk.specs.declared.end.End.TheVariants.{Unkept}
use Rattle.talk.specs.Session.{Setting}
use Rattle.talk.specs.Talked.{rose, IfUnkept}
use Rattle.desk_serve.specs.declared.ended.Ended.{Ended}
use Rattle.outside.specs.Hosts.{IsNew}
use Rattle.desk_serve.specs.Sessions.{Terms, IsGiven, IsServed, setting_of, number_of, is_at, most_links}
use Rattle.desk_serve.specs.Keeping.{IsHeld, IsNoted, IsFresh, Keeps, Runs, IsOver, without_links, and_at}
use Rattle.desk_serve.proofs.Settling.{SettledSession, served_more, below_greater}
use Rattle.desk_serve.proofs.Lists.{prefix_trans, begin_longer, get_left, get_mid, names_append, count_ended, one_more, none_below}

-- a count that is always 0 doesn't rise
never_failed : {K : Type 0} → HasFailed {K = K} (λ k. 0) → ⊥
never_failed f = absurd (let h = f.rose in omega arith)

-- over a keeper whose count is always 0 no session ends for a reply that could not be kept
pub all_kept : (K : Type 0) (end : End) → IfUnkept end (HasFailed {K = K} (λ k. 0)) → end ≢ Unkept
all_kept K end h is = never_failed {K = K} (subst (λ (e : End). IfUnkept e (HasFailed {K = K} (λ k. 0))) is h)

module _ {S C Q L K : Type 0} (t : Terms S C Q L K) where
  -- what is noted stays so as the pass sees more and takes in more
  pub kept_note : (p q : PassView S C) (more : List (ℕ × List (Entry C))) → q.known.opening ≡ p.known.opening → IsPrefix p.known.seen q.known.seen → p.sure ≤ q.sure → q.ended ≡ p.ended ++ more → (x : Ended L) → IsNoted t p x → IsNoted t q x
  kept_note p q more opens grows later ends x n = record {
    history = n.history;
    mine = n.mine;
    at = n.at;
    seen = prefix_trans n.history p.known.seen q.known.seen n.seen grows;
    tallied = ap (λ l. get_elem? l n.at) ends ∙ get_left p.ended more n.at (x.number, n.mine) n.tallied;
    owns = n.owns;
    served = subst (λ o. IsServed t o n.history q.sure x) (sym opens) (served_more t p.known.opening n.history p.sure q.sure x later n.served);
  }

  kept_notes : (p q : PassView S C) (more : List (ℕ × List (Entry C))) (ended : List (Ended L)) → q.known.opening ≡ p.known.opening → IsPrefix p.known.seen q.known.seen → p.sure ≤ q.sure → q.ended ≡ p.ended ++ more → All (IsNoted t p) ended → All (IsNoted t q) ended
  kept_notes p q more ended opens grows later ends all = All-weaker (IsNoted t p) (IsNoted t q) (kept_note p q more opens grows later ends) ended all

module _ {S C Q L K : Type 0} (t : Terms S C Q L K) (l : LockView S C K) where
  -- the session that is over, as a note over what its pass has seen
  served_one : (r : PassView S C) (x : Ended L) (o : S) → IsHeld t l x.place x.before r x.link x.outcome → l.version.opening ≡ o → x.number ≡ r.known.session → x.after ≡ length r.known.seen → IsServed t o r.known.seen r.sure x
  served_one r x o h opens number after =
      let said = h.over.talked in
      let opening : h.pass.known.opening ≡ o = sym said.opening ∙ (h.over.is_of.opening ∙ opens) in
      let session : h.pass.known.session ≡ x.number = sym said.number ∙ sym number in
      let whole = subst (λ (m : ℕ). SettledSession t (setting_of o t.users x) m r.known.seen r.sure said.input (t.source x.link).ended said.output said.times (rose (t.source h.from).faults (t.source x.link).faults) (rose (t.sink h.from).faults (t.sink x.link).faults) x.outcome) (sym after)
      (subst (λ (s : Setting S). SettledSession t s (length r.known.seen) r.known.seen r.sure said.input (t.source x.link).ended said.output said.times (rose (t.source h.from).faults (t.source x.link).faults) (rose (t.sink h.from).faults (t.sink x.link).faults) x.outcome)
      (λ i. record { opening = opening i; users = t.users; number = session i; before = sym h.before_is i }) (said.session, said.settled)) in
      record {
        from = h.from;
        given = h.given;
        was_new = h.was_new;
        input = said.input;
        output = said.output;
        times = said.times;
        gave = said.gave;
        took = said.took;
        session = whole.0;
        settled = whole.1;
        kept = h.over.kept;
      }

  pub noted_one : (p r q : PassView S C) (ended ended' : List (Ended L)) (x : Ended L) (held : ℕ → ℕ) (running spare n : ℕ)
      → IsHeld t l x.place x.before r x.link x.outcome → x.number ≡ r.known.session → x.after ≡ length r.known.seen
      → IsOf t.kind.next l q → Retired p r q → ended' ≡ ended ++ x ∷ [] → Keeps t l p ended (and_at x.place held) (running + 1) spare n → Keeps t l q ended' held running spare n
  noted_one p r q ended ended' x held running spare n h number after of_ retired is k =
      let same = retired.1 in
      let ends : q.ended ≡ p.ended ++ (r.known.session, r.known.own) ∷ [] = ap (λ (y : PassView S C). y.ended) same ∙ ap (λ e. p.ended ++ (r.known.session, r.known.own) ∷ e) h.over.ended in
      let seen : q.known.seen ≡ longer p.known.seen r.known.seen = ap (λ (y : PassView S C). y.known.seen) same in
      let begins = begin_longer p.known.seen r.known.seen retired.0 in
      let grows : IsPrefix p.known.seen q.known.seen = subst (λ g. IsPrefix p.known.seen g) (sym seen) begins.0 in
      let there : IsPrefix r.known.seen q.known.seen = subst (λ g. IsPrefix r.known.seen g) (sym seen) begins.1 in
      let opens : q.known.opening ≡ p.known.opening = ap (λ (y : PassView S C). y.known.opening) same in
      let sure : q.sure ≡ greater p.sure r.sure = ap (λ (y : PassView S C). y.sure) same in
      let later : p.sure ≤ q.sure = (let a = (below_greater p.sure r.sure).0 in omega arith) in
      let there_sure : r.sure ≤ q.sure = (let a = (below_greater p.sure r.sure).1 in omega arith) in
      let base : r.known.base ≡ 0 = h.over.is_of.base ∙ ap length k.empty in
      let one : IsNoted t q x = record {
        history = r.known.seen;
        mine = r.known.own;
        at = length p.ended;
        seen = there;
        tallied = ap (λ e. get_elem? e (length p.ended)) ends ∙ (get_mid p.ended [] (r.known.session, r.known.own) ∙ ap (λ (m : ℕ). some (m, r.known.own)) (sym number));
        owns = ap (λ (m : ℕ). own 0 m r.known.seen) number ∙ (ap (λ (b : ℕ). own b r.known.session r.known.seen) (sym base) ∙ h.over.is_of.sound.mine);
        served = served_more t q.known.opening r.known.seen r.sure q.sure x there_sure (served_one r x q.known.opening h (sym of_.opening) number after);
      } in
      record {
        empty = k.empty;
        is_of = of_;
        idle = ap (λ (y : PassView S C). y.known.own) same ∙ k.idle;
        made = (let a = ap (λ (y : PassView S C). y.made) same in let b = ap length ends in let m = k.made in omega (arith, length-append p.ended ((r.known.session, r.known.own) ∷ [])));
        numbers = ap (map number_of) is ∙ (map-append number_of ended (x ∷ []) ∙ (ap (λ e. e ++ x.number ∷ []) k.numbers ∙ (ap (λ (m : ℕ). names p.ended ++ m ∷ []) number ∙ (sym (names_append p.ended ((r.known.session, r.known.own) ∷ [])) ∙ ap names (sym ends)))));
        noted = subst (All (IsNoted t q)) (sym is) (All-push (IsNoted t q) ended x (kept_notes t p q ((r.known.session, r.known.own) ∷ []) ended opens grows later ends k.noted) one);
        total = (let a = ap length is in let m = k.total in omega (arith, length-append ended (x ∷ [])));
        places = λ place. (let a = ap (count_by (is_at place)) is ∙ count_ended place ended x in let m = k.places place in
            sym (omega arith) ∙ m);
      }

  -- the pass has made another
  pub split_one : (p q : PassView S C) (ended : List (Ended L)) (held : ℕ → ℕ) (running spare n : ℕ) → Keeps t l p ended held running spare n → IsOf t.kind.next l q → q ≡ with_one_more p → Keeps t l q ended held running (spare + 1) n
  split_one p q ended held running spare n k of_ same = record {
    empty = k.empty;
    is_of = of_;
    idle = ap (λ (y : PassView S C). y.known.own) same ∙ k.idle;
    made = (let a = ap (λ (y : PassView S C). y.made) same in let b = ap (λ (y : PassView S C). length y.ended) same in let m = k.made in omega arith);
    numbers = k.numbers ∙ ap (λ (y : PassView S C). names y.ended) (sym same);
    noted = kept_notes t p q [] ended (ap (λ (y : PassView S C). y.known.opening) same) ([], append-nil p.known.seen ∙ ap (λ (y : PassView S C). y.known.seen) (sym same)) (let s = ap (λ (y : PassView S C). y.sure) same in omega arith) (ap (λ (y : PassView S C). y.ended) same ∙ sym (append-nil p.ended)) k.noted;
    total = k.total;
    places = k.places;
  }

  length_names : (es : List (ℕ × List (Entry C))) → length (names es) ≡ length es
  length_names [] = refl
  length_names (x ∷ es) = ap suc (length_names es)

  -- more passes can be made than links are taken
  pub never_many : (p : PassView S C) (ended : List (Ended L)) (held : ℕ → ℕ) (running n : ℕ) → Keeps t l p ended held running 0 n → n < most_links → p.made ≡ most_passes → ⊥
  unfolding most_links most_passes
  never_many p ended held running n k fewer many =
      let m = k.made in let a = k.total in let b = ap length k.numbers in omega (arith, length-map ended number_of, length_names p.ended)

  pub fresh_one : (p q : PassView S C) → l.version.journal ≡ [] → IsOf t.kind.next l q → q ≡ made_by p → IsFresh t.kind.next l q
  fresh_one p q empty of_ same = record { empty = empty; is_of = of_; made = ap (λ (y : PassView S C). y.made) same; ended = ap (λ (y : PassView S C). y.ended) same; own = ap (λ (y : PassView S C). y.known.own) same }

  -- the pass without a link gets the next one
  pub takes_one : (p : PassView S C) (ended : List (Ended L)) (held : ℕ → ℕ) (running n : ℕ) → Keeps t l p ended held running 1 n → Keeps t l p ended (and_at n held) (running + 1) 0 (n + 1)
  takes_one p ended held running n k = record {
    empty = k.empty;
    is_of = k.is_of;
    idle = k.idle;
    made = (let m = k.made in omega arith);
    numbers = k.numbers;
    noted = k.noted;
    total = (let m = k.total in omega arith);
    places = λ place. (let m = k.places place in let e = one_more place n in sym (omega arith) ∙ e);
  }

  pub begins : (p : PassView S C) → l.version.journal ≡ [] → IsOf t.kind.next l p → p ≡ first_pass l → (held : ℕ → ℕ) → ((k : ℕ) → held k ≡ 0) → Keeps t l p [] held 0 0 0
  begins p empty of_ same held none = record {
    empty = empty;
    is_of = of_;
    idle = ap (λ (y : PassView S C). y.known.own) same;
    made = (let a = ap (λ (y : PassView S C). y.made) same in let b = ap (λ (y : PassView S C). length y.ended) same in omega arith);
    numbers = ap (λ (y : PassView S C). names y.ended) (sym same);
    noted = All-nil (IsNoted t p);
    total = refl;
    places = λ place. (let z = none place in let a : ◌≡◌ {A = ℕ} (0 + held place) 0 = omega (arith, z) in a) ∙ none_below place;
  }

  -- the same sessions run, counted in another way
  pub moved : (p : PassView S C) (ended : List (Ended L)) (held held' : ℕ → ℕ) (running running' spare n : ℕ) → ((k : ℕ) → held' k ≡ held k) → running' ≡ running → Keeps t l p ended held running spare n → Keeps t l p ended held' running' spare n
  moved p ended held held' running running' spare n same count k = record {
    empty = k.empty;
    is_of = k.is_of;
    idle = k.idle;
    made = (let m = k.made in omega arith);
    numbers = k.numbers;
    noted = k.noted;
    total = (let m = k.total in omega arith);
    places = λ place. (let e = same place in let a : count_by (is_at place) ended + held' place ≡ count_by (is_at place) ended + held place = omega arith in a) ∙ k.places place;
  }

  -- what a thread gives back was held
  pub held_of : (l' : LockView S C K) (users' : List User) (pass : PassView S C) (from : L) (place before : ℕ) (r : PassView S C) (link : L) (outcome : End) → Runs t l l' users' pass from place before
      → IsOver (record { kind = t.kind; source = t.source; sink = t.sink; faults = t.faults; users = users'; links = None }) l' pass from r link outcome → IsHeld t l place before r link outcome
  held_of l' users' pass from place before r link outcome runs over = record {
    pass = pass;
    from = from;
    over = subst (λ (m : LockView S C K). IsOver (without_links t) m pass from r link outcome) runs.lock
        (subst (λ (us : List User). IsOver (record { kind = t.kind; source = t.source; sink = t.sink; faults = t.faults; users = us; links = None }) l' pass from r link outcome) runs.users over);
    given = runs.given;
    was_new = runs.was_new;
    before_is = runs.before_is;
  }

  -- what a thread's promise knows is what the session began with
  pub runs_of : (l' : LockView S C K) (users' : List User) (pass pass' : PassView S C) (from from' : L) (place before : ℕ) → l' ≡ l → users' ≡ t.users → pass' ≡ pass → from' ≡ from → IsGiven t.links place from → IsNew (t.source from) (t.sink from) → before ≡ length pass.known.seen
      → Runs t l l' users' pass' from' place before
  runs_of l' users' pass pass' from from' place before lock users passes froms given was_new before_is = record {
    lock = lock;
    users = users;
    given = subst (λ (x : L). IsGiven t.links place x) (sym froms) given;
    was_new = subst (λ (x : L). IsNew (t.source x) (t.sink x)) (sym froms) was_new;
    before_is = before_is ∙ ap (λ (p : PassView S C). length p.known.seen) (sym passes);
  }
