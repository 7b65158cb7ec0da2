-- The steps of the turn keep the rule.
use Rattle.std.proofs.Common.{◌≡◌, ◌≢◌, ℕ, ◌+◌, ◌%◌, ◌^◌, ◌<◌, eqb, List, [], ◌∷◌, ◌++◌, map, length, get_or, set, drop, sym, refl, ap, ◌∙◌, subst, arith, append_assoc, length-append, mod-eq_of_lt, Option, Some}
use Rattle.std.proofs.Math.Seq.{drop-append_seam}
use mathlib.Core.Logic.{dite}
use mathlib.Core.Option.{some, none}
use mathlib.Core.List.{IsPrefix}
use native.Mathlib.Decide.{ℕ_discrete}
use lib.ListN.{get_elem?}
use prog.Atomic.{either}
use Rattle.std.specs.Arc.{arc_value}
use Rattle.std_alloc.specs.declared.arc.Arc.{Arc}
use Rattle.atomic_table.specs.Table.{step, Act, keeps, takes, gives, stepped, Allows, Valid, carried_after, rest}
use Rattle.atomic_table.proofs.Lists.{set_here, set_else, at_map, exchanged}
use Rattle.desk_model.specs.declared.entry.Entry.{Entry}
use Rattle.desk_model.specs.Histories.{History, CountsFrom, SessionsBelow}
use Rattle.desk_lock.specs.declared.board.Store.{Store}
use Rattle.desk_lock.specs.declared.board.View.{View}
use Rattle.desk_lock.specs.declared.board.Turn.TheVariants.{NoTurn, HasTurn}
use Rattle.desk_lock.specs.Numbers.{Ranks, by, most_passes}
use Rattle.desk_lock.specs.declared.board.Laid.{Laid}
use Rattle.desk_lock.specs.Board.{Slot, AtHome, Now, KnowsTurn, Kept, card, InTurn, AtShelf}
use Rattle.desk_lock.specs.Seats.{Beginning, IsIdle}
use Rattle.desk_lock.specs.Steps.{Sat, Follows, Has, claimed, history_of, settled_of, learned, hand, committed, released, stayed}
use Rattle.desk_lock.proofs.Lists.{some_same, prefix_self, prefix_into, by_mine, by_other, counts_more, between}
use Rattle.desk_lock.proofs.Ranking.{cards_stay, grown, one_seat, sessions_below, number_below}
use Rattle.desk_lock.proofs.Keeping.{St, held_on, held_here, no_turn, quiet, settled_front, count_word, turn_word, round_word, build, same, loaded}

module _ {S C K : Type 0} (base : Beginning S C K) where
  -- what stands past the beginning
  pub seam : (v : View S C K) (news h : List (Entry C)) → v.start ≡ length base.version.journal → h ≡ base.version.journal ++ news → drop v.start h ≡ news
  seam v news h start is = ap (λ (x : ℕ × List (Entry C)). drop x.0 x.1) (λ i. (start i, is i)) ∙ drop-append_seam base.version.journal news

  numbered : (news : List (Entry C)) (e : Entry C) → ((n : ℕ) → CountsFrom 0 (by n news)) → e.serial ≡ length (by e.session news) → (n : ℕ) → CountsFrom 0 (by n (news ++ e ∷ []))
  numbered news e all is n = dite (ℕ_discrete e.session n)
      (λ mine. subst (CountsFrom 0) (sym (by_mine n news e mine)) (counts_more 0 (by n news) e (all n) (let l = ap (λ (z : ℕ). length (by z news)) mine in omega arith)))
      (λ other. subst (CountsFrom 0) (sym (by_other n news e other)) (all n))

  -- a journal of the history goes on from what the seat has seen
  pub follows : (n : Now C) (cards : _) (v : View S C K) (past h : List (Entry C)) → Ranks n.news cards → v.start ≡ length base.version.journal → by v.number n.news ≡ v.own → h ≡ base.version.journal ++ past → IsPrefix past n.news → SessionsBelow most_passes past
      → IsPrefix v.seen (base.version.journal ++ past) → v.number < most_passes → Follows v h
  follows n cards v past h ranks start own is front below seen few = record {
    seen = subst (IsPrefix v.seen) (sym is) seen;
    begun = let l = ap length is in let parts = length-append base.version.journal past in omega arith;
    mine = λ long first. between v.number v.start v.seen h (base.version.journal ++ n.news) v.own long (subst (IsPrefix v.seen) (sym is) seen)
        (subst (λ (z : List (Entry C)). IsPrefix z (base.version.journal ++ n.news)) (sym is) (prefix_into (base.version.journal ++ past) base.version.journal past n.news (prefix_self (base.version.journal ++ past)) front)) first
        (ap (by v.number) (seam v n.news (base.version.journal ++ n.news) start refl) ∙ own);
    below = subst (SessionsBelow most_passes) (sym (seam v past h start is)) below;
    number = few;
  }

module _ {S C A K : Type 0} {stands : K → Store K → List (Entry C) → List (Entry C) → Type 0} (base : Beginning S C K) where
  pub claims : (slots id first second : ℕ) (me : Sat S C A K) → me.0.live ≡ 1 → me.0.turn ≡ NoTurn
      → Allows (Kept stands base) slots id me 1 (λ n. either (eqb n 0) 1 n) (claimed stands (step slots 1 first second none) me)
  claims slots id first second me live idle s r deep at small = exchanged (get_or s.words 1 0) 0 1
      (λ b. (w : View S C K) × (a : Act (Slot S C A K)) × Valid s.homes me.1 a × Kept stands base (stepped s 1 b id me.1 w a) × claimed stands (step slots 1 first second none) me (get_or s.words 1 0) (w, carried_after me.1 a))
      hit miss
    where
      hit : get_or s.words 1 0 ≡ 0 → (w : View S C K) × (a : Act (Slot S C A K)) × Valid s.homes me.1 a × Kept stands base (stepped s 1 1 id me.1 w a) × claimed stands (step slots 1 first second none) me (get_or s.words 1 0) (w, carried_after me.1 a)
      hit zero =
          let n = r.now in
          let free : n.turn ≡ 0 = sym r.words.turn ∙ zero in
          let n' : Now C = record n { turn = 1; holder = id } in
          let x = r.slots.home free in
          let a : Laid (Arc (History S C) A) K = x.0 in
          let is : (arc_value a.version).journal ≡ base.version.journal ++ n.news = x.3 in
          let f = r.each id me.0 at in
          let w : View S C K = record me.0 { turn = HasTurn (arc_value a.version).journal (base.version.journal ++ n.shelved) } in (
            w,
            takes 0 (Some a),
            x.1,
            build base s id me.0 w at (set s.words 1 1) (set s.homes 0 none) n'
                (turn_word s.words n n' 1 r.words refl refl refl refl) r.level
                record { home = λ e. absurd (omega arith); stand = λ e. let y = r.slots.stand e in (y.0, set_else s.homes 0 1 none (λ q. omega arith) ∙ y.1, y.2, y.3) }
                record { turn = λ _. held_here InTurn s.views id me.0 w at tt; shelf = λ ne. held_on AtShelf s.views id me.0 w at (λ p. p) n.shower (r.manned.shelf ne) }
                record { origin = f.origin; keeper = f.keeper; start = f.start; seen = f.seen; told = f.told; sure = f.sure; told_sure = f.told_sure; own = f.own; turn = (refl, refl, is, live, refl); shelf = f.shelf }
                (λ j u other there. let g = r.each j u there in quiet base n n' j u (no_turn _ _ _ _ _ _ u.turn (λ p. let q = p.0 in omega arith) g.turn) (prefix_self n.news) (omega arith) g.own g.shelf g)
                r.serials (subst (Ranks n.news) (sym (cards_stay s.views id me.0 w at refl)) r.ranks),
            (
              (λ _. (
                a,
                base.version.journal ++ n.shelved,
                refl,
                refl,
                ap Some x.2 ∙ sym (f.origin live),
                follows base n (map card s.views) me.0 n.news (arc_value a.version).journal r.ranks (f.start live) (f.own live) is (prefix_self n.news) (sessions_below n.news (map card s.views) r.ranks)
                    f.seen (number_below n.news (map card s.views) id (card me.0) r.ranks (at_map card s.views id me.0 at) live),
                subst (IsPrefix (base.version.journal ++ n.shelved)) (sym is) (settled_front base n r.level),
                subst (λ (o : Option K). AtHome stands o a (base.version.journal ++ n.shelved)) (sym (f.keeper live)) x.4,
              )),
              (λ ne. absurd (ne zero)),
            ),
          )

      miss : get_or s.words 1 0 ≢ 0 → (w : View S C K) × (a : Act (Slot S C A K)) × Valid s.homes me.1 a × Kept stands base (stepped s 1 (get_or s.words 1 0) id me.1 w a) × claimed stands (step slots 1 first second none) me (get_or s.words 1 0) (w, carried_after me.1 a)
      miss ne = (me.0, keeps, tt, same base s 1 id me.0 at r, ((λ e. absurd (ne e)), λ _. refl))

  -- what the turn's holder knows
  pub has_turn : (s : St S C A K) (r : Kept stands base s) (id : ℕ) (v : View S C K) (h g : List (Entry C)) → get_elem? s.views id ≡ some v → v.turn ≡ HasTurn h g
      → (r.now.turn ≡ 1) × (id ≡ r.now.holder) × (h ≡ base.version.journal ++ r.now.news) × (v.live ≡ 1) × (g ≡ base.version.journal ++ r.now.shelved)
  has_turn s r id v h g at is = subst (KnowsTurn (base.version.journal ++ r.now.news) (base.version.journal ++ r.now.shelved) r.now.turn r.now.holder id v.live) is (r.each id v at).turn

  pub learns : (slots id : ℕ) (me : Sat S C A K) (h g : List (Entry C)) → me.0.turn ≡ HasTurn h g → Allows (Kept stands base) slots id me 0 (λ n. n) (learned (step slots 0 0 0 none) me)
  learns slots id me h g is s r deep at small =
      let k = has_turn s r id me.0 h g at is in
      let f = r.each id me.0 at in
      let n = r.now in
      let w : View S C K = record me.0 { seen = history_of me.0.turn; told = []; told_sure = 0 } in
      let seen : history_of me.0.turn ≡ base.version.journal ++ n.news = ap history_of is ∙ k.2 in (
        w,
        keeps,
        tt,
        loaded base s 0 id me.0 w at refl (λ p. p) (λ p. p) r
            record {
              origin = f.origin;
              keeper = f.keeper;
              start = f.start;
              seen = subst (IsPrefix (history_of me.0.turn)) seen (prefix_self (history_of me.0.turn));
              told = (base.version.journal ++ n.news, refl);
              sure = f.sure;
              told_sure = omega arith;
              own = f.own;
              turn = f.turn;
              shelf = f.shelf;
            },
        refl,
      )

  pub commits : (slots id : ℕ) (me : Sat S C A K) (h g : List (Entry C)) (a : Laid (Arc (History S C) A) K) (e : Entry C) → me.0.turn ≡ HasTurn h g → me.1 ≡ (0, Some a) ∷ []
      → (arc_value a.version).journal ≡ h ++ e ∷ [] → e.session ≡ me.0.number → e.serial ≡ length me.0.own → length (arc_value a.version).journal < 2 ^ 64
      → Allows (Kept stands base) slots id me 0 (λ n. (n + 1) % 2 ^ 64) (committed (step slots 0 1 0 none) me)
  commits slots id me h g a e is carried longer mine serial fits s r deep at small =
      let k = has_turn s r id me.0 h g at is in
      let f = r.each id me.0 at in
      let n = r.now in
      let j : List (Entry C) = hand me.1 in
      let own' : List (Entry C) = by me.0.number (drop me.0.start j) in
      let w : View S C K = record me.0 { seen = j; told = []; told_sure = 0; own = own'; turn = HasTurn j (settled_of me.0.turn) } in
      let news' : List (Entry C) = n.news ++ e ∷ [] in
      let n' : Now C = record n { news = news'; owed = n.owed ++ e ∷ [] } in
      let grows : j ≡ base.version.journal ++ news' = ap hand carried ∙ (longer ∙ (ap (λ (z : List (Entry C)). z ++ e ∷ []) k.2 ∙ append_assoc base.version.journal n.news (e ∷ []))) in
      let whole : length j ≡ length base.version.journal + length news' = ap length grows ∙ length-append base.version.journal news' in
      let long : length (arc_value a.version).journal ≡ length base.version.journal + length news' = ap length (sym (ap hand carried)) ∙ whole in
      let more : length news' ≡ length n.news + 1 = length-append n.news (e ∷ []) in
      let counted = r.words.count in
      let x : ℕ = get_or s.words 0 0 in
      let up : (x + 1) % 2 ^ 64 ≡ length news' = mod-eq_of_lt (omega arith) ∙ omega arith in
      let by_me : by me.0.number n.news ≡ me.0.own = f.own k.3 in
      let level : news' ≡ n.shelved ++ (n.owed ++ e ∷ []) = ap (λ (z : List (Entry C)). z ++ e ∷ []) r.level ∙ append_assoc n.shelved n.owed (e ∷ []) in
      let start = f.start k.3 in (
        w,
        keeps,
        tt,
        build base s id me.0 w at (set s.words 0 ((x + 1) % 2 ^ 64)) s.homes n'
            (count_word s.words n n' ((x + 1) % 2 ^ 64) r.words up refl refl refl) level
            record { home = λ q. absurd (let one = k.0 in omega arith); stand = r.slots.stand }
            record { turn = λ ne. held_on InTurn s.views id me.0 w at (λ _. tt) n.holder (r.manned.turn ne); shelf = λ ne. held_on AtShelf s.views id me.0 w at (λ p. p) n.shower (r.manned.shelf ne) }
            record {
              origin = f.origin;
              keeper = f.keeper;
              start = f.start;
              seen = subst (IsPrefix j) grows (prefix_self j);
              told = (base.version.journal ++ news', refl);
              sure = f.sure;
              told_sure = omega arith;
              own = λ _. sym (ap (by me.0.number) (seam base me.0 news' j start grows));
              turn = (k.0, k.1, grows, k.3, ap settled_of is ∙ k.4);
              shelf = f.shelf;
            }
            (λ i u other there. let y = r.each i u there in
            quiet base n n' i u (no_turn _ _ _ _ _ _ u.turn (λ p. other (p.1 ∙ sym k.1)) y.turn) (e ∷ [], refl) (omega arith)
            (λ alive. by_other u.number n.news e (λ both. other (one_seat n.news (map card s.views) r.ranks i id (card u) (card me.0) (at_map card s.views i u there) (at_map card s.views id me.0 at) alive k.3 (sym both ∙ mine))) ∙ y.own alive) y.shelf y)
            (numbered base n.news e r.serials (serial ∙ (ap length (sym by_me) ∙ ap (λ (z : ℕ). length (by z n.news)) (sym mine))))
            (subst (Ranks news') (sym (cards_stay s.views id me.0 w at refl)) (grown n.news (map card s.views) id (card me.0) e r.ranks (at_map card s.views id me.0 at) k.3 mine)),
        (refl, omega arith),
      )

  pub releases : (slots id : ℕ) (me : Sat S C A K) (a : Laid (Arc (History S C) A) K) (g : List (Entry C)) → slots ≡ 2 → me.0.turn ≡ HasTurn (arc_value a.version).journal g → me.1 ≡ (0, Some a) ∷ []
      → Some (arc_value a.version).opening ≡ me.0.origin → AtHome stands me.0.keeper a g → Allows (Kept stands base) slots id me 1 (λ _. 0) (λ _. released (step slots 1 0 0 none) me 0)
  releases slots id me a g two is carried opening kept s r deep at small =
      let k = has_turn s r id me.0 (arc_value a.version).journal g at is in
      let f = r.each id me.0 at in
      let n = r.now in
      let n' : Now C = record n { turn = 0 } in
      let w : View S C K = record me.0 { turn = NoTurn } in (
        w,
        gives,
        tt,
        subst (λ (c : List (ℕ × Slot S C A K)). Kept stands base (stepped s 1 0 id c w gives)) (sym carried)
            (build base s id me.0 w at (set s.words 1 0) (set s.homes 0 (some (Some a))) n'
            (turn_word s.words n n' 0 r.words refl refl refl refl) r.level
            record {
              home = λ _. (a, set_here s.homes 0 (some (Some a)) (omega arith), some_same _ _ (opening ∙ f.origin k.3), k.2, subst (λ (x : Option K × List (Entry C)). AtHome stands x.0 a x.1) (λ i. (f.keeper k.3 i, k.4 i)) kept);
              stand = λ e. let y = r.slots.stand e in (y.0, set_else s.homes 0 1 (some (Some a)) (λ q. omega arith) ∙ y.1, y.2, y.3);
            }
            record { turn = λ ne. absurd (ne refl); shelf = λ ne. held_on AtShelf s.views id me.0 w at (λ p. p) n.shower (r.manned.shelf ne) }
            record { origin = f.origin; keeper = f.keeper; start = f.start; seen = f.seen; told = f.told; sure = f.sure; told_sure = f.told_sure; own = f.own; turn = tt; shelf = f.shelf }
            (λ j u other there. let y = r.each j u there in quiet base n n' j u (no_turn _ _ _ _ _ _ u.turn (λ p. other (p.1 ∙ sym k.1)) y.turn) (prefix_self n.news) (omega arith) y.own y.shelf y)
            r.serials (subst (Ranks n.news) (sym (cards_stay s.views id me.0 w at refl)) r.ranks)),
        ap (λ (c : List (ℕ × Slot S C A K)). (w, rest c)) carried,
      )

  -- one more batch has ended
  pub rounds : (slots id : ℕ) (me : Sat S C A K) → Allows (Kept stands base) slots id me 4 (λ n. (n + 1) % 2 ^ 64) (stayed (step slots 4 1 0 none) me)
  rounds slots id me s r deep at small =
      let n = r.now in (
        me.0,
        keeps,
        tt,
        build base s id me.0 me.0 at (set s.words 4 ((get_or s.words 4 0 + 1) % 2 ^ 64)) s.homes n
            (round_word s.words n ((get_or s.words 4 0 + 1) % 2 ^ 64) r.words) r.level r.slots
            record { turn = λ ne. held_on InTurn s.views id me.0 me.0 at (λ p. p) n.holder (r.manned.turn ne); shelf = λ ne. held_on AtShelf s.views id me.0 me.0 at (λ p. p) n.shower (r.manned.shelf ne) }
            (r.each id me.0 at) (λ j u other there. r.each j u there) r.serials (subst (Ranks n.news) (sym (cards_stay s.views id me.0 me.0 at refl)) r.ranks),
        refl,
      )

module _ {S C A K : Type 0} (stands : K → Store K → List (Entry C) → List (Entry C) → Type 0) where
  pub has_from : (m k m' : Sat S C A K) (found : ℕ) → k ≡ m → (found ≡ 0 → Has stands k m') → found ≡ 0 → Has stands m m'
  has_from m k m' found same f is = subst (λ (x : Sat S C A K). Has stands x m') same (f is)

module _ {X : Type 0} where
  -- the slot in hand is the one that was taken last
  pub in_hand : (m : List (ℕ × X)) (k : ℕ) (x : X) → m ≡ (k, x) ∷ [] → (y : X) × (m ≡ (k, y) ∷ rest m)
  in_hand m k x is = (x, is ∙ ap (λ (cs : List (ℕ × X)). (k, x) ∷ rest cs) (sym is))

module _ {S C A K : Type 0} where
  pub ready_from : (m k : Sat S C A K) → k ≡ m → m.0.live ≡ 1 → IsIdle m.0 → (k.0.live ≡ 1) × IsIdle k.0
  ready_from m k same live idle = subst (λ (x : Sat S C A K). (x.0.live ≡ 1) × IsIdle x.0) (sym same) (live, idle)
