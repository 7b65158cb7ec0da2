-- The steps of the shelf keep the rule.
use Rattle.std.proofs.Common.{◌≡◌, ◌≢◌, ℕ, ◌+◌, ◌≤◌, eqb, List, [], ◌∷◌, ◌++◌, map, length, get_or, set, sym, refl, ap, ◌∙◌, subst, arith, append-nil, length-append, Some}
use mathlib.Core.Option.{some, none}
use mathlib.Core.List.{IsPrefix}
use lib.ListN.{get_elem?}
use prog.Atomic.{either}
use Rattle.std.specs.Arc.{arc_value}
use Rattle.std_alloc.specs.declared.arc.Arc.{Arc}
use Rattle.atomic_table.specs.Table.{step, Act, keeps, takes, gives, stepped, Allows, Valid, carried_after, rest}
use Rattle.atomic_table.proofs.Lists.{set_here, set_else, at_map, exchanged}
use Rattle.desk_model.specs.declared.entry.Entry.{Entry}
use Rattle.desk_model.specs.Histories.{History, SessionsBelow}
use Rattle.desk_lock.specs.declared.board.Store.{Store}
use Rattle.desk_lock.specs.declared.board.View.{View}
use Rattle.desk_lock.specs.declared.board.Turn.TheVariants.{HasTurn}
use Rattle.desk_lock.specs.declared.board.Hold.TheVariants.{NoShelf, HasShelf}
use Rattle.desk_lock.specs.Numbers.{Ranks, most_passes}
use Rattle.desk_lock.specs.declared.board.Laid.{Laid}
use Rattle.desk_lock.specs.Seats.{Beginning}
use Rattle.desk_lock.specs.Board.{Slot, Now, KnowsShelf, Kept, card, InTurn, AtShelf}
use Rattle.desk_lock.specs.Steps.{Sat, HasIt, claimed_shelf, shelved_by, looked, assured, history_of, stored, released_shelf, IsSurer}
use Rattle.desk_lock.proofs.Lists.{some_same, prefix_self, within, below_front}
use Rattle.desk_lock.proofs.Ranking.{cards_stay, sessions_below, number_below}
use Rattle.desk_lock.proofs.Keeping.{St, held_on, held_here, no_turn, no_shelf, shelf_free, quiet, off_shelf, settled_front, shelf_word, number_word, build, same, loaded}
use Rattle.desk_lock.proofs.Turning.{follows, has_turn}

module _ {S C K : Type 0} (base : Beginning S C K) where
  -- what a seat has seen that is sure of all of it stands on the shelf
  pub reached : (n : Now C) (v : View S C K) → n.news ≡ n.shelved ++ n.owed → IsPrefix v.seen (base.version.journal ++ n.news) → v.sure ≤ length base.version.journal + length n.shelved → length v.seen ≤ v.sure → IsPrefix v.seen (base.version.journal ++ n.shelved)
  reached n v level seen sure reach = let l = length-append base.version.journal n.shelved in
      within v.seen (base.version.journal ++ n.shelved) (base.version.journal ++ n.news) seen (settled_front base n level) (omega arith)

module _ {S C A K : Type 0} {stands : K → Store K → List (Entry C) → List (Entry C) → Type 0} (base : Beginning S C K) where
  pub claims_shelf : (slots id first second : ℕ) (me : Sat S C A K) → me.0.live ≡ 1 → me.0.shelf ≡ NoShelf
      → Allows (Kept stands base) slots id me 2 (λ n. either (eqb n 0) 1 n) (claimed_shelf (step slots 2 first second none) me)
  claims_shelf slots id first second me live idle s r deep at small = exchanged (get_or s.words 2 0) 0 1
      (λ b. (w : View S C K) × (a : Act (Slot S C A K)) × Valid s.homes me.1 a × Kept stands base (stepped s 2 b id me.1 w a) × claimed_shelf (step slots 2 first second none) me (get_or s.words 2 0) (w, carried_after me.1 a))
      hit miss
    where
      hit : get_or s.words 2 0 ≡ 0 → (w : View S C K) × (a : Act (Slot S C A K)) × Valid s.homes me.1 a × Kept stands base (stepped s 2 1 id me.1 w a) × claimed_shelf (step slots 2 first second none) me (get_or s.words 2 0) (w, carried_after me.1 a)
      hit zero =
          let n = r.now in
          let free : n.shelf ≡ 0 = sym r.words.shelf ∙ zero in
          let n' : Now C = record n { shelf = 1; shower = id } in
          let x = r.slots.stand free in
          let a : Laid (Arc (History S C) A) K = x.0 in
          let is : (arc_value a.version).journal ≡ base.version.journal ++ n.shelved = x.3 in
          let f = r.each id me.0 at in
          let w : View S C K = record me.0 { shelf = HasShelf (arc_value a.version).journal } in (
            w,
            takes 1 (Some a),
            x.1,
            build base s id me.0 w at (set s.words 2 1) (set s.homes 1 none) n'
                (shelf_word s.words n n' 1 r.words refl refl refl refl) r.level
                record { home = λ e. let y = r.slots.home e in (y.0, set_else s.homes 1 0 none (λ q. omega arith) ∙ y.1, y.2, y.3, y.4); stand = λ e. absurd (omega arith) }
                record { turn = λ ne. held_on InTurn s.views id me.0 w at (λ p. p) n.holder (r.manned.turn ne); shelf = λ _. held_here AtShelf s.views id me.0 w at tt }
                record { origin = f.origin; keeper = f.keeper; start = f.start; seen = f.seen; told = f.told; sure = f.sure; told_sure = f.told_sure; own = f.own; turn = f.turn; shelf = (refl, refl, is, live) }
                (λ j u other there. let g = r.each j u there in off_shelf base n 1 id j u (no_shelf _ _ _ _ _ u.shelf (λ p. let q = p.0 in omega arith) g.shelf) g)
                r.serials (subst (Ranks n.news) (sym (cards_stay s.views id me.0 w at refl)) r.ranks),
            (
              (λ _. (
                a,
                refl,
                refl,
                ap Some x.2 ∙ sym (f.origin live),
                (λ reach. follows base n (map card s.views) me.0 n.shelved (arc_value a.version).journal r.ranks (f.start live) (f.own live) is (n.owed, sym r.level)
                    (below_front most_passes n.shelved n.owed (subst (SessionsBelow most_passes) r.level (sessions_below n.news (map card s.views) r.ranks)))
                    (reached base n me.0 r.level f.seen f.sure reach) (number_below n.news (map card s.views) id (card me.0) r.ranks (at_map card s.views id me.0 at) live)),
                (let l = ap length is ∙ length-append base.version.journal n.shelved in let u = f.sure in omega arith),
              )),
              (λ ne. absurd (ne zero)),
            ),
          )

      miss : get_or s.words 2 0 ≢ 0 → (w : View S C K) × (a : Act (Slot S C A K)) × Valid s.homes me.1 a × Kept stands base (stepped s 2 (get_or s.words 2 0) id me.1 w a) × claimed_shelf (step slots 2 first second none) me (get_or s.words 2 0) (w, carried_after me.1 a)
      miss ne = (me.0, keeps, tt, same base s 2 id me.0 at r, ((λ e. absurd (ne e)), λ _. refl))

  -- what the shelf's holder knows
  has_shelf : (s : St S C A K) (r : Kept stands base s) (id : ℕ) (v : View S C K) (g : List (Entry C)) → get_elem? s.views id ≡ some v → v.shelf ≡ HasShelf g
      → (r.now.shelf ≡ 1) × (id ≡ r.now.shower) × (g ≡ base.version.journal ++ r.now.shelved) × (v.live ≡ 1)
  has_shelf s r id v g at is = subst (KnowsShelf (base.version.journal ++ r.now.shelved) r.now.shelf r.now.shower id v.live) is (r.each id v at).shelf

  pub looks : (slots id : ℕ) (me : Sat S C A K) (g : List (Entry C)) → me.0.shelf ≡ HasShelf g → Allows (Kept stands base) slots id me 3 (λ n. n) (looked (step slots 3 0 0 none) me)
  looks slots id me g is s r deep at small =
      let k = has_shelf s r id me.0 g at is in
      let f = r.each id me.0 at in
      let n = r.now in
      let w : View S C K = record me.0 { seen = shelved_by me.0.shelf; sure = length (shelved_by me.0.shelf); told = []; told_sure = 0 } in
      let seen : shelved_by me.0.shelf ≡ base.version.journal ++ n.shelved = ap shelved_by is ∙ k.2 in
      let long = ap length seen ∙ length-append base.version.journal n.shelved in (
        w,
        keeps,
        tt,
        loaded base s 3 id me.0 w at refl (λ p. p) (λ p. p) r
            record {
              origin = f.origin;
              keeper = f.keeper;
              start = f.start;
              seen = subst (λ (l : List (Entry C)). IsPrefix l (base.version.journal ++ n.news)) (sym seen) (settled_front base n r.level);
              told = (base.version.journal ++ n.news, refl);
              sure = omega arith;
              told_sure = omega arith;
              own = f.own;
              turn = f.turn;
              shelf = f.shelf;
            },
        refl,
      )

  -- the shelf's number says how much is settled
  pub assures : (slots id : ℕ) (me : Sat S C A K) → me.0.live ≡ 1 → Allows (Kept stands base) slots id me 3 (λ n. n) (assured (step slots 3 0 0 none) me)
  assures slots id me live s r deep at small =
      let f = r.each id me.0 at in
      let n = r.now in
      let x : ℕ = get_or s.words 3 0 in
      let w : View S C K = record me.0 { sure = me.0.start + x } in
      let number = r.words.shelf_number in
      let start = f.start live in
      let old = f.sure in (
        w,
        keeps,
        tt,
        loaded base s 3 id me.0 w at refl (λ p. p) (λ p. p) r
            record { origin = f.origin; keeper = f.keeper; start = f.start; seen = f.seen; told = f.told; sure = omega arith; told_sure = f.told_sure; own = f.own; turn = f.turn; shelf = f.shelf },
        (refl, omega arith),
      )

  pub stores : (slots id number : ℕ) (me : Sat S C A K) (g h p : List (Entry C)) → me.0.shelf ≡ HasShelf g → me.0.turn ≡ HasTurn h p → length h ≡ me.0.start + number
      → Allows (Kept stands base) slots id me 3 (λ _. number) (λ _. stored (step slots 3 number 0 none) me number)
  stores slots id number me g h p is due long s r deep at small =
      let k = has_shelf s r id me.0 g at is in
      let c = has_turn base s r id me.0 h p at due in
      let f = r.each id me.0 at in
      let n = r.now in
      let n' : Now C = record n { shelved = n.news; owed = [] } in
      let w : View S C K = record me.0 { turn = HasTurn (history_of me.0.turn) (history_of me.0.turn); shelf = HasShelf (history_of me.0.turn) } in
      let whole : history_of me.0.turn ≡ base.version.journal ++ n.news = ap history_of due ∙ c.2 in
      let grows = ap length r.level ∙ length-append n.shelved n.owed in
      let a = f.sure in
      let b = f.told_sure in
      let start = f.start k.3 in
      let parts = ap length c.2 ∙ length-append base.version.journal n.news in (
        w,
        keeps,
        tt,
        build base s id me.0 w at (set s.words 3 number) s.homes n'
            (number_word s.words n n' number r.words (omega arith) refl refl refl) (sym (append-nil n.news))
            record { home = λ q. absurd (let one = c.0 in omega arith); stand = λ q. absurd (let one = k.0 in omega arith) }
            record { turn = λ ne. held_on InTurn s.views id me.0 w at (λ _. tt) n.holder (r.manned.turn ne); shelf = λ ne. held_on AtShelf s.views id me.0 w at (λ _. tt) n.shower (r.manned.shelf ne) }
            record {
              origin = f.origin;
              keeper = f.keeper;
              start = f.start;
              seen = f.seen;
              told = f.told;
              sure = omega arith;
              told_sure = omega arith;
              own = f.own;
              turn = (c.0, c.1, whole, c.3, whole);
              shelf = (k.0, k.1, whole, k.3);
            }
            (λ j u other there. let y = r.each j u there in
            quiet base n n' j u (no_turn _ _ _ _ _ _ u.turn (λ p. other (p.1 ∙ sym c.1)) y.turn) (prefix_self n.news) (omega arith) y.own (shelf_free _ _ _ _ _ u.shelf (no_shelf _ _ _ _ _ u.shelf (λ p. other (p.1 ∙ sym k.1)) y.shelf)) y)
            r.serials (subst (Ranks n.news) (sym (cards_stay s.views id me.0 w at refl)) r.ranks),
        refl,
      )

  pub releases_shelf : (slots id : ℕ) (me : Sat S C A K) (a : Laid (Arc (History S C) A) K) → slots ≡ 2 → me.0.shelf ≡ HasShelf (arc_value a.version).journal → me.1 ≡ (1, Some a) ∷ rest me.1
      → Some (arc_value a.version).opening ≡ me.0.origin → Allows (Kept stands base) slots id me 2 (λ _. 0) (λ _. released_shelf (step slots 2 0 0 none) me 0)
  releases_shelf slots id me a two is carried opening s r deep at small =
      let k = has_shelf s r id me.0 (arc_value a.version).journal at is in
      let f = r.each id me.0 at in
      let n = r.now in
      let n' : Now C = record n { shelf = 0 } in
      let w : View S C K = record me.0 { shelf = NoShelf } in (
        w,
        gives,
        tt,
        subst (λ (c : List (ℕ × Slot S C A K)). Kept stands base (stepped s 2 0 id c w gives)) (sym carried)
            (build base s id me.0 w at (set s.words 2 0) (set s.homes 1 (some (Some a))) n'
            (shelf_word s.words n n' 0 r.words refl refl refl refl) r.level
            record {
              home = λ e. let y = r.slots.home e in (y.0, set_else s.homes 1 0 (some (Some a)) (λ q. omega arith) ∙ y.1, y.2, y.3, y.4);
              stand = λ _. (a, set_here s.homes 1 (some (Some a)) (omega arith), some_same _ _ (opening ∙ f.origin k.3), k.2);
            }
            record { turn = λ ne. held_on InTurn s.views id me.0 w at (λ p. p) n.holder (r.manned.turn ne); shelf = λ ne. absurd (ne refl) }
            record { origin = f.origin; keeper = f.keeper; start = f.start; seen = f.seen; told = f.told; sure = f.sure; told_sure = f.told_sure; own = f.own; turn = f.turn; shelf = tt }
            (λ j u other there. let g = r.each j u there in off_shelf base n 0 n.shower j u (no_shelf _ _ _ _ _ u.shelf (λ p. other (p.1 ∙ sym k.1)) g.shelf) g)
            r.serials (subst (Ranks n.news) (sym (cards_stay s.views id me.0 w at refl)) r.ranks)),
        refl,
      )

module _ {S C A K : Type 0} where
  pub as_sure : (m : Sat S C A K) → IsSurer m m
  as_sure m = record { sure = m.0.sure; is = refl; more = omega arith }

  -- sure of more by one load more
  pub surer : (m k k' : Sat S C A K) (n : ℕ) → IsSurer m k → k' ≡ (record k.0 { sure = k.0.start + n }, k.1) → k.0.sure ≤ k.0.start + n → IsSurer m k'
  surer m k k' n a is more = subst (λ (x : Sat S C A K). x.0.sure ≤ x.0.start + n → k' ≡ (record x.0 { sure = x.0.start + n }, x.1) → IsSurer m k') (sym a.is)
      (λ (b : a.sure ≤ m.0.start + n) (e : k' ≡ (record m.0 { sure = m.0.start + n }, m.1)). record { sure = m.0.start + n; is = e; more = (let c = a.more in omega arith) }) more is

  pub surely_live : (m k : Sat S C A K) → IsSurer m k → m.0.live ≡ 1 → k.0.live ≡ 1
  surely_live m k a live = ap (λ (x : Sat S C A K). x.0.live) a.is ∙ live

  pub reaches : (m k k' : Sat S C A K) (n owed : ℕ) → IsSurer m k → k' ≡ (record k.0 { sure = k.0.start + n }, k.1) → owed ≤ n → m.0.start + owed ≤ k'.0.sure
  reaches m k k' n owed a is all = let s = ap (λ (x : Sat S C A K). x.0.sure) is in let t = ap (λ (x : Sat S C A K). x.0.start) a.is in omega arith

  pub has_it_from : (m k m' : Sat S C A K) (found : ℕ) → k ≡ m → (found ≡ 0 → HasIt k m') → found ≡ 0 → HasIt m m'
  has_it_from m k m' found same f is = subst (λ (x : Sat S C A K). HasIt x m') same (f is)

  pub off_from : (m k : Sat S C A K) → k ≡ m → m.0.live ≡ 1 → m.0.shelf ≡ NoShelf → (k.0.live ≡ 1) × (k.0.shelf ≡ NoShelf)
  off_from m k same live off = subst (λ (x : Sat S C A K). (x.0.live ≡ 1) × (x.0.shelf ≡ NoShelf)) (sym same) (live, off)
