-- Seats are cut in two and joined.
use Rattle.std.proofs.Common.{◌≡◌, ◌≢◌, ℕ, ◌<◌, ◌≤◌, ◌+◌, List, [], ◌∷◌, ◌++◌, map, length, drop, set, sym, refl, ap, ◌∙◌, subst, ⊎_elim, ◌⊎◌, inl, inr, arith, Bool, true, false, nat_lt, ltb-true, if◌then◌else◌, length-append}
use mathlib.Core.Option.{some, none}
use mathlib.Core.List.{IsPrefix, map-append}
use lib.Seq.{map-set}
use lib.ListN.{get_elem?}
use Rattle.atomic_table.specs.Table.{State, step, keeps, Splits, Joins, Allows}
use Rattle.atomic_table.proofs.Lists.{at_set, set_else, set_again, at_map, at_snoc}
use Rattle.desk_model.specs.declared.entry.Entry.{Entry}
use Rattle.desk_lock.specs.declared.board.Store.{Store}
use Rattle.desk_lock.specs.declared.board.View.{View}
use Rattle.desk_lock.specs.declared.board.Turn.TheVariants.{NoTurn}
use Rattle.desk_lock.specs.declared.board.Hold.TheVariants.{NoShelf}
use Rattle.desk_lock.specs.Numbers.{Card, Ranks, by, most_passes}
use Rattle.desk_lock.specs.Board.{Slot, Now, Fits, Manned, Kept, card, InTurn, AtShelf}
use Rattle.desk_lock.specs.Seats.{Beginning, IsIdle, parent, child, helper, told_by, took_in, blank, longer, greater}
use Rattle.desk_lock.specs.Steps.{Sat, caught}
use Rattle.desk_lock.proofs.Lists.{compare, by_none, between, shrinks}
use Rattle.desk_lock.proofs.Ranking.{cards_stay, ranks_more, ranks_split, ranks_join}
use Rattle.desk_lock.proofs.Keeping.{held_on, held_more, not_turn, not_shelf, turn_free, shelf_free, loaded}
use Rattle.desk_lock.proofs.Turning.{seam}

module _ {X : Type 0} where
  pub longer_is : (a b : List X) → IsPrefix a b ⊎ IsPrefix b a → ((longer a b ≡ b) × IsPrefix a b) ⊎ (longer a b ≡ a)
  longer_is a b (inl p) = pick (nat_lt (length a) (length b))
    where
      pick : (c : Bool) → (((if c then b else a) ≡ b) × IsPrefix a b) ⊎ ((if c then b else a) ≡ a)
      pick true = inl (refl, p)
      pick false = inr refl
  longer_is a b (inr p) = pick (nat_lt (length a) (length b)) refl
    where
      pick : (c : Bool) → nat_lt (length a) (length b) ≡ c → (((if c then b else a) ≡ b) × IsPrefix a b) ⊎ ((if c then b else a) ≡ a)
      pick true e = absurd (let l = ltb-true (length a) (length b) e in let s = ap length (sym p.1) ∙ length-append b p.0 in omega arith)
      pick false e = inr refl

-- neither of two numbers is greater than the third
no_greater : (m n k : ℕ) → m ≤ k → n ≤ k → greater m n ≤ k
no_greater m n k a b = pick (nat_lt m n)
  where
    pick : (c : Bool) → (if c then n else m) ≤ k
    pick true = b
    pick false = a

module _ {S C K : Type 0} (base : Beginning S C K) where
  -- a seat that is no pass
  no_pass : (n : Now C) (j : ℕ) (w : View S C K) → w.live ≡ 0 → IsPrefix w.seen (base.version.journal ++ n.news) → w.sure ≤ length base.version.journal + length n.shelved → w.told ≡ [] → w.told_sure ≡ 0 → w.turn ≡ NoTurn → w.shelf ≡ NoShelf → Fits base n j w
  no_pass n j w dead seen sure told told_sure turn shelf = record {
    origin = λ l. absurd (omega arith);
    keeper = λ l. absurd (omega arith);
    start = λ l. absurd (omega arith);
    seen = seen;
    told = subst (λ (l : List (Entry C)). IsPrefix l (base.version.journal ++ n.news)) (sym told) (base.version.journal ++ n.news, refl);
    sure = sure;
    told_sure = omega arith;
    own = λ l. absurd (omega arith);
    turn = turn_free _ _ _ _ _ _ w.turn turn;
    shelf = shelf_free _ _ _ _ _ w.shelf shelf;
  }

module _ {S C K : Type 0} where
  -- one more seat
  manned_more : (views : List (View S C K)) (n : Now C) (u : View S C K) → Manned views n → Manned (views ++ u ∷ []) n
  manned_more views n u m = record { turn = λ ne. held_more InTurn views u n.holder (m.turn ne); shelf = λ ne. held_more AtShelf views u n.shower (m.shelf ne) }

  -- an idle seat's view changes
  manned_idle : (views : List (View S C K)) (n : Now C) (id : ℕ) (v w : View S C K) → get_elem? views id ≡ some v → IsIdle v → Manned views n → Manned (set views id w) n
  manned_idle views n id v w at idle m = record {
    turn = λ ne. held_on InTurn views id v w at (λ p. absurd (not_turn v.turn idle.0 p)) n.holder (m.turn ne);
    shelf = λ ne. held_on AtShelf views id v w at (λ p. absurd (not_shelf v.shelf idle.1 p)) n.shower (m.shelf ne);
  }

module _ {S C A K : Type 0} {stands : K → Store K → List (Entry C) → List (Entry C) → Type 0} (base : Beginning S C K) where
  pub helps : (id : ℕ) (v : View S C K) → IsIdle v → Splits (Kept {S = S} {C = C} {A = A} stands base) id v v (helper v)
  helps id v idle s r at = subst (λ (vs : List (View S C K)). Kept stands base record { words = s.words; homes = s.homes; views = vs ++ helper v ∷ [] }) (sym (set_again s.views id v at)) record {
    now = r.now;
    words = r.words;
    level = r.level;
    slots = r.slots;
    manned = manned_more s.views r.now (helper v) r.manned;
    each = λ j u e. ⊎_elim (λ old. r.each j u old) (λ (is : helper v ≡ u). subst (Fits base r.now j) is (no_pass base r.now j (helper v) refl (r.each id v at).seen (r.each id v at).sure refl refl refl refl)) (at_snoc s.views (helper v) u j e);
    serials = r.serials;
    ranks = subst (Ranks r.now.news) (sym (map-append card s.views (helper v ∷ []))) (ranks_more r.now.news (map card s.views) r.ranks);
  }

  -- the rule after the seat other was joined into the idle seat id
  joined : (id other : ℕ) (v w x : View S C K) → IsIdle v → IsIdle w → (s : State (Slot S C A K) (View S C K)) → (r : Kept stands base s) → get_elem? s.views id ≡ some v → other ≢ id → get_elem? (set s.views id x) other ≡ some w
      → (Fits base r.now id v → Fits base r.now other w → Fits base r.now id x) → Ranks r.now.news (map card (set (set s.views id x) other blank))
      → Kept stands base record { words = s.words; homes = s.homes; views = set (set s.views id x) other blank }
  joined id other v w x idle calm s r at apart there mine ranks =
      let there' : get_elem? s.views other ≡ some w = sym (set_else s.views id other x apart) ∙ there in
      let one : List (View S C K) = set s.views id x in
      record {
        now = r.now;
        words = r.words;
        level = r.level;
        slots = r.slots;
        manned = manned_idle one r.now other w blank there calm (manned_idle s.views r.now id v x at idle r.manned);
        each = λ j y e. ⊎_elim (λ (t : (j ≡ other) × (blank ≡ y)). subst (Fits base r.now j) t.1 (no_pass base r.now j blank refl (base.version.journal ++ r.now.news, refl) (omega arith) refl refl refl refl))
            (λ (t : (j ≢ other) × (get_elem? one j ≡ some y)). ⊎_elim (λ (q : (j ≡ id) × (x ≡ y)). subst (λ (z : ℕ × View S C K). Fits base r.now z.0 z.1) (λ i. (sym q.0 i, q.1 i)) (mine (r.each id v at) (r.each other w there')))
            (λ (q : (j ≢ id) × (get_elem? s.views j ≡ some y)). r.each j y q.1) (at_set s.views id j x y t.1)) (at_set one other j blank y e);
        serials = r.serials;
        ranks = ranks;
      }

  -- a helper is spent: what its pass had seen is told
  pub tells : (id other : ℕ) (v w u : View S C K) → IsIdle v → w ≡ helper u → Joins (Kept {S = S} {C = C} {A = A} stands base) id v other w (told_by v w) blank
  tells id other v w u idle is s r at apart there =
      let calm : IsIdle w = (ap (λ (z : View S C K). z.turn) is, ap (λ (z : View S C K). z.shelf) is) in
      joined id other v w (told_by v w) idle calm s r at apart there
      (λ f g. record { origin = f.origin; keeper = f.keeper; start = f.start; seen = f.seen; told = g.seen; sure = f.sure; told_sure = g.sure; own = f.own; turn = f.turn; shelf = f.shelf })
      (subst (Ranks r.now.news) (sym (cards_stay (set s.views id (told_by v w)) other w blank there (ap card (sym is)) ∙ cards_stay s.views id v (told_by v w) at refl)) r.ranks)

  pub catches : (slots id : ℕ) (me : Sat S C A K) → me.0.live ≡ 1 → IsIdle me.0 → Allows (Kept stands base) slots id me 0 (λ n. n) (caught (step slots 0 0 0 none) me)
  catches slots id me live idle s r deep at small =
      let f = r.each id me.0 at in
      let v : View S C K = me.0 in
      let n = r.now in
      let h : List (Entry C) = base.version.journal ++ n.news in
      let both = compare v.seen v.told h f.seen f.told in
      let w : View S C K = record v { seen = longer v.seen v.told; sure = greater v.sure v.told_sure; told = []; told_sure = 0 } in
      let way = longer_is v.seen v.told both in
      let sees : IsPrefix (longer v.seen v.told) h = ⊎_elim (λ t. subst (λ l. IsPrefix l h) (sym t.0) f.told) (λ e. subst (λ l. IsPrefix l h) (sym e) f.seen) way in (
        w,
        keeps,
        tt,
        loaded base s 0 id v w at refl (λ p. p) (λ p. p) r
            record { origin = f.origin; keeper = f.keeper; start = f.start; seen = sees; told = (h, refl); sure = no_greater v.sure v.told_sure (length base.version.journal + length n.shelved) f.sure f.told_sure; told_sure = omega arith; own = f.own; turn = f.turn; shelf = f.shelf },
        (
          refl,
          both,
          (λ long first. ⊎_elim (λ t. subst (λ l. by v.number (drop v.start l) ≡ v.own) (sym t.0) (between v.number v.start v.seen v.told h v.own long t.1 f.told first (ap (by v.number) (seam base v n.news h (f.start live) refl) ∙ f.own live))) (λ e. subst (λ l. by v.number (drop v.start l) ≡ v.own) (sym e) first) way),
          (λ long none_own. shrinks v.number v.start v.seen h long f.seen (ap (by v.number) (seam base v n.news h (f.start live) refl) ∙ (f.own live ∙ none_own))),
        ),
      )

  pub splits : (id : ℕ) (v : View S C K) → v.live ≡ 1 → 0 < v.made → v.made < most_passes → IsIdle v → Splits (Kept {S = S} {C = C} {A = A} stands base) id v (parent v) (child v)
  splits id v live first few idle s r at =
      let f = r.each id v at in
      let n = r.now in
      let one : List (View S C K) = set s.views id (parent v) in
      let at' : get_elem? (map card s.views) id ≡ some (card v) = at_map card s.views id v at in
      let made = (r.ranks.one_first id (card v) at' first).1 in
      let nobody : by v.made n.news ≡ [] = by_none v.made n.news (λ k e is same. let c = r.ranks.covered k e is in let b = (r.ranks.kept c.0 e.session c.1 c.2 c.3).1 in omega arith) in
      record {
        now = n;
        words = r.words;
        level = r.level;
        slots = r.slots;
        manned = manned_more one n (child v) (manned_idle s.views n id v (parent v) at idle r.manned);
        each = λ j u e. ⊎_elim (λ (old : get_elem? one j ≡ some u). ⊎_elim
            (λ (t : (j ≡ id) × (parent v ≡ u)). subst (λ (y : ℕ × View S C K). Fits base n y.0 y.1) (λ i. (sym t.0 i, t.1 i))
            record { origin = f.origin; keeper = f.keeper; start = f.start; seen = f.seen; told = f.told; sure = f.sure; told_sure = f.told_sure; own = f.own; turn = f.turn; shelf = f.shelf })
            (λ (t : (j ≢ id) × (get_elem? s.views j ≡ some u)). r.each j u t.1) (at_set s.views id j (parent v) u old))
            (λ (is : child v ≡ u). subst (Fits base n j) is
            record { origin = λ _. f.origin live; keeper = λ _. f.keeper live; start = λ _. f.start live; seen = f.seen; told = (base.version.journal ++ n.news, refl); sure = f.sure; told_sure = omega arith; own = λ _. nobody; turn = tt; shelf = tt }) (at_snoc one (child v) u j e);
        serials = r.serials;
        ranks = subst (Ranks n.news) (sym (map-append card one (child v ∷ []) ∙ ap (λ (l : List (Card C)). l ++ card (child v) ∷ []) (map-set card s.views id (parent v))))
            (ranks_split n.news (map card s.views) id (card v) r.ranks at' first few);
      }

  pub takes_in : (id other : ℕ) (v w : View S C K) → v.live ≡ 1 → IsIdle v → w.live ≡ 1 → w.made ≡ 0 → IsIdle w → Joins (Kept {S = S} {C = C} {A = A} stands base) id v other w (took_in v w) blank
  takes_in id other v w live idle alive small calm s r at apart there =
      let there' : get_elem? s.views other ≡ some w = sym (set_else s.views id other (took_in v w) apart) ∙ there in
      joined id other v w (took_in v w) idle calm s r at apart there
      (λ f g. record { origin = f.origin; keeper = f.keeper; start = f.start; seen = f.seen; told = g.seen; sure = f.sure; told_sure = g.sure; own = f.own; turn = f.turn; shelf = f.shelf })
      (subst (Ranks r.now.news) (sym (map-set card (set s.views id (took_in v w)) other blank ∙ ap (λ (l : List (Card C)). set l other (card (blank {S = S} {C = C} {K = K}))) (map-set card s.views id (took_in v w))))
      (ranks_join r.now.news (map card s.views) id other (card v) (card w) w.own r.ranks (at_map card s.views id v at) (at_map card s.views other w there') apart live alive small ((r.each other w there').own alive)))
