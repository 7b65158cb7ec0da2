-- The lock is closed by the pass that all others have ended into.
use Rattle.std.proofs.Common.{◌≡◌, ℕ, ◌+◌, ◌<◌, ◌≤◌, eqb, zero, suc, Bool, true, false, List, [], ◌∷◌, ◌++◌, map, length, drop, get_or, set, length-append, sym, refl, ap, ◌∙◌, subst, ⊎_elim, ◌⊎◌, inl, inr, arith, Option, Some, None, ◌||◌, eq-eqb, ne_eqb, eqb-true, get_or-set_other}
use Rattle.std.proofs.Math.Seq.{drop-append_seam}
use Rattle.std.proofs.lemmas.Map.Steps.{length-le_from_distinct_below}
use Rattle.std.proofs.lemmas.Map.Keys.{IsDistinct-from_apart}
use Rattle.std.specs.List.{IsDistinct, list_any}
use mathlib.Core.Logic.{dite}
use native.Mathlib.Decide.{ℕ_discrete}
use mathlib.Core.Option.{some, some-injective, some-ne-none}
use mathlib.Core.List.{IsPrefix}
use lib.ListN.{get_elem?}
use Rattle.std.specs.Arc.{arc_value}
use Rattle.std_alloc.specs.declared.arc.Arc.{Arc}
use Rattle.atomic_table.specs.Table.{State, Final, Seen}
use Rattle.atomic_table.specs.Seated.{TableId}
use Rattle.atomic_table.proofs.Lists.{at_map}
use Rattle.desk_model.specs.declared.entry.Entry.{Entry}
use Rattle.desk_model.specs.Histories.{History, CountsFrom}
use Rattle.desk_lock.specs.declared.board.Store.{Store}
use Rattle.desk_lock.specs.declared.board.View.{View}
use Rattle.desk_lock.specs.declared.board.Turn.{Turn}
use Rattle.desk_lock.specs.declared.board.Turn.TheVariants.{NoTurn, HasTurn}
use Rattle.desk_lock.specs.Numbers.{Card, Ranks, by, IsIn, AreApart, names, numbers, numbers_at}
use Rattle.desk_lock.specs.declared.board.Laid.{Laid}
use Rattle.desk_lock.specs.Board.{Slot, KnowsTurn, Kept, card, IsTurn, InTurn}
use Rattle.desk_lock.specs.Seats.{Beginning, IsIdle}
use Rattle.desk_lock.specs.Words.{LockView, PassView, Closes}
use Rattle.desk_lock.proofs.Lists.{same_at, some_same}
use Rattle.desk_lock.proofs.Keeping.{not_turn, settled_front}
use Rattle.desk_lock.proofs.Knowing.{seat_pass}

abbrev IsFalse : Bool → Type 0
IsFalse true = ⊥
IsFalse false = Unit {0}

or_split : (b c : Bool) → (b || c) ≡ true → (b ≡ true) ⊎ (c ≡ true)
or_split true c e = inl refl
or_split false c e = inr e

or_right : (b c : Bool) → c ≡ true → (b || c) ≡ true
or_right true c e = refl
or_right false c e = e

found : (l : List ℕ) (n : ℕ) → list_any (eqb n) l ≡ true → IsIn n l
found [] n is = absurd (subst IsFalse is tt)
found (x ∷ l) n is = ⊎_elim (λ e. (0, ap some (sym (eqb-true n x e)))) (λ e. let h = found l n e in (suc h.0, h.1)) (or_split (eqb n x) (list_any (eqb n) l) is)

member : (l : List ℕ) (n k : ℕ) → get_elem? l k ≡ some n → list_any (eqb n) l ≡ true
member [] n k e = absurd (some-ne-none n (sym e))
member (x ∷ l) n zero e = ap (λ b. b || list_any (eqb n) l) (eq-eqb n x (sym (some-injective x n e)))
member (x ∷ l) n (suc k) e = or_right (eqb n x) (list_any (eqb n) l) (member l n k e)

added : (l : List ℕ) (n : ℕ) → AreApart l → list_any (eqb n) l ≡ false → AreApart (n ∷ l)
added l n apart is zero zero q a b = refl
added l n apart is zero (suc j) q a b = absurd (subst IsFalse (sym is ∙ member l n j (b ∙ sym a)) tt)
added l n apart is (suc i) zero q a b = absurd (subst IsFalse (sym is ∙ member l n i (a ∙ sym b)) tt)
added l n apart is (suc i) (suc j) q a b = ap suc (apart i j q a b)

at_or : (l : List ℕ) (i d : ℕ) → i < length l → get_elem? l i ≡ some (get_or l i d)
at_or [] i d h = absurd (omega arith)
at_or (x ∷ l) zero d h = refl
at_or (x ∷ l) (suc i) d h = at_or l i d (omega arith)

apart_false : (l : List ℕ) → AreApart l → (i j d : ℕ) → i < j → j < length l → eqb (get_or l i d) (get_or l j d) ≡ false
apart_false l apart i j d lt inside = ne_eqb (get_or l i d) (get_or l j d) (λ same. let e = apart i j (get_or l j d) (at_or l i d (omega arith) ∙ ap some same) (at_or l j d inside) in omega arith)

under : (l : List ℕ) (n m q : ℕ) → n < m → (IsIn q l → q < m) → list_any (eqb q) (n ∷ l) ≡ true → q < m
under l n m q small each is = ⊎_elim (λ e. let same = eqb-true q n e in omega arith) (λ e. each (found l q e)) (or_split (eqb q n) (list_any (eqb q) l) is)

-- a list of m numbers below m, no two of them equal, has each of these
full : (l : List ℕ) (m n : ℕ) → AreApart l → ((q : ℕ) → IsIn q l → q < m) → m ≤ length l → n < m → IsIn n l
full l m n apart below long small = dite' (list_any (eqb n) l) refl
  where
    dite' : (b : Bool) → list_any (eqb n) l ≡ b → IsIn n l
    dite' true is = found l n is
    dite' false is = let d : IsDistinct eqb (n ∷ l) = IsDistinct-from_apart eqb (n ∷ l) (apart_false (n ∷ l) (added l n apart is)) in
        let h = length-le_from_distinct_below (n ∷ l) m d (λ q is'. under l n m q small (λ i. below q i) is') in absurd (omega arith)

alive : {C : Type 0} (t : Turn C) (h owed : List (Entry C)) (turn holder j live : ℕ) → IsTurn t → KnowsTurn h owed turn holder j live t → live ≡ 1
alive NoTurn h owed turn holder j live is k = absurd is
alive (HasTurn g p) h owed turn holder j live is k = k.3

module _ {C : Type 0} where
  length_names : (es : List (ℕ × List (Entry C))) → length (names es) ≡ length es
  length_names [] = refl
  length_names (x ∷ es) = let h = length_names es in omega arith

-- a place that was emptied
emptied : (l : List Bool) (i : ℕ) → get_or (set l i false) i false ≡ false
emptied [] i = refl
emptied (x ∷ l) zero = refl
emptied (x ∷ l) (suc i) = emptied l i

-- both slots are empty, once both were taken out
pub both_empty : (l m : List Bool) (n : ℕ) → m ≡ set (set l 0 false) 1 false → n ≡ 2 → (k : ℕ) → k < n → get_or m k false ≡ false
both_empty l m n is two k small = ap (λ (z : List Bool). get_or z k false) is ∙ dite (ℕ_discrete k 1)
    (λ e. subst (λ (z : ℕ). get_or (set (set l 0 false) 1 false) z false ≡ false) (sym e) (emptied (set l 0 false) 1))
    (λ ne. let zero_is : k ≡ 0 = omega arith in get_or-set_other (set l 0 false) 1 k false false ne ∙ subst (λ (z : ℕ). get_or (set l 0 false) z false ≡ false) (sym zero_is) (emptied l 0))

abbrev IsHeld : {X : Type 0} → Option X → Type 0
IsHeld None = ⊥
IsHeld (Some a) = Unit {0}

module _ {S C K : Type 0} where
  -- the first pass has every number
  every : (news : List (Entry C)) (cards : List (Card C)) → Ranks news cards → (id : ℕ) (v : View S C K) → get_elem? cards id ≡ some (card v) → v.live ≡ 1 → v.made ≡ 1 + length v.ended
      → (n : ℕ) → n < v.made → IsIn n (numbers (card v))
  every news cards r id v at live all n small =
      let mine = (r.one_first id (card v) at (omega arith)).1 in
      let long : length (numbers_at 1 v.number v.ended) ≡ 1 + length v.ended = (let h = length_names v.ended in omega arith) in
      let long' : length (numbers (card v)) ≡ 1 + length v.ended = subst (λ (k : ℕ). length (numbers_at k v.number v.ended) ≡ 1 + length v.ended) (sym live) long in
      full (numbers (card v)) v.made n (r.apart id (card v) at) (λ q i. let b = (r.kept id q (card v) at i).1 in omega arith) (omega arith) small

-- what lies at home at the end, where so many entries are sure
pub record Left {S C A K : Type 0} (stands : Store K → List (Entry C) → List (Entry C) → Type 0) (a : Laid (Arc (History S C) A) K) (sure : ℕ) : Type 0 where
  pub settled : List (Entry C)
  pub begins : IsPrefix settled (arc_value a.version).journal
  pub long : a.settled ≡ length settled
  pub keeps : stands a.store settled (arc_value a.version).journal
  pub enough : sure ≤ length settled

module _ {S C A K : Type 0} {stands : K → Store K → List (Entry C) → List (Entry C) → Type 0} (base : Beginning S C K) where
  -- at the end nobody has the turn
  free : (s : State (Slot S C A K) (View S C K)) → (r : Kept stands base s) → (id : ℕ) (v : View S C K) → get_elem? s.views id ≡ some v → v.live ≡ 1 → IsIdle v → v.made ≡ 1 + length v.ended → r.now.turn ≡ 0
  free s r id v at live idle all =
      let n = r.now in
      let at' : get_elem? (map card s.views) id ≡ some (card v) = at_map card s.views id v at in
      let has : (k : ℕ) → k < v.made → IsIn k (numbers (card v)) = every n.news (map card s.views) r.ranks id v at' live all in
      let made : v.made ≡ r.ranks.made = (r.ranks.one_first id (card v) at' (omega arith)).1 in
      dite (ℕ_discrete n.turn 0) (λ e. e) (λ ne. absurd (
      let h = r.manned.turn ne in let u : View S C K = h.0 in let there' : get_elem? (map card s.views) n.holder ≡ some (card u) = at_map card s.views n.holder u h.1 in
      let up : u.live ≡ 1 = alive u.turn _ _ _ _ _ u.live h.2 (r.each n.holder u h.1).turn in
      let in_u : IsIn u.number (numbers (card u)) = subst (λ (k : ℕ). IsIn u.number (numbers_at k u.number u.ended)) (sym up) (0, refl) in
      let k = r.ranks.kept n.holder u.number (card u) there' in_u in let below = k.1 in
      let k' = r.ranks.kept id u.number (card v) at' (has u.number (omega arith)) in
      let one : n.holder ≡ id = sym k.0 ∙ k'.0 in
      let same : u ≡ v = same_at s.views id u v (subst (λ (z : ℕ). get_elem? s.views z ≡ some u) one h.1) at in
      not_turn v.turn idle.0 (subst InTurn same h.2)))

  closes : (s : State (Slot S C A K) (View S C K)) → Kept stands base s → (id : ℕ) (v : View S C K) → get_elem? s.views id ≡ some v → v.live ≡ 1 → IsIdle v → v.made ≡ 1 + length v.ended
      → (items : List (Slot S C A K)) → ((k : ℕ) (y : Slot S C A K) → get_elem? s.homes k ≡ some (some y) → get_elem? items k ≡ some y) → (x : Slot S C A K) → get_elem? items 0 ≡ some x
      → (z y : TableId) (o : S) → (a : Laid (Arc (History S C) A) K) × (x ≡ Some a) × Closes record { table = z; version = base.version; keeper = base.keeper } (seat_pass y o v) (arc_value a.version) × Left (stands base.keeper) a v.sure
  closes s r id v at live idle all items values x there z y o =
      let n = r.now in
      let f = r.each id v at in
      let at' : get_elem? (map card s.views) id ≡ some (card v) = at_map card s.views id v at in
      let has : (k : ℕ) → k < v.made → IsIn k (numbers (card v)) = every n.news (map card s.views) r.ranks id v at' live all in
      let made : v.made ≡ r.ranks.made = (r.ranks.one_first id (card v) at' (omega arith)).1 in
      let freed = free s r id v at live idle all in
      let home = r.slots.home freed in
      let a : Laid (Arc (History S C) A) K = home.0 in
      let j : (arc_value a.version).journal ≡ base.version.journal ++ n.news = home.3 in
      let news : drop (length base.version.journal) (arc_value a.version).journal ≡ n.news = ap (drop (length base.version.journal)) j ∙ drop-append_seam base.version.journal n.news in
      let listed : numbers (card v) ≡ v.number ∷ names v.ended = ap (λ (k : ℕ). numbers_at k v.number v.ended) live in (
        a,
        same_at items 0 x (Some a) there (values 0 (Some a) home.1),
        record {
          opening = home.2;
          seen = subst (IsPrefix v.seen) (sym j) f.seen;
          serials = λ k. subst (CountsFrom 0) (sym (ap (by k) news)) (r.serials k);
          apart = subst AreApart listed (r.ranks.apart id (card v) at');
          mine = ap (by v.number) news ∙ f.own live;
          ended = λ k e is. ap (by e.0) news ∙ r.ranks.ended id k (card v) e at' is;
          all = λ k e is. let c = r.ranks.covered k e (subst (λ (l : List (Entry C)). get_elem? l k ≡ some e) news is) in let b = (r.ranks.kept c.0 e.session c.1 c.2 c.3).1 in subst (IsIn e.session) listed (has e.session (omega arith));
        },
        record {
          settled = base.version.journal ++ n.shelved;
          begins = subst (IsPrefix (base.version.journal ++ n.shelved)) (sym j) (settled_front base n r.level);
          long = home.4.settled;
          keeps = subst (λ (k : K). stands k a.store (base.version.journal ++ n.shelved) (arc_value a.version).journal) (sym (some_same base.keeper home.4.first home.4.begun)) home.4.keeps;
          enough = let l = length-append base.version.journal n.shelved in let sure = f.sure in omega arith;
        },
      )

module _ {S C A K : Type 0} (stands : K → Store K → List (Entry C) → List (Entry C) → Type 0) where
  -- what stands at the end, for the lock and the pass as callers see them
  abbrev pub End : LockView S C K → PassView S C → Slot S C A K → Type 0
  End l q x = (a : Laid (Arc (History S C) A) K) × (x ≡ Some a) × Closes l q (arc_value a.version) × Left (stands l.keeper) a q.sure

  pub ends : (base : Beginning S C K) (l : LockView S C K) (q : PassView S C) (z y : TableId) (o : S) (id : ℕ) (v : View S C K) (ws : List ℕ) (items : List (Slot S C A K)) (x : Slot S C A K) → record { table = z; version = base.version; keeper = base.keeper } ≡ l → seat_pass y o v ≡ q
      → Final (Seen (Kept stands base) id v) ws items → v.live ≡ 1 → IsIdle v → q.made ≡ 1 + length q.ended → get_elem? items 0 ≡ some x → End l q x
  ends base l q z y o id v ws items x is same fin live idle all there =
      let all' : v.made ≡ 1 + length v.ended = subst (λ (p : PassView S C). p.made ≡ 1 + length p.ended) (sym same) all in
      subst (λ (e : LockView S C K × PassView S C). End e.0 e.1 x) (λ i. (is i, same i)) (closes base fin.0 fin.1.0 id v fin.1.1 live idle all' items fin.4 x there z y o)

  pub never_none : (l : LockView S C K) (q : PassView S C) (x : Slot S C A K) → End l q x → x ≡ None → ⊥
  never_none l q x h is = subst (λ (o : Slot S C A K). IsHeld o) (sym h.1 ∙ is) tt

  pub that_one : (l : LockView S C K) (q : PassView S C) (x : Slot S C A K) (b : Laid (Arc (History S C) A) K) → End l q x → x ≡ Some b → Closes l q (arc_value b.version) × Left (stands l.keeper) b q.sure
  that_one l q x b h is = subst (λ (a : Laid (Arc (History S C) A) K). Closes l q (arc_value a.version) × Left (stands l.keeper) a q.sure) (some_same h.0 b (sym h.1 ∙ is)) (h.2, h.3)
