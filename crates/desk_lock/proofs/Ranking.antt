-- The numbers of passes, through the steps.
use Rattle.std.proofs.Common.{◌≡◌, ◌≢◌, ℕ, zero, suc, ◌<◌, List, [], ◌∷◌, ◌++◌, map, set, length, refl, ap, sym, ◌∙◌, subst, ⊎_elim, arith, ◌+◌, ◌⊎◌, inl, inr, eqb, if◌then◌else◌, length-set, eq-eqb, ne_eqb}
use native.Mathlib.Decide.{ℕ_discrete}
use mathlib.Core.Logic.{dite}
use mathlib.Core.Option.{some, some-ne-none, some-injective}
use lib.ListN.{get_elem?}
use lib.Seq.{map-set}
use Rattle.atomic_table.proofs.Lists.{at_snoc, at_map, set_again, at_set, set_here, set_else, at_longer}
use Rattle.desk_model.specs.declared.entry.Entry.{Entry}
use Rattle.desk_model.specs.Histories.{SessionsBelow}
use Rattle.desk_lock.specs.declared.board.View.{View}
use Rattle.desk_lock.specs.Numbers.{Card, Ranks, by, names, numbers, numbers_at, IsIn, AreApart, most_passes}
use Rattle.desk_lock.specs.Board.{card}
use Rattle.desk_lock.proofs.Lists.{by_other, same_at, inside, snoc_at, at_append, at_right, all_below}

module _ {S C K : Type 0} where
  pub cards_stay : (vs : List (View S C K)) (id : ℕ) (v w : View S C K) → get_elem? vs id ≡ some v → card w ≡ card v → map card (set vs id w) ≡ map card vs
  cards_stay vs id v w at e = map-set card vs id w ∙ (ap (set (map card vs) id) e ∙ set_again (map card vs) id (card v) (at_map card vs id v at))

module _ {C : Type 0} where
  pub in_names : (es : List (ℕ × List (Entry C))) (k : ℕ) (x : ℕ × List (Entry C)) → get_elem? es k ≡ some x → get_elem? (names es) k ≡ some x.0
  in_names [] k x e = absurd (some-ne-none x (sym e))
  in_names (y ∷ es) zero x e = ap (λ (z : ℕ × List (Entry C)). some z.0) (some-injective y x e)
  in_names (y ∷ es) (suc k) x e = in_names es k x e

  -- where the number of an ended pass stands
  pub ended_in : (c : Card C) (k : ℕ) (x : ℕ × List (Entry C)) → get_elem? c.ended k ≡ some x → (n : ℕ) → c.live ≡ n → IsIn x.0 (numbers_at n c.number c.ended)
  ended_in c k x e zero l = (k, in_names c.ended k x e)
  ended_in c k x e (suc n) l = (suc k, in_names c.ended k x e)

  pub grown : (news : List (Entry C)) (cards : List (Card C)) (id : ℕ) (c : Card C) (e : Entry C) → Ranks news cards → get_elem? cards id ≡ some c → c.live ≡ 1 → e.session ≡ c.number → Ranks (news ++ e ∷ []) cards
  grown news cards id c e r at live mine =
      let own : IsIn e.session (numbers c) = subst (λ (n : ℕ). IsIn e.session (numbers_at n c.number c.ended)) (sym live) (0, ap some (sym mine)) in
      record {
        first = r.first;
        made = r.made;
        keeper = r.keeper;
        few = r.few;
        one_first = r.one_first;
        kept = r.kept;
        apart = r.apart;
        covered = λ k f is. ⊎_elim (λ old. r.covered k f old) (λ (new : e ≡ f). subst (λ (z : Entry C). (j : ℕ) × (d : Card C) × (get_elem? cards j ≡ some d) × IsIn z.session (numbers d)) new (id, c, at, own)) (at_snoc news e f k is);
        ended = λ j k d x here there. by_other x.0 news e (λ (same : e.session ≡ x.0).
            let a = ended_in d k x there d.live refl in
            let one : r.keeper x.0 ≡ j = (r.kept j x.0 d here a).0 in
            let two : r.keeper e.session ≡ id = (r.kept id e.session c at own).0 in
            let ids : id ≡ j = sym two ∙ (ap r.keeper same ∙ one) in
            let cs : d ≡ c = same_at cards j d c here (subst (λ (z : ℕ). get_elem? cards z ≡ some c) ids at) in
            clash c k x (subst (λ (z : Card C). get_elem? z.ended k ≡ some x) cs there) live (sym mine ∙ same) (r.apart id c at)) ∙ r.ended j k d x here there;
      }
    where
      clash : (c : Card C) (k : ℕ) (x : ℕ × List (Entry C)) → get_elem? c.ended k ≡ some x → c.live ≡ 1 → c.number ≡ x.0 → AreApart (numbers c) → ⊥
      clash c k x there live is apart = let p : AreApart (numbers_at 1 c.number c.ended) = subst (λ (n : ℕ). AreApart (numbers_at n c.number c.ended)) live apart in
          let q : 0 ≡ suc k = p 0 (suc k) x.0 (ap some is) (in_names c.ended k x there) in omega arith

  -- two seats with one number are one seat
  pub one_seat : (news : List (Entry C)) (cards : List (Card C)) → Ranks news cards → (i j : ℕ) (c d : Card C) → get_elem? cards i ≡ some c → get_elem? cards j ≡ some d → c.live ≡ 1 → d.live ≡ 1 → c.number ≡ d.number → i ≡ j
  one_seat news cards r i j c d here there live alive same =
      let a : IsIn c.number (numbers c) = subst (λ (n : ℕ). IsIn c.number (numbers_at n c.number c.ended)) (sym live) (0, refl) in
      let b : IsIn d.number (numbers d) = subst (λ (n : ℕ). IsIn d.number (numbers_at n d.number d.ended)) (sym alive) (0, refl) in
      sym (r.kept i c.number c here a).0 ∙ (ap r.keeper same ∙ (r.kept j d.number d there b).0)

in_append : (l m : List ℕ) (n : ℕ) → IsIn n (l ++ m) → IsIn n l ⊎ IsIn n m
in_append l m n i = ⊎_elim (λ t. inl (i.0, t)) (λ (t : (k : ℕ) × (i.0 ≡ length l + k) × (get_elem? m k ≡ some n)). inr (t.0, t.2)) (at_append l m i.0 n i.1)

in_left : (l m : List ℕ) (n : ℕ) → IsIn n l → IsIn n (l ++ m)
in_left l m n i = (i.0, at_longer l m i.0 n i.1)

in_right : (l m : List ℕ) (n : ℕ) → IsIn n m → IsIn n (l ++ m)
in_right l m n i = (length l + i.0, at_right l m i.0 (length l + i.0) n refl i.1)

apart_append : (l m : List ℕ) → AreApart l → AreApart m → ((n : ℕ) → IsIn n l → IsIn n m → ⊥) → AreApart (l ++ m)
apart_append l m a b never i j n x y = ⊎_elim
    (λ (s : get_elem? l i ≡ some n). ⊎_elim (λ (t : get_elem? l j ≡ some n). a i j n s t) (λ (t : (k : ℕ) × (j ≡ length l + k) × (get_elem? m k ≡ some n)). absurd (never n (i, s) (t.0, t.2))) (at_append l m j n y))
    (λ (s : (k : ℕ) × (i ≡ length l + k) × (get_elem? m k ≡ some n)). ⊎_elim (λ (t : get_elem? l j ≡ some n). absurd (never n (j, t) (s.0, s.2)))
    (λ (t : (k : ℕ) × (j ≡ length l + k) × (get_elem? m k ≡ some n)). s.1 ∙ (ap (λ k. length l + k) (b s.0 t.0 n s.2 t.2) ∙ sym t.1)) (at_append l m j n y)) (at_append l m i n x)

module _ {C : Type 0} where
  names_append : (l m : List (ℕ × List (Entry C))) → names (l ++ m) ≡ names l ++ names m
  names_append [] m = refl
  names_append (x ∷ l) m = ap (λ z. x.0 ∷ z) (names_append l m)

  joined_numbers : (c d : Card C) (o : List (Entry C)) → c.live ≡ 1 → d.live ≡ 1 → numbers (record c { ended = c.ended ++ (d.number, o) ∷ d.ended }) ≡ numbers c ++ numbers d
  joined_numbers c d o live alive = ap (λ (k : ℕ). numbers_at k c.number (c.ended ++ (d.number, o) ∷ d.ended)) live
      ∙ (ap (λ z. c.number ∷ z) (names_append c.ended ((d.number, o) ∷ d.ended)) ∙ (λ i. numbers_at (sym live i) c.number c.ended ++ numbers_at (sym alive i) d.number d.ended))

  pub ranks_more : (news : List (Entry C)) (cards : List (Card C)) → Ranks news cards → Ranks news (cards ++ record { live = 0; number = 0; made = 0; ended = [] } ∷ [])
  ranks_more news cards r = let blank_card : Card C = record { live = 0; number = 0; made = 0; ended = [] } in record {
    first = r.first;
    made = r.made;
    keeper = r.keeper;
    few = r.few;
    one_first = λ j c at some_made. ⊎_elim (λ old. r.one_first j c old some_made) (λ (e : blank_card ≡ c). let z : 0 ≡ c.made = ap (λ (x : Card C). x.made) e in absurd (omega arith)) (at_snoc cards blank_card c j at);
    kept = λ j n c at i. ⊎_elim (λ old. r.kept j n c old i) (λ (e : blank_card ≡ c). absurd (nothing n (subst (λ (x : Card C). IsIn n (numbers x)) (sym e) i))) (at_snoc cards blank_card c j at);
    apart = λ j c at. ⊎_elim (λ old. r.apart j c old) (λ (e : blank_card ≡ c). subst (λ (x : Card C). AreApart (numbers x)) e (λ i k n a b. absurd (some-ne-none n (sym a)))) (at_snoc cards blank_card c j at);
    covered = λ k e at. let c = r.covered k e at in (c.0, c.1, at_longer cards (blank_card ∷ []) c.0 c.1 c.2, c.3);
    ended = λ j k c x at there. ⊎_elim (λ old. r.ended j k c x old there) (λ (e : blank_card ≡ c). absurd (some-ne-none x (sym (subst (λ (y : Card C). get_elem? y.ended k ≡ some x) (sym e) there)))) (at_snoc cards blank_card c j at);
  }
    where
      nothing : (n : ℕ) → IsIn n [] → ⊥
      nothing n i = some-ne-none n (sym i.1)

  -- the card c makes one pass more, whose card is d
  pub ranks_split : (news : List (Entry C)) (cards : List (Card C)) (id : ℕ) (c : Card C) → Ranks news cards → get_elem? cards id ≡ some c → 0 < c.made → c.made < most_passes
      → Ranks news (set cards id (record c { made = c.made + 1 }) ++ record { live = 1; number = c.made; made = 0; ended = [] } ∷ [])
  ranks_split news cards id c r at first few =
      let c' : Card C = record c { made = c.made + 1 } in let d : Card C = record { live = 1; number = c.made; made = 0; ended = [] } in
      let one : List (Card C) = set cards id c' in
      let is_first = r.one_first id c at first in let made = is_first.1 in
      let old : (j : ℕ) (e : Card C) → get_elem? one j ≡ some e → (x : Card C) × (get_elem? cards j ≡ some x) × (numbers x ≡ numbers e) × (x.ended ≡ e.ended) × (0 < e.made → (0 < x.made) × (e.made ≡ x.made + 1)) =
      λ j e is. ⊎_elim (λ (t : (j ≡ id) × (c' ≡ e)). (c, subst (λ (z : ℕ). get_elem? cards z ≡ some c) (sym t.0) at, ap numbers t.1, ap (λ (z : Card C). z.ended) t.1, λ _. (first, ap (λ (z : Card C). z.made) (sym t.1))))
      (λ (t : (j ≢ id) × (get_elem? cards j ≡ some e)). (e, t.1, refl, refl, λ some_made. absurd (t.0 ((r.one_first j e t.1 some_made).0 ∙ sym is_first.0)))) (at_set cards id j c' e is) in
      record {
        first = r.first;
        made = r.made + 1;
        keeper = λ n. if eqb n c.made then length cards else r.keeper n;
        few = omega (arith, made, few);
        one_first = λ j e is some_made. ⊎_elim (λ o. let x = old j e o in let y = x.4 some_made in let z = r.one_first j x.0 x.1 y.0 in (z.0, y.1 ∙ ap (λ k. k + 1) z.1)) (λ (q : d ≡ e). let z : 0 ≡ e.made = ap (λ (y : Card C). y.made) q in absurd (omega arith)) (at_snoc one d e j is);
        kept = λ j n e is i. ⊎_elim (λ (t : get_elem? one j ≡ some e). let x = old j e t in let k = r.kept j n x.0 x.1 (subst (IsIn n) (sym x.2) i) in let below = k.1 in
            (ap (λ b. if b then length cards else r.keeper n) (ne_eqb n c.made (λ same. omega arith)) ∙ k.0, omega arith))
            (λ (t : (d ≡ e) × (j ≡ length one)). let m : n ≡ c.made = alone n c.made (subst (λ (z : Card C). IsIn n (numbers z)) (sym t.0) i) in
            (ap (λ b. if b then length cards else r.keeper n) (eq-eqb n c.made m) ∙ (sym (length-set cards id c') ∙ sym t.1), omega arith)) (snoc_at one d e j is);
        apart = λ j e is. ⊎_elim (λ o. let x = old j e o in subst AreApart x.2 (r.apart j x.0 x.1)) (λ (q : d ≡ e). subst (λ (z : Card C). AreApart (numbers z)) q (alone_apart c.made)) (at_snoc one d e j is);
        covered = λ k e is. let x = r.covered k e is in dite (ℕ_discrete x.0 id)
            (λ same. (id, c', at_longer one (d ∷ []) id c' (set_here cards id c' (inside cards id c at)), subst (λ (z : Card C). IsIn e.session (numbers z)) (same_at cards id x.1 c (subst (λ (z : ℕ). get_elem? cards z ≡ some x.1) same x.2) at) x.3))
            (λ other. (x.0, x.1, at_longer one (d ∷ []) x.0 x.1 (set_else cards id x.0 c' other ∙ x.2), x.3));
        ended = λ j k e y is there. ⊎_elim (λ o. let x = old j e o in r.ended j k x.0 y x.1 (subst (λ (l : List (ℕ × List (Entry C))). get_elem? l k ≡ some y) (sym x.3) there)) (λ (q : d ≡ e). absurd (some-ne-none y (sym (subst (λ (z : Card C). get_elem? z.ended k ≡ some y) (sym q) there)))) (at_snoc one d e j is);
      }
    where
      alone : (n m : ℕ) → IsIn n (m ∷ []) → n ≡ m
      alone n m i = ⊎_elim (λ z. absurd (some-ne-none n (sym z))) (λ e. sym e) (at_snoc [] m n i.0 i.1)

      zero_of : (m i n : ℕ) → get_elem? (m ∷ []) i ≡ some n → i ≡ 0
      zero_of m i n e = let h = inside (m ∷ []) i n e in omega arith

      alone_apart : (m : ℕ) → AreApart (m ∷ [])
      alone_apart m i j n a b = zero_of m i n a ∙ sym (zero_of m j n b)

  -- the card d is joined into the card c
  pub ranks_join : (news : List (Entry C)) (cards : List (Card C)) (id other : ℕ) (c d : Card C) (o : List (Entry C)) → Ranks news cards → get_elem? cards id ≡ some c → get_elem? cards other ≡ some d → other ≢ id
      → c.live ≡ 1 → d.live ≡ 1 → d.made ≡ 0 → by d.number news ≡ o
      → Ranks news (set (set cards id (record c { ended = c.ended ++ (d.number, o) ∷ d.ended })) other record { live = 0; number = 0; made = 0; ended = [] })
  ranks_join news cards id other c d o r at there apart live alive small own =
      let c' : Card C = record c { ended = c.ended ++ (d.number, o) ∷ d.ended } in let z : Card C = record { live = 0; number = 0; made = 0; ended = [] } in
      let one : List (Card C) = set cards id c' in
      let all : numbers c' ≡ numbers c ++ numbers d = joined_numbers c d o live alive in
      let look : (j : ℕ) (e : Card C) → get_elem? (set one other z) j ≡ some e → ((j ≡ other) × (z ≡ e)) ⊎ (((j ≡ id) × (c' ≡ e)) ⊎ ((j ≢ other) × (get_elem? cards j ≡ some e))) =
      λ j e is. ⊎_elim (λ t. inl t) (λ (t : (j ≢ other) × (get_elem? one j ≡ some e)). inr (⊎_elim (λ q. inl q) (λ (q : (j ≢ id) × (get_elem? cards j ≡ some e)). inr (t.0, q.1)) (at_set cards id j c' e t.1))) (at_set one other j z e is) in
      let here : get_elem? (set one other z) id ≡ some c' = set_else one other id z (λ e. apart (sym e)) ∙ set_here cards id c' (inside cards id c at) in
      let keeper : ℕ → ℕ = λ n. if eqb (r.keeper n) other then id else r.keeper n in
      let stays : (n j : ℕ) → r.keeper n ≡ j → j ≢ other → keeper n ≡ j = λ n j k no_other. ap (λ b. if b then id else r.keeper n) (ne_eqb (r.keeper n) other (λ e. no_other (sym k ∙ e))) ∙ k in
      let moves : (n : ℕ) → r.keeper n ≡ other → keeper n ≡ id = λ n k. ap (λ b. if b then id else r.keeper n) (eq-eqb (r.keeper n) other k) in
      record {
        first = r.first;
        made = r.made;
        keeper = keeper;
        few = r.few;
        one_first = λ j e is some_made. ⊎_elim (λ (t : (j ≡ other) × (z ≡ e)). absurd (let q : 0 ≡ e.made = ap (λ (y : Card C). y.made) t.1 in omega arith))
            (λ u. ⊎_elim (λ (t : (j ≡ id) × (c' ≡ e)). let m : c.made ≡ e.made = ap (λ (y : Card C). y.made) t.1 in let w = r.one_first id c at (omega arith) in (t.0 ∙ w.0, sym m ∙ w.1))
            (λ (t : (j ≢ other) × (get_elem? cards j ≡ some e)). r.one_first j e t.1 some_made) u) (look j e is);
        kept = λ j n e is i. ⊎_elim (λ (t : (j ≡ other) × (z ≡ e)). absurd (nobody n (subst (λ (y : Card C). IsIn n (numbers y)) (sym t.1) i)))
            (λ u. ⊎_elim (λ (t : (j ≡ id) × (c' ≡ e)). ⊎_elim (λ (q : IsIn n (numbers c)). let k = r.kept id n c at q in (stays n id k.0 (λ e. apart (sym e)) ∙ sym t.0, k.1))
            (λ (q : IsIn n (numbers d)). let k = r.kept other n d there q in (moves n k.0 ∙ sym t.0, k.1)) (in_append (numbers c) (numbers d) n (subst (IsIn n) all (subst (λ (y : Card C). IsIn n (numbers y)) (sym t.1) i))))
            (λ (t : (j ≢ other) × (get_elem? cards j ≡ some e)). let k = r.kept j n e t.1 i in (stays n j k.0 t.0, k.1)) u) (look j e is);
        apart = λ j e is. ⊎_elim (λ (t : (j ≡ other) × (z ≡ e)). subst (λ (y : Card C). AreApart (numbers y)) t.1 (λ i k n a b. absurd (some-ne-none n (sym a))))
            (λ u. ⊎_elim (λ (t : (j ≡ id) × (c' ≡ e)). subst (λ (y : Card C). AreApart (numbers y)) t.1 (subst AreApart (sym all) (apart_append (numbers c) (numbers d) (r.apart id c at) (r.apart other d there)
            (λ n a b. apart (sym (r.kept other n d there b).0 ∙ (r.kept id n c at a).0)))))
            (λ (t : (j ≢ other) × (get_elem? cards j ≡ some e)). r.apart j e t.1) u) (look j e is);
        covered = λ k e is. let x = r.covered k e is in dite (ℕ_discrete x.0 other)
            (λ same. (id, c', here, subst (IsIn e.session) (sym all) (in_right (numbers c) (numbers d) e.session (subst (λ (y : Card C). IsIn e.session (numbers y)) (same_at cards other x.1 d (subst (λ (y : ℕ). get_elem? cards y ≡ some x.1) same x.2) there) x.3))))
            (λ no_other. dite (ℕ_discrete x.0 id)
            (λ same. (id, c', here, subst (IsIn e.session) (sym all) (in_left (numbers c) (numbers d) e.session (subst (λ (y : Card C). IsIn e.session (numbers y)) (same_at cards id x.1 c (subst (λ (y : ℕ). get_elem? cards y ≡ some x.1) same x.2) at) x.3))))
            (λ no_id. (x.0, x.1, set_else one other x.0 z no_other ∙ (set_else cards id x.0 c' no_id ∙ x.2), x.3)));
        ended = λ j k e y is has. ⊎_elim (λ (t : (j ≡ other) × (z ≡ e)). absurd (some-ne-none y (sym (subst (λ (q : Card C). get_elem? q.ended k ≡ some y) (sym t.1) has))))
            (λ u. ⊎_elim (λ (t : (j ≡ id) × (c' ≡ e)). ⊎_elim (λ (q : get_elem? c.ended k ≡ some y). r.ended id k c y at q)
            (λ (q : (i : ℕ) × (k ≡ length c.ended + i) × (get_elem? ((d.number, o) ∷ d.ended) i ≡ some y)). late d o y own (λ i q'. r.ended other i d y there q') q.0 q.2) (at_append c.ended ((d.number, o) ∷ d.ended) k y (subst (λ (q : Card C). get_elem? q.ended k ≡ some y) (sym t.1) has)))
            (λ (t : (j ≢ other) × (get_elem? cards j ≡ some e)). r.ended j k e y t.1 has) u) (look j e is);
      }
    where
      nobody : (n : ℕ) → IsIn n [] → ⊥
      nobody n i = some-ne-none n (sym i.1)

      late : (d : Card C) (o : List (Entry C)) (y : ℕ × List (Entry C)) → by d.number news ≡ o → ((i : ℕ) → get_elem? d.ended i ≡ some y → by y.0 news ≡ y.1) → (i : ℕ) → get_elem? ((d.number, o) ∷ d.ended) i ≡ some y → by y.0 news ≡ y.1
      late d o y own each zero e = let q = some-injective (d.number, o) y e in subst (λ (x : ℕ × List (Entry C)). by x.0 news ≡ x.1) q own
      late d o y own each (suc i) e = each i e

module _ {C : Type 0} where
  -- each entry past the beginning has the number of a pass
  pub sessions_below : (news : List (Entry C)) (cards : List (Card C)) → Ranks news cards → SessionsBelow most_passes news
  sessions_below news cards r = all_below most_passes news (λ k e at. let c = r.covered k e at in omega (arith, r.few, (r.kept c.0 e.session c.1 c.2 c.3).1))

  -- a pass's number
  pub number_below : (news : List (Entry C)) (cards : List (Card C)) (id : ℕ) (c : Card C) → Ranks news cards → get_elem? cards id ≡ some c → c.live ≡ 1 → c.number < most_passes
  number_below news cards id c r at live = omega (arith, r.few, (r.kept id c.number c at (subst (λ (n : ℕ). IsIn c.number (numbers_at n c.number c.ended)) (sym live) (0, refl))).1)
