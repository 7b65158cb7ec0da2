-- Journals: what a session has in them, and their beginnings.
use Rattle.std.proofs.Common.{◌≡◌, ◌≢◌, ℕ, eqb, zero, suc, ◌<◌, ◌≤◌, ◌+◌, Bool, true, false, List, [], ◌∷◌, ◌++◌, length, drop, refl, ap, sym, ◌∙◌, subst, ◌⊎◌, inl, inr, ⊎_elim, arith, append_assoc, cond, Option, Some, None, eq-eqb, ne_eqb, length-append, append-nil}
use Rattle.std.proofs.lemmas.List.{drop-append-le}
use mathlib.Core.Option.{some, some-ne-none, some-injective}
use mathlib.Core.List.{IsPrefix}
use lib.ListN.{get_elem?}
use Rattle.desk_model.specs.declared.entry.Entry.{Entry}
use Rattle.desk_model.specs.Histories.{CountsFrom, SessionsBelow}
use Rattle.desk_lock.specs.Numbers.{by}

module _ {A : Type 0} where
  abbrev some_or : A → Option A → A
  some_or a None = a
  some_or a (Some b) = b

  pub some_same : (a b : A) → Some a ≡ Some b → a ≡ b
  some_same a b e = ap (some_or a) e

  pub inside : (l : List A) (i : ℕ) (a : A) → get_elem? l i ≡ some a → i < length l
  inside [] i a e = absurd (some-ne-none a (sym e))
  inside (x ∷ xs) zero a e = omega arith
  inside (x ∷ xs) (suc i) a e = let h = inside xs i a e in omega arith

  pub same_at : (l : List A) (i : ℕ) (a b : A) → get_elem? l i ≡ some a → get_elem? l i ≡ some b → a ≡ b
  same_at l i a b e f = some-injective a b (sym e ∙ f)

  pub prefix_self : (l : List A) → IsPrefix l l
  prefix_self l = ([], Rattle.std.proofs.lemmas.List.append-nil l)

  pub prefix_more : (l h m : List A) → IsPrefix l h → IsPrefix l (h ++ m)
  prefix_more l h m p = (p.0 ++ m, sym (append_assoc l p.0 m) ∙ ap (λ x. x ++ m) p.1)

  -- a beginning of b and x begins b and what goes on from x
  pub prefix_into : (l b x y : List A) → IsPrefix l (b ++ x) → IsPrefix x y → IsPrefix l (b ++ y)
  prefix_into l b x y p q = subst (λ z. IsPrefix l (b ++ z)) q.1 (subst (IsPrefix l) (append_assoc b x q.0) (prefix_more l (b ++ x) q.0 p))

  pub snoc_at : (l : List A) (a b : A) (j : ℕ) → get_elem? (l ++ a ∷ []) j ≡ some b → (get_elem? l j ≡ some b) ⊎ ((a ≡ b) × (j ≡ length l))
  snoc_at [] a b zero e = inr (some-injective a b e, refl)
  snoc_at [] a b (suc j) e = absurd (some-ne-none b (sym e))
  snoc_at (x ∷ xs) a b zero e = inl e
  snoc_at (x ∷ xs) a b (suc j) e = ⊎_elim (λ t. inl t) (λ (t : (a ≡ b) × (j ≡ length xs)). let q = t.1 in inr (t.0, omega arith)) (snoc_at xs a b j e)

  abbrev head_or : A → List A → A
  head_or d [] = d
  head_or d (x ∷ xs) = x

  abbrev tail_of : List A → List A
  tail_of [] = []
  tail_of (x ∷ xs) = xs

  -- of two beginnings of one list one begins the other
  pub compare : (a b h : List A) → IsPrefix a h → IsPrefix b h → IsPrefix a b ⊎ IsPrefix b a
  compare [] b h p q = inl (b, refl)
  compare (x ∷ a) [] h p q = inr (x ∷ a, refl)
  compare (x ∷ a) (y ∷ b) [] p q = absurd (let e = ap length p.1 in omega arith)
  compare (x ∷ a) (y ∷ b) (z ∷ h) p q = let xz = ap (head_or x) p.1 in let yz = ap (head_or y) q.1 in
      ⊎_elim (λ (t : IsPrefix a b). inl (t.0, (λ i. (xz ∙ sym yz) i ∷ t.1 i))) (λ (t : IsPrefix b a). inr (t.0, (λ i. (yz ∙ sym xz) i ∷ t.1 i)))
      (compare a b h (p.0, ap tail_of p.1) (q.0, ap tail_of q.1))

  pub at_append : (l m : List A) (i : ℕ) (a : A) → get_elem? (l ++ m) i ≡ some a → (get_elem? l i ≡ some a) ⊎ ((k : ℕ) × (i ≡ length l + k) × (get_elem? m k ≡ some a))
  at_append [] m i a e = inr (i, omega arith, e)
  at_append (x ∷ l) m zero a e = inl e
  at_append (x ∷ l) m (suc i) a e = ⊎_elim (λ t. inl t) (λ (t : (k : ℕ) × (i ≡ length l + k) × (get_elem? m k ≡ some a)). let q = t.1 in inr (t.0, omega arith, t.2)) (at_append l m i a e)

  pub at_right : (l m : List A) (k j : ℕ) (a : A) → j ≡ length l + k → get_elem? m k ≡ some a → get_elem? (l ++ m) j ≡ some a
  at_right [] m k j a is e = let same : k ≡ j = omega arith in subst (λ (z : ℕ). get_elem? m z ≡ some a) same e
  at_right (x ∷ l) m k zero a is e = absurd (omega arith)
  at_right (x ∷ l) m k (suc j) a is e = at_right l m k j a (omega arith) e

  pub nil_of : (l : List A) → length l ≡ 0 → l ≡ []
  nil_of [] e = refl
  nil_of (x ∷ l) e = absurd (omega arith)

  pub same_long : (a b : List A) → IsPrefix b a → length a ≤ length b → IsPrefix a b
  same_long a b p h =
      let l = ap length (sym p.1) ∙ length-append b p.0 in
      let none : p.0 ≡ [] = nil_of p.0 (omega arith) in
      ([], append-nil a ∙ (sym p.1 ∙ (ap (λ (z : List A). b ++ z) none ∙ append-nil b)))

  -- of two beginnings of one list the one that is no longer begins the other
  pub within : (a b h : List A) → IsPrefix a h → IsPrefix b h → length a ≤ length b → IsPrefix a b
  within a b h p q short = ⊎_elim (λ (t : IsPrefix a b). t) (λ (t : IsPrefix b a). same_long a b t short) (compare a b h p q)

module _ {C : Type 0} where
  split_by : (b : Bool) (x : Entry C) (l m k : List (Entry C)) → k ≡ l ++ m → cond b (x ∷ k) k ≡ cond b (x ∷ l) l ++ m
  split_by true x l m k e = ap (λ z. x ∷ z) e
  split_by false x l m k e = e

  pub by_append : (n : ℕ) (h m : List (Entry C)) → by n (h ++ m) ≡ by n h ++ by n m
  by_append n [] m = refl
  by_append n (x ∷ h) m = split_by (eqb x.session n) x (by n h) (by n m) (by n (h ++ m)) (by_append n h m)

  pub by_none : (n : ℕ) (h : List (Entry C)) → ((k : ℕ) (e : Entry C) → get_elem? h k ≡ some e → e.session ≢ n) → by n h ≡ []
  by_none n [] no_one = refl
  by_none n (x ∷ h) no_one = ap (λ b. cond b (x ∷ by n h) (by n h)) (ne_eqb x.session n (no_one 0 x refl)) ∙ by_none n h (λ k e at. no_one (suc k) e at)

  joined : (b : Bool) (x e : Entry C) (l m : List (Entry C)) → m ≡ l ++ e ∷ [] → cond b (x ∷ m) m ≡ cond b (x ∷ l) l ++ e ∷ []
  joined true x e l m is = ap (λ z. x ∷ z) is
  joined false x e l m is = is

  pub by_mine : (n : ℕ) (h : List (Entry C)) (e : Entry C) → e.session ≡ n → by n (h ++ e ∷ []) ≡ by n h ++ e ∷ []
  by_mine n [] e is = ap (λ b. cond b (e ∷ []) []) (eq-eqb e.session n is)
  by_mine n (x ∷ h) e is = joined (eqb x.session n) x e (by n h) (by n (h ++ e ∷ [])) (by_mine n h e is)

  pub by_other : (n : ℕ) (h : List (Entry C)) (e : Entry C) → e.session ≢ n → by n (h ++ e ∷ []) ≡ by n h
  by_other n [] e is = ap (λ b. cond b (e ∷ []) []) (ne_eqb e.session n is)
  by_other n (x ∷ h) e is = ap (λ z. cond (eqb x.session n) (x ∷ z) z) (by_other n h e is)

  -- serials that count on, and one more
  pub counts_more : (k : ℕ) (es : List (Entry C)) (e : Entry C) → CountsFrom k es → e.serial ≡ k + length es → CountsFrom k (es ++ e ∷ [])
  counts_more k [] e c h = (omega (arith, h), tt)
  counts_more k (x ∷ es) e c h = (c.0, counts_more (k + 1) es e c.1 (omega (arith, h)))

  no_longer : (b : Bool) (x : Entry C) (l : List (Entry C)) (k : ℕ) → length l ≤ k → length (cond b (x ∷ l) l) ≤ k + 1
  no_longer true x l k h = omega arith
  no_longer false x l k h = omega arith

  pub by_length : (n : ℕ) (h : List (Entry C)) → length (by n h) ≤ length h
  by_length n [] = omega arith
  by_length n (x ∷ h) = let a = no_longer (eqb x.session n) x (by n h) (length h) (by_length n h) in omega arith

  -- each session is below n
  pub all_below : (n : ℕ) (h : List (Entry C)) → ((k : ℕ) (e : Entry C) → get_elem? h k ≡ some e → e.session < n) → SessionsBelow n h
  all_below n [] each = tt
  all_below n (x ∷ h) each = (each 0 x refl, all_below n h (λ k e at. each (suc k) e at))

  pub below_front : (n : ℕ) (g h : List (Entry C)) → SessionsBelow n (g ++ h) → SessionsBelow n g
  below_front n [] h b = tt
  below_front n (x ∷ g) h b = (b.0, below_front n g h b.1)

  -- what a session has in a beginning and in the whole, it has in between
  pub between : (n k : ℕ) (a b h o : List (Entry C)) → k ≤ length a → IsPrefix a b → IsPrefix b h → by n (drop k a) ≡ o → by n (drop k h) ≡ o → by n (drop k b) ≡ o
  between n k a b h o in_a p q first last =
      let cut : drop k b ≡ drop k a ++ p.0 = ap (drop k) (sym p.1) ∙ drop-append-le k a p.0 in_a in
      let longer_b : k ≤ length b = let s = ap length (sym p.1) ∙ length-append a p.0 in omega arith in
      let cut' : drop k h ≡ drop k b ++ q.0 = ap (drop k) (sym q.1) ∙ drop-append-le k b q.0 longer_b in
      let one : by n (drop k b) ≡ by n (drop k a) ++ by n p.0 = ap (by n) cut ∙ by_append n (drop k a) p.0 in
      let two : by n (drop k h) ≡ by n (drop k b) ++ by n q.0 = ap (by n) cut' ∙ by_append n (drop k b) q.0 in
      let l1 = ap length one ∙ length-append (by n (drop k a)) (by n p.0) in
      let l2 = ap length two ∙ length-append (by n (drop k b)) (by n q.0) in
      let l3 = ap length first in let l4 = ap length last in
      let none_new : by n p.0 ≡ [] = nil_of (by n p.0) (omega arith) in
      one ∙ (ap (λ l. by n (drop k a) ++ l) none_new ∙ (append-nil (by n (drop k a)) ∙ first))

  pub shrinks : (n k : ℕ) (a h : List (Entry C)) → k ≤ length a → IsPrefix a h → by n (drop k h) ≡ [] → by n (drop k a) ≡ []
  shrinks n k a h in_a p last =
      let cut : drop k h ≡ drop k a ++ p.0 = ap (drop k) (sym p.1) ∙ drop-append-le k a p.0 in_a in
      let one : by n (drop k h) ≡ by n (drop k a) ++ by n p.0 = ap (by n) cut ∙ by_append n (drop k a) p.0 in
      let l1 = ap length one ∙ length-append (by n (drop k a)) (by n p.0) in let l2 = ap length last in
      nil_of (by n (drop k a)) (omega arith)

  pub below_append : (n : ℕ) (g h : List (Entry C)) → SessionsBelow n g → SessionsBelow n h → SessionsBelow n (g ++ h)
  below_append n [] h p q = q
  below_append n (x ∷ g) h p q = (p.0, below_append n g h p.1 q)
