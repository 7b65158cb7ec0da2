-- Prefixes, places in lists, and counts.
use Rattle.std.proofs.Common.{◌≡◌, ℕ, zero, suc, ◌<◌, ◌≤◌, ◌+◌, Bool, true, false, cond, List, [], ◌∷◌, ◌++◌, length, refl, ap, sym, ◌∙◌, subst, ◌⊎◌, inl, inr, ⊎_elim, arith, append_assoc, append-nil, if◌then◌else◌, nat_lt, ◌==◌, Option, Some, None, drop, get_or, slice_index_or}
use Rattle.std.proofs.lemmas.List.{length-append}
use Rattle.std.proofs.lemmas.List.Sums.{sum_by_push, sum_by-swap_remove}
use Rattle.std.proofs.lemmas.Bool.Decides.{nat_tests}
use Rattle.std.specs.List.{count_by, swap_remove}
use mathlib.Core.Option.{some, some-ne-none}
use mathlib.Core.List.{IsPrefix}
use lib.ListN.{get_elem?}
use Rattle.desk_model.specs.declared.entry.Entry.{Entry}
use Rattle.desk_lock.specs.Numbers.{names}
use Rattle.desk_lock.specs.Seats.{longer}
use Rattle.outside.specs.Hosts.{Gives}
use Rattle.desk_serve.specs.declared.ended.Ended.{Ended}
use Rattle.desk_serve.specs.Sessions.{IsGiven, HasLeft, is_at}
use Rattle.desk_serve.specs.Keeping.{held_by, and_at}

module _ {X : Type 0} where
  pub prefix_trans : (a b c : List X) → IsPrefix a b → IsPrefix b c → IsPrefix a c
  prefix_trans a b c p q = (p.0 ++ q.0, sym (append_assoc a p.0 q.0) ∙ (ap (λ x. x ++ q.0) p.1 ∙ q.1))

  pub prefix_length : (a b : List X) → IsPrefix a b → length a ≤ length b
  prefix_length a b p = let e = ap length p.1 in omega (arith, length-append a p.0)

  prefix_same : (a b : List X) → IsPrefix a b → length b ≤ length a → IsPrefix b a
  prefix_same a b ([], e) le = subst (λ x. IsPrefix x a) (sym (append-nil a) ∙ e) ([], append-nil a)
  prefix_same a b (x ∷ r, e) le = absurd (let h = ap length e in omega (arith, length-append a (x ∷ r)))

  pick : (b : Bool) (x y : List X) → (b ≡ true → IsPrefix x y × IsPrefix y y) → (b ≡ false → IsPrefix x x × IsPrefix y x) → IsPrefix x (if b then y else x) × IsPrefix y (if b then y else x)
  pick true x y yes_ no_ = yes_ refl
  pick false x y yes_ no_ = no_ refl

  pub self : (a : List X) → IsPrefix a a
  self a = ([], append-nil a)

  -- both begin the longer
  pub begin_longer : (a b : List X) → IsPrefix a b ⊎ IsPrefix b a → IsPrefix a (longer a b) × IsPrefix b (longer a b)
  begin_longer a b way = pick (nat_lt (length a) (length b)) a b
      (λ is. (⊎_elim (λ p. p) (λ (q : IsPrefix b a). prefix_same b a q (grind (arith, nat_tests))) way, self b))
      (λ is. (self a, ⊎_elim (λ (p : IsPrefix a b). prefix_same a b p (grind (arith, nat_tests))) (λ q. q) way))

  pub get_left : (l m : List X) (i : ℕ) (a : X) → get_elem? l i ≡ some a → get_elem? (l ++ m) i ≡ some a
  get_left [] m i a e = absurd (some-ne-none a (sym e))
  get_left (x ∷ l) m zero a e = e
  get_left (x ∷ l) m (suc i) a e = get_left l m i a e

  pub get_mid : (l m : List X) (a : X) → get_elem? (l ++ a ∷ m) (length l) ≡ some a
  get_mid [] m a = refl
  get_mid (x ∷ l) m a = get_mid l m a

  pub at_append : (l m : List X) (i : ℕ) (a : X) → get_elem? (l ++ m) i ≡ some a → (get_elem? l i ≡ some a) ⊎ ((k : ℕ) × (get_elem? m k ≡ some a))
  at_append [] m i a e = inr (i, e)
  at_append (x ∷ l) m zero a e = inl e
  at_append (x ∷ l) m (suc i) a e = at_append l m i a e

module _ {C : Type 0} where
  pub names_append : (a b : List (ℕ × List (Entry C))) → names (a ++ b) ≡ names a ++ names b
  names_append [] b = refl
  names_append (x ∷ a) b = ap (λ z. x.0 ∷ z) (names_append a b)

-- one more row, at the end
pub held_push : {X : Type 0} (place_of : X → ℕ) (rows : List X) (row : X) (k : ℕ) → held_by place_of (rows ++ row ∷ []) k ≡ and_at (place_of row) (held_by place_of rows) k
held_push place_of rows row k = (let a = sum_by_push (λ r. cond (place_of r == k) 1 0) rows row in omega arith)

-- one row less
pub held_less : {X : Type 0} (place_of : X → ℕ) (rows : List X) (i : ℕ) (row : X) → i < length rows → row ≡ slice_index_or rows i row → (k : ℕ) → and_at (place_of row) (held_by place_of (swap_remove rows i row)) k ≡ held_by place_of rows k
held_less place_of rows i row below is k =
    let a = sum_by-swap_remove (λ r. cond (place_of r == k) 1 0) rows i row below in
    let b : ◌≡◌ {A = ℕ} (cond {A = ℕ} (place_of row == k) 1 0) (cond {A = ℕ} (place_of (get_or rows i row) == k) 1 0) = ap (λ r. cond {A = ℕ} (place_of r == k) 1 0) is in
    omega arith

pub held_removed : {X : Type 0} (place_of : X → ℕ) (rows rest : List X) (i : ℕ) (row : X) → i < length rows → row ≡ slice_index_or rows i row → rest ≡ swap_remove rows i row → (k : ℕ) → and_at (place_of row) (held_by place_of rest) k ≡ held_by place_of rows k
held_removed {X} place_of rows rest i row below is rests k = ap (λ (xs : List X). and_at (place_of row) (held_by place_of xs) k) rests ∙ held_less place_of rows i row below is k

pub held_popped : {X : Type 0} (place_of : X → ℕ) (rows rest : List X) (row : X) → rows ≡ rest ++ row ∷ [] → (k : ℕ) → and_at (place_of row) (held_by place_of rest) k ≡ held_by place_of rows k
held_popped {X} place_of rows rest row is k = sym (ap (λ (xs : List X). held_by place_of xs k) is ∙ held_push place_of rest row k)

pub held_pushed : {X : Type 0} (place_of : X → ℕ) (rows rows' : List X) (row : X) → rows' ≡ rows ++ row ∷ [] → (k : ℕ) → held_by place_of rows' k ≡ and_at (place_of row) (held_by place_of rows) k
held_pushed {X} place_of rows rows' row is k = ap (λ (xs : List X). held_by place_of xs k) is ∙ held_push place_of rows row k

pub held_none : {X : Type 0} (place_of : X → ℕ) (rows : List X) → length rows ≡ 0 → (k : ℕ) → held_by place_of rows k ≡ 0
held_none place_of [] e k = refl
held_none place_of (x ∷ rows) e k = absurd (omega arith)

pub count_ended : {L : Type 0} (k : ℕ) (ended : List (Ended L)) (x : Ended L) → count_by (is_at k) (ended ++ x ∷ []) ≡ count_by (is_at k) ended + cond (x.place == k) 1 0
count_ended k ended x = sum_by_push (λ y. cond (is_at k y) 1 0) ended x

-- the places below n + 1 are n and those below n
pub one_more : (k n : ℕ) → cond (n == k) 1 0 + (if nat_lt k n then 1 else 0) ≡ (if nat_lt k (n + 1) then 1 else 0)
one_more k n = by_same (n == k) (nat_lt k n) (nat_lt k (n + 1)) (λ e. grind (arith, nat_tests)) (λ e. grind (arith, nat_tests)) (λ a b. grind (arith, nat_tests))
  where
    by_same : (same less more : Bool) → (same ≡ true → (less ≡ false) × (more ≡ true)) → (less ≡ true → (same ≡ false) × (more ≡ true)) → (same ≡ false → less ≡ false → more ≡ false) → cond same 1 0 + (if less then 1 else 0) ≡ (if more then 1 else 0)
    by_same true less more a b c = rw ((a refl).0, (a refl).1) refl
    by_same false true more a b c = rw ((b refl).1) refl
    by_same false false more a b c = rw (c refl refl) refl

-- no place is below 0
pub none_below : (k : ℕ) → ◌≡◌ {A = ℕ} 0 (if nat_lt k 0 then 1 else 0)
none_below k = by_less (nat_lt k 0) (grind (arith, nat_tests))
  where
    by_less : (less : Bool) → less ≡ false → ◌≡◌ {A = ℕ} 0 (if less then 1 else 0)
    by_less true e = absurd (let h : ◌≡◌ {A = ℕ} 1 0 = ap (λ b. cond {A = ℕ} b 1 0) e in omega arith)
    by_less false e = refl

module _ {L : Type 0} where
  abbrev head_or : L → List L → L
  head_or d [] = d
  head_or d (x ∷ xs) = x

  abbrev tail_of : List L → List L
  tail_of [] = []
  tail_of (x ∷ xs) = xs

  head_at : (ls : List L) (n : ℕ) (l : L) (rest : List L) → drop n ls ≡ l ∷ rest → (get_elem? ls n ≡ some l) × (drop (suc n) ls ≡ rest)
  head_at [] zero l rest e = absurd (let h = ap length e in omega arith)
  head_at [] (suc n) l rest e = absurd (let h = ap length e in omega arith)
  head_at (x ∷ ls) zero l rest e = (ap (λ y. some (head_or l y)) e, ap tail_of e)
  head_at (x ∷ ls) (suc n) l rest e = head_at ls n l rest e

  next : (links u v : Option (List L)) (n : ℕ) (l : L) → HasLeft links n u → Gives u l v → IsGiven links n l × HasLeft links (suc n) v
  next None u v n l left gives = (tt, subst (λ (w : Option (List L)). Gives w l v) left gives)
  next (Some ls) u v n l left gives =
      let b = subst (λ (w : Option (List L)). Gives w l v) left gives in
      let h = head_at ls n l b.0 b.1 in
      (h.0, b.2 ∙ ap (λ (x : List L). Some x) (sym h.1))

  -- the next link is the one at the place that comes next
  pub given_next : (links u v : Option (List L)) (n : ℕ) (l : L) → HasLeft links n u → Gives u l v → IsGiven links n l × HasLeft links (n + 1) v
  given_next links u v n l left gives = let q = next links u v n l left gives in let one : suc n ≡ n + 1 = omega arith in (q.0, subst (λ (m : ℕ). HasLeft links m v) one q.1)
