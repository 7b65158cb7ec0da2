-- Two passes meet, and one ends into the other.
use Rattle.std.proofs.Common.{◌≡◌, ℕ, ◌<◌, ◌≤◌, ◌⊎◌, inl, inr, ⊎_elim, Bool, true, false, nat_lt, ltb-true, ltb-false, if◌then◌else◌, List, [], ◌∷◌, ◌++◌, length, drop, sym, refl, ap, ◌∙◌, subst, arith, length-append, append-nil}
use Rattle.std.specs.Prelude as std
use mathlib.Core.List.{IsPrefix}
use Rattle.atomic_table.specs.Seated.{TableId}
use Rattle.atomic_table.specs.Table.{Step}
use Rattle.desk_model.specs.declared.entry.Entry.{Entry}
use Rattle.desk_model.specs.Desks.{with_seen}
use Rattle.desk_lock.specs.declared.board.View.{View}
use Rattle.desk_lock.specs.Numbers.{by}
use Rattle.desk_lock.specs.Board.{Slot}
use Rattle.desk_lock.specs.Seats.{longer, greater, told_by, took_in}
use Rattle.desk_lock.specs.Steps.{Sat, caught}
use Rattle.desk_lock.specs.Words.{LockView, PassView, IsOf, Met, Retired, knowing, with_sure}
use Rattle.desk_lock.proofs.Lists.{nil_of}
use Rattle.desk_lock.proofs.Knowing.{seat_pass, sees_longer, surely}

module _ {X : Type 0} where
  whole : (a b : List X) → IsPrefix a b → length b ≤ length a → a ≡ b
  whole a b p h = let s = ap length (sym p.1) ∙ length-append a p.0 in let none : p.0 ≡ [] = nil_of p.0 (omega arith) in sym (append-nil a) ∙ (ap (λ l. a ++ l) (sym none) ∙ p.1)

  cases : (a b : List X) → ((longer a b ≡ b) × (length a < length b)) ⊎ ((longer a b ≡ a) × (length b ≤ length a))
  cases a b = pick (nat_lt (length a) (length b)) refl
    where
      pick : (c : Bool) → nat_lt (length a) (length b) ≡ c → (((if c then b else a) ≡ b) × (length a < length b)) ⊎ (((if c then b else a) ≡ a) × (length b ≤ length a))
      pick true e = inl (refl, ltb-true (length a) (length b) e)
      pick false e = inr (refl, (let h = ltb-false (length a) (length b) e in omega arith))

  both_longer : (a b : List X) → IsPrefix a b ⊎ IsPrefix b a → longer b (longer a b) ≡ longer a b
  both_longer a b way = ⊎_elim
      (λ (t : (longer a b ≡ b) × (length a < length b)). subst (λ l. longer b l ≡ l) (sym t.0) (⊎_elim (λ u. u.0) (λ u. u.0) (cases b b)))
      (λ (t : (longer a b ≡ a) × (length b ≤ length a)). subst (λ l. longer b l ≡ l) (sym t.0) (⊎_elim (λ u. u.0)
      (λ (u : (longer b a ≡ b) × (length a ≤ length b)). u.0 ∙ ⊎_elim (λ p. sym (whole a b p t.1)) (λ q. whole b a q u.1) way) (cases b a))) (cases a b)

  pub longer_length : (a b : List X) → (length a < length b → length (longer a b) ≡ length b) × (length b ≤ length a → length (longer a b) ≡ length a)
  longer_length a b = ⊎_elim
      (λ (t : (longer a b ≡ b) × (length a < length b)). (λ _. ap length t.0, λ q. absurd (let h = t.1 in omega arith)))
      (λ (t : (longer a b ≡ a) × (length b ≤ length a)). (λ q. absurd (let h = t.1 in omega arith), λ _. ap length t.0)) (cases a b)

  other_way : (a b : List X) → IsPrefix a b ⊎ IsPrefix b a → longer b a ≡ longer a b
  other_way a b way = ⊎_elim
      (λ (t : (longer a b ≡ b) × (length a < length b)). ⊎_elim (λ (u : (longer b a ≡ a) × (length b < length a)). absurd (let h = t.1 in let k = u.1 in omega arith)) (λ (u : (longer b a ≡ b) × (length a ≤ length b)). u.0 ∙ sym t.0) (cases b a))
      (λ (t : (longer a b ≡ a) × (length b ≤ length a)). ⊎_elim (λ (u : (longer b a ≡ a) × (length b < length a)). u.0 ∙ sym t.0)
      (λ (u : (longer b a ≡ b) × (length a ≤ length b)). u.0 ∙ (⊎_elim (λ p. sym (whole a b p t.1)) (λ q. whole b a q u.1) way ∙ sym t.0)) (cases b a)) (cases a b)

module _ {S C A X K : Type 0} (next : S → Entry C → std.Result (S × A) X) where
  -- the pass p has heard what q has seen
  pub record Heard (l : LockView S C K) (p q p' : PassView S C) : Type 0 where
    pub way : IsPrefix p.known.seen q.known.seen ⊎ IsPrefix q.known.seen p.known.seen
    pub pass : p' ≡ with_sure (knowing p (with_seen p.known (longer p.known.seen q.known.seen))) (greater p.sure q.sure)
    pub of : IsOf next l p'

  -- the pass q has ended into p
  abbrev pub Taken : LockView S C K → PassView S C → PassView S C → PassView S C → Type 0
  Taken l p q p' = Retired p q p' × IsOf next l p'

  -- the second hears from the first, which has heard from it
  pub met : (l : LockView S C K) (p q p' q' : PassView S C) → Heard l p q p' → Heard l q p' q' → Met p q p' q'
  met l p q p' q' one two =
      let seen : p'.known.seen ≡ longer p.known.seen q.known.seen = ap (λ (x : PassView S C). x.known.seen) one.pass in
      let same : longer q.known.seen p'.known.seen ≡ longer p.known.seen q.known.seen = ap (longer q.known.seen) seen ∙ both_longer p.known.seen q.known.seen one.way in
      (one.way, one.pass, two.pass ∙ ap (λ (g : List (Entry C)). with_sure (knowing q (with_seen q.known g)) (greater q.sure p'.sure)) same)

module _ {S C A X : Type 0} (next : S → Entry C → std.Result (S × A) X) {B K : Type 0} where
  heard_by : (l : LockView S C K) (z : TableId) (o : S) (v : View S C K) (q : PassView S C) (h : List (Entry C)) (k : ℕ) (st : Step (Slot S C B K)) (cs : List (ℕ × Slot S C B K)) (n : ℕ) (m' : Sat S C B K) → IsOf next l (seat_pass z o v) → IsOf next l q → h ≡ q.known.seen → k ≡ q.sure
      → caught st (record v { told = h; told_sure = k }, cs) n m' → Heard next l (seat_pass z o v) q (seat_pass z o m'.0)
  heard_by l z o v q h k st cs n m' of off is sure c =
      let goes : seat_pass z o m'.0 ≡ seat_pass z o (record v { seen = longer v.seen q.known.seen; sure = greater v.sure q.sure }) = ap (λ (x : Sat S C B K). seat_pass z o x.0) c.0 ∙ ap (λ (g : List (Entry C) × ℕ). seat_pass z o (record v { seen = longer v.seen g.0; sure = greater v.sure g.1 })) (λ i. (is i, sure i)) in
      let mine : by v.number (drop v.start (longer v.seen q.known.seen)) ≡ v.own = subst (λ (g : List (Entry C)). by v.number (drop v.start (longer v.seen g)) ≡ v.own) is (c.2 of.sound.begun of.sound.mine) in
      record {
        way = subst (λ (g : List (Entry C)). IsPrefix v.seen g ⊎ IsPrefix g v.seen) is c.1;
        pass = goes;
        of = subst (IsOf next l) (sym goes) (surely next l (knowing (seat_pass z o v) (with_seen (seat_pass z o v).known (longer v.seen q.known.seen))) (greater v.sure q.sure) (sees_longer next l (seat_pass z o v) q of off mine));
      }

  pub heard : (l : LockView S C K) (p q : PassView S C) (z : TableId) (o : S) (v : View S C K) (h : List (Entry C)) (k : ℕ) (st : Step (Slot S C B K)) (cs : List (ℕ × Slot S C B K)) (n : ℕ) (m' : Sat S C B K) → seat_pass z o v ≡ p → IsOf next l p → IsOf next l q → h ≡ q.known.seen → k ≡ q.sure
      → caught st (record v { told = h; told_sure = k }, cs) n m' → Heard next l p q (seat_pass z o m'.0)
  heard l p q z o v h k st cs n m' same of off is sure c = subst (λ (x : PassView S C). IsOf next l x → Heard next l x q (seat_pass z o m'.0)) same (λ mine. heard_by l z o v q h k st cs n m' mine off is sure c) of

  retired_by : (l : LockView S C K) (z z' : TableId) (o o' : S) (v w : View S C K) (st : Step (Slot S C B K)) (cs : List (ℕ × Slot S C B K)) (n : ℕ) (m' : Sat S C B K) → IsOf next l (seat_pass z o v) → IsOf next l (seat_pass z' o' w)
      → caught st (took_in v w, cs) n m' → Taken next l (seat_pass z o v) (seat_pass z' o' w) (seat_pass z o m'.0)
  retired_by l z z' o o' v w st cs n m' of off c =
      let all = v.ended ++ (w.number, w.own) ∷ w.ended in
      let of' : IsOf next l (seat_pass z o (record v { ended = all })) = record { table = of.table; opening = of.opening; base = of.base; below = of.below; sound = of.sound } in
      let h = heard_by l z o (record v { ended = all }) (seat_pass z' o' w) w.seen w.sure st cs n m' of' off refl refl c in
      ((h.way, h.pass), h.of)

  -- by the passes as callers see them
  pub retired : (l : LockView S C K) (p q : PassView S C) (z zz z' : TableId) (o o' : S) (v w : View S C K) (st : Step (Slot S C B K)) (cs : List (ℕ × Slot S C B K)) (n : ℕ) (m' : Sat S C B K) → seat_pass z o v ≡ p → seat_pass z' o' w ≡ q → IsOf next l p → IsOf next l q
      → caught st (took_in v w, cs) n m' → zz ≡ z → Taken next l p q (seat_pass zz o m'.0)
  retired l p q z zz z' o o' v w st cs n m' same also of off c table =
      subst (λ (x : PassView S C × (PassView S C × TableId)). IsOf next l x.0 → IsOf next l x.1.0 → Taken next l x.0 x.1.0 (seat_pass x.1.1 o m'.0)) (λ i. (same i, (also i, sym table i))) (λ mine others. retired_by l z z' o o' v w st cs n m' mine others c) of off

  -- two seats hear from each other, by what the steps told
  pub meeting : (l : LockView S C K) (p q : PassView S C) (z zz y yy : TableId) (o k : S) (v w : View S C K) (st : Step (Slot S C B K)) (cs ds : List (ℕ × Slot S C B K)) (n n' : ℕ) (m m' f f' : Sat S C B K)
      → seat_pass z o v ≡ p → seat_pass y k w ≡ q → IsOf next l p → IsOf next l q → caught st (told_by v w, cs) n m → f ≡ (w, ds) → caught st (told_by f.0 m.0, f.1) n' m' → f' ≡ m → zz ≡ z → yy ≡ y
      → Met p q (seat_pass zz o f'.0) (seat_pass yy k m'.0)
  meeting l p q z zz y yy o k v w st cs ds n n' m m' f f' same also of off first is second kept tables tables' =
      let one : Heard next l p q (seat_pass z o m.0) = heard l p q z o v w.seen w.sure st cs n m same of off (ap (λ (x : PassView S C). x.known.seen) also) (ap (λ (x : PassView S C). x.sure) also) first in
      let second' : caught st (told_by w m.0, ds) n' m' = subst (λ (x : Sat S C B K). caught st (told_by x.0 m.0, x.1) n' m') is second in
      let two : Heard next l q (seat_pass z o m.0) (seat_pass y k m'.0) = heard l q (seat_pass z o m.0) y k w m.0.seen m.0.sure st ds n' m' also off one.of refl refl second' in
      subst (λ (x : TableId × (TableId × Sat S C B K)). Met p q (seat_pass x.0 o x.1.1.0) (seat_pass x.1.0 k m'.0)) (λ i. (sym tables i, (sym tables' i, sym kept i))) (met next l p q (seat_pass z o m.0) (seat_pass y k m'.0) one two)
