-- The first pass makes another.
use Rattle.std.proofs.Common.{◌≡◌, ◌≢◌, ℕ, ◌<◌, Bool, true, false, nat_lt, ltb-true, if◌then◌else◌, List, [], length, sym, refl, ap, ◌∙◌, subst, arith}
use Rattle.atomic_table.specs.Seated.{TableId}
use Rattle.atomic_table.specs.Table.{Step}
use Rattle.desk_model.specs.declared.entry.Entry.{Entry}
use Rattle.desk_lock.specs.declared.board.View.{View}
use Rattle.desk_lock.specs.Numbers.{most_passes}
use Rattle.desk_lock.specs.Board.{Slot}
use Rattle.desk_lock.specs.Seats.{longer, greater, parent, child}
use Rattle.desk_lock.specs.Steps.{Sat, caught}
use Rattle.desk_lock.specs.Words.{PassView, made_by, with_one_more}
use Rattle.desk_lock.proofs.Knowing.{seat_pass}

pub most_is : most_passes ≡ 4294967295
unfolding most_passes
most_is = refl

pub few : (n : ℕ) → n < 4294967296 → n ≢ 4294967295 → n < most_passes
few n small other = subst (λ (k : ℕ). n < k) (sym most_is) (omega (arith, small, other))

pub all_made : (n : ℕ) → n ≡ 4294967295 → n ≡ most_passes
all_made n is = is ∙ sym most_is

longer_nil : {X : Type 0} (a : List X) → longer a [] ≡ a
longer_nil a = pick (nat_lt (length a) 0) refl
  where
    pick : (c : Bool) → nat_lt (length a) 0 ≡ c → (if c then [] else a) ≡ a
    pick true e = absurd (let h = ltb-true (length a) 0 e in omega arith)
    pick false e = refl

greater_zero : (n : ℕ) → greater n 0 ≡ n
greater_zero n = pick (nat_lt n 0) refl
  where
    pick : (c : Bool) → nat_lt n 0 ≡ c → (if c then 0 else n) ≡ n
    pick true e = absurd (let h = ltb-true n 0 e in omega arith)
    pick false e = refl

module _ {S C A K : Type 0} where
  born_by : (z zz y : TableId) (o k : S) (v : View S C K) (st : Step (Slot S C A K)) (n : ℕ) (m c c' : Sat S C A K) → m.0 ≡ parent v → c ≡ (child v, []) → caught st c n c' → k ≡ o → zz ≡ z → y ≡ z
      → (seat_pass y k c'.0 ≡ made_by (seat_pass z o v)) × (seat_pass zz o m.0 ≡ with_one_more (seat_pass z o v))
  born_by z zz y o k v st n m c c' parent_is child_is told opening table table' =
      let told' : caught st (child v, []) n c' = subst (λ (x : Sat S C A K). caught st x n c') child_is told in
      let seen : c'.0 ≡ record (child v) { seen = longer v.seen []; sure = greater v.sure 0; told = []; told_sure = 0 } = ap (λ (x : Sat S C A K). x.0) told'.0 in
      let same : seat_pass y k c'.0 ≡ seat_pass z o (child v) = (λ i. seat_pass (table' i) (opening i) (seen i)) ∙ ap (λ (l : List (Entry C) × ℕ). seat_pass z o (record (child v) { seen = l.0; sure = l.1 })) (λ i. (longer_nil v.seen i, greater_zero v.sure i)) in
      (same, (λ i. seat_pass (table i) o (parent_is i)))

  -- by the pass as callers see it
  pub born : (q : PassView S C) (z zz y : TableId) (o k : S) (v : View S C K) (st : Step (Slot S C A K)) (n : ℕ) (m c c' : Sat S C A K) → seat_pass z o v ≡ q → m.0 ≡ parent v → c ≡ (child v, []) → caught st c n c' → k ≡ o → zz ≡ z → y ≡ z
      → (seat_pass y k c'.0 ≡ made_by q) × (seat_pass zz o m.0 ≡ with_one_more q)
  born q z zz y o k v st n m c c' is a b t opening table table' = subst (λ (x : PassView S C). (seat_pass y k c'.0 ≡ made_by x) × (seat_pass zz o m.0 ≡ with_one_more x)) is (born_by z zz y o k v st n m c c' a b t opening table table')
