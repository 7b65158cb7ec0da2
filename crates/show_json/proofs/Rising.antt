-- What is put in key order rises, and what has the greatest key comes last.
use Rattle.std.specs.Prelude.{◌≡◌, ℕ, List, [], ◌∷◌, ◌++◌, fold}
use Rattle.core.specs.Cmp.Lexicographic.{slice_cmp, nat_list_cmp_total}
use Rattle.core.specs.List.{AllByRecursion}
use Rattle.core.specs.Ordering.{is_gt, ordering_reverse}
use Rattle.std.proofs.Common.{true, true≢false, Ordering, Less, Equal, Greater, nat_cmp, refl, ap, sym, subst, ◌∙◌}
use Rattle.std.proofs.lemmas.Map.Lookups.{exact_bytes}
use Rattle.show_json.specs.Ordered.{AreRising, placed, in_key_order}

abbrev cmp : List ℕ → List ℕ → Ordering
cmp = slice_cmp nat_cmp

turned : (k l : List ℕ) → cmp k l ≡ Greater → cmp l k ≡ Less
turned k l e = nat_list_cmp_total.antisymm l k ∙ ap ordering_reverse e

back : (k l : List ℕ) → cmp k l ≡ Less → cmp l k ≡ Greater
back k l e = nat_list_cmp_total.antisymm l k ∙ ap ordering_reverse e

module _ {A : Type 0} (key : A → List ℕ) where
  abbrev Above : A → A → Type 0
  Above x y = cmp (key x) (key y) ≡ Less

  all_above : (x y : A) (xs : List A) → Above x y → AllByRecursion (Above y) xs → AllByRecursion (Above x) xs
  all_above x y [] e all = tt
  all_above x y (z ∷ zs) e all = (nat_list_cmp_total.trans (key x) (key y) (key z) e all.0, all_above x y zs e all.1)

  placed_all : (P : A → Type 0) (ys : List A) (x : A) → AllByRecursion P ys → P x → AllByRecursion P (placed key x ys)
  placed_all P [] x all p = (p, tt)
  placed_all P (y ∷ ys) x all p = by (cmp (key x) (key y)) refl (placed_all P ys x all.1 p)
    where
      by : (o : Ordering) → cmp (key x) (key y) ≡ o → AllByRecursion P (placed key x ys) → AllByRecursion P (placed key x (y ∷ ys))
      by Less e rest = rw e (p, all)
      by Equal e rest = rw e (p, all.1)
      by Greater e rest = rw e (all.0, rest)

  placed_rising : (ys : List A) (x : A) → AreRising key ys → AreRising key (placed key x ys)
  placed_rising [] x r = (tt, tt)
  placed_rising (y ∷ ys) x r = by (cmp (key x) (key y)) refl (placed_rising ys x r.1)
    where
      by : (o : Ordering) → cmp (key x) (key y) ≡ o → AreRising key (placed key x ys) → AreRising key (placed key x (y ∷ ys))
      by Less e rest = rw e ((e, all_above x y ys e r.0), r)
      by Equal e rest = rw e (subst (λ k. AllByRecursion (λ z. cmp k (key z) ≡ Less) ys) (sym (exact_bytes (key x) (key y) e)) r.0, r.1)
      by Greater e rest = rw e (placed_all (Above y) ys x r.0 (turned (key x) (key y) e), rest)

  from_rising : (xs ys : List A) → AreRising key ys → AreRising key (fold (λ zs x. placed key x zs) ys xs)
  from_rising [] ys r = r
  from_rising (x ∷ xs) ys r = from_rising xs (placed key x ys) (placed_rising ys x r)

  pub order_rises : (xs : List A) → AreRising key (in_key_order key xs)
  order_rises xs = from_rising xs [] tt

  last_of : (P : A → Type 0) (ys : List A) (l : A) → AllByRecursion P (ys ++ l ∷ []) → P l
  last_of P [] l all = all.0
  last_of P (y ∷ ys) l all = last_of P ys l all.1

  pub placed_behind : (ys : List A) (l x : A) → AreRising key (ys ++ l ∷ []) → cmp (key x) (key l) ≡ Greater
      → placed key x (ys ++ l ∷ []) ≡ (ys ++ l ∷ []) ++ x ∷ []
  placed_behind [] l x r e = rw e refl
  placed_behind (y ∷ ys) l x r e =
      let below : cmp (key y) (key x) ≡ Less = nat_list_cmp_total.trans (key y) (key l) (key x) (last_of (Above y) ys l r.0) (turned (key x) (key l) e) in
      rw (back (key y) (key x) below) (ap (λ zs. y ∷ zs) (placed_behind ys l x r.1 e))

pub greater : (o : Ordering) → is_gt o ≡ true → o ≡ Greater
greater Less h = absurd (true≢false (sym h))
greater Equal h = absurd (true≢false (sym h))
greater Greater h = refl
