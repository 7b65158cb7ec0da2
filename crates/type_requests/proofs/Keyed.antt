-- Look-ups and changes of entries in key order, seen as look-ups and changes of the list of their values.
use Rattle.std.proofs.Common.{◌≡◌, ◌∙◌, ℕ, Bool, true, false, cond, not, ◌&&◌, T, List, [], ◌∷◌, ◌++◌, refl, sym, ap, subst}
use Rattle.std.specs.Prelude.{Some, bytes_eq, filter, find}
use Rattle.std.specs.declared.cmp.Ordering.{Ordering}
use Rattle.std.specs.declared.cmp.Ordering.TheVariants.{Less, Equal, Greater}
use Rattle.core.specs.Ordering.{nat_cmp, is_lt, eq_by_cmp, ordering_reverse}
use Rattle.core.specs.Cmp.Lexicographic.{slice_cmp, nat_list_cmp_total}
use Rattle.core.specs.FinMap.Entries.{put, below_all, is_sorted, by_order}
use Rattle.core.specs.FinMap.Entries as entries
use Rattle.std.proofs.lemmas.Map.Text.{is_eq-slice_cmp}
use Rattle.std.proofs.lemmas.Map.Lookups.{exact_bytes}
use Rattle.std.proofs.lemmas.Cmp.{nat_list_eq_equiv}
use Rattle.cm_map.specs.Parts.{without_key}
use Rattle.cm_types.specs.Changes.{is_before, placed}
use Rattle.type_requests.specs.Keys.{IsKeyed, values_of}

order : List ℕ → List ℕ → Ordering
order = slice_cmp nat_cmp

less : (o : Ordering) → T (is_lt o) → o ≡ Less
less Less p = refl
less Equal p = absurd p
less Greater p = absurd p

first : (a b : Bool) → T (a && b) → T a
first true b p = tt
first false b p = p

second : (a b : Bool) → T (a && b) → T b
second true b p = p
second false b p = absurd p

both : (a b : Bool) → T a → T b → T (a && b)
both true b p q = q
both false b p q = p

turned : (x y : List ℕ) (o : Ordering) → slice_cmp nat_cmp x y ≡ o → slice_cmp nat_cmp y x ≡ ordering_reverse o
turned x y o e = nat_list_cmp_total.antisymm y x ∙ ap ordering_reverse e

module _ {X : Type 0} (name : X → List ℕ) where
  is_it : (q : List ℕ) (e : List ℕ × X) → e.0 ≡ name e.1 → eq_by_cmp (slice_cmp nat_cmp) q e.0 ≡ bytes_eq (name e.1) q
  is_it q e k = is_eq-slice_cmp q e.0 ∙ nat_list_eq_equiv.symm q e.0 ∙ ap (λ n. bytes_eq n q) k

  pub find_name : (q : List ℕ) (es : List (List ℕ × X)) → IsKeyed name es → entries.find (slice_cmp nat_cmp) q es ≡ find (λ x. bytes_eq (name x) q) (values_of es)
  find_name q [] k = refl
  find_name q (e ∷ es) k =
      ap (λ b. cond b (Some e.1) (entries.find (slice_cmp nat_cmp) q es)) (is_it q e k.0)
      ∙ ap (cond (bytes_eq (name e.1) q) (Some e.1)) (find_name q es k.1)

  values_cond : (b : Bool) (e : List ℕ × X) (es : List (List ℕ × X)) → values_of (cond b (e ∷ es) es) ≡ cond b (e.1 ∷ values_of es) (values_of es)
  values_cond true e es = refl
  values_cond false e es = refl

  pub without_name : (q : List ℕ) (es : List (List ℕ × X)) → IsKeyed name es → values_of (without_key (slice_cmp nat_cmp) q es) ≡ filter (λ x. not (bytes_eq (name x) q)) (values_of es)
  without_name q [] k = refl
  without_name q (e ∷ es) k =
      let left = without_key (slice_cmp nat_cmp) q es in
      values_cond (not (eq_by_cmp (slice_cmp nat_cmp) q e.0)) e left
      ∙ ap (λ b. cond (not b) (e.1 ∷ values_of left) (values_of left)) (is_it q e k.0)
      ∙ ap (λ l. cond (not (bytes_eq (name e.1) q)) (e.1 ∷ l) l) (without_name q es k.1)

  keyed_cond : (b : Bool) (e : List ℕ × X) (es : List (List ℕ × X)) → e.0 ≡ name e.1 → IsKeyed name es → IsKeyed name (cond b (e ∷ es) es)
  keyed_cond true e es h k = (h, k)
  keyed_cond false e es h k = k

  pub keyed_without : (q : List ℕ) (es : List (List ℕ × X)) → IsKeyed name es → IsKeyed name (without_key (slice_cmp nat_cmp) q es)
  keyed_without q [] k = tt
  keyed_without q (e ∷ es) k = keyed_cond (not (eq_by_cmp (slice_cmp nat_cmp) q e.0)) e (without_key (slice_cmp nat_cmp) q es) k.0 (keyed_without q es k.1)

  pub keyed_put : (x : X) (es : List (List ℕ × X)) → IsKeyed name es → IsKeyed name (put (slice_cmp nat_cmp) (name x) x es)
  keyed_put x [] k = (refl, tt)
  keyed_put x (e ∷ es) k =
      elim (slice_cmp nat_cmp (name x) e.0) as (λ o. slice_cmp nat_cmp (name x) e.0 ≡ o → IsKeyed name (by_order o ((name x, x) ∷ e ∷ es) ((e.0, x) ∷ es) (e ∷ put (slice_cmp nat_cmp) (name x) x es))) [
        | Less ↦ λ o. (refl, k)
        | Equal ↦ λ o. (sym (exact_bytes (name x) e.0 o), k.1)
        | Greater ↦ λ o. (k.0, keyed_put x es k.1)
      ] refl

  below_less : (x y : List ℕ) (es : List (List ℕ × X)) → slice_cmp nat_cmp x y ≡ Less → T (below_all (slice_cmp nat_cmp) y es) → T (below_all (slice_cmp nat_cmp) x es)
  below_less x y [] p h = tt
  below_less x y (e ∷ es) p h =
      both _ _ (subst (λ r. T (is_lt r)) (sym (nat_list_cmp_total.trans x y e.0 p (less _ (first _ _ h)))) tt) (below_less x y es p (second _ _ h))

  before_is : (k : List ℕ) (e : List ℕ × X) (o : Ordering) → e.0 ≡ name e.1 → slice_cmp nat_cmp k e.0 ≡ o → is_before (name e.1) k ≡ is_lt (ordering_reverse o)
  before_is k e o h r = ap (λ n. is_before n k) (sym h) ∙ ap is_lt (turned k e.0 o r)

  after_is : (k : List ℕ) (e : List ℕ × X) (o : Ordering) → e.0 ≡ name e.1 → slice_cmp nat_cmp k e.0 ≡ o → is_before k (name e.1) ≡ is_lt o
  after_is k e o h r = ap (λ n. is_before k n) (sym h) ∙ ap is_lt r

  none_before : (k : List ℕ) (es : List (List ℕ × X)) → IsKeyed name es → T (below_all (slice_cmp nat_cmp) k es) → filter (λ y. is_before (name y) k) (values_of es) ≡ []
  none_before k [] h b = refl
  none_before k (e ∷ es) h b =
      ap (λ t. cond t (e.1 ∷ filter (λ y. is_before (name y) k) (values_of es)) (filter (λ y. is_before (name y) k) (values_of es))) (before_is k e Less h.0 (less _ (first _ _ b)))
      ∙ none_before k es h.1 (second _ _ b)

  all_after : (k : List ℕ) (es : List (List ℕ × X)) → IsKeyed name es → T (below_all (slice_cmp nat_cmp) k es) → filter (λ y. is_before k (name y)) (values_of es) ≡ values_of es
  all_after k [] h b = refl
  all_after k (e ∷ es) h b =
      ap (λ t. cond t (e.1 ∷ filter (λ y. is_before k (name y)) (values_of es)) (filter (λ y. is_before k (name y)) (values_of es))) (after_is k e Less h.0 (less _ (first _ _ b)))
      ∙ ap (λ l. e.1 ∷ l) (all_after k es h.1 (second _ _ b))

  -- a name below all
  front : (x : X) (es : List (List ℕ × X)) → IsKeyed name es → T (below_all (slice_cmp nat_cmp) (name x) es) → placed name x (values_of es) ≡ x ∷ values_of es
  front x es h b = ap (λ l. l ++ x ∷ filter (λ y. is_before (name x) (name y)) (values_of es)) (none_before (name x) es h b) ∙ ap (λ l. x ∷ l) (all_after (name x) es h b)

  placed_by : (x : X) (e : List ℕ × X) (es : List (List ℕ × X)) (o : Ordering) → e.0 ≡ name e.1 → slice_cmp nat_cmp (name x) e.0 ≡ o
      → placed name x (e.1 ∷ values_of es)
      ≡ cond (is_lt (ordering_reverse o)) (e.1 ∷ filter (λ y. is_before (name y) (name x)) (values_of es)) (filter (λ y. is_before (name y) (name x)) (values_of es))
      ++ x ∷ cond (is_lt o) (e.1 ∷ filter (λ y. is_before (name x) (name y)) (values_of es)) (filter (λ y. is_before (name x) (name y)) (values_of es))
  placed_by x e es o h r =
      let low = filter (λ y. is_before (name y) (name x)) (values_of es) in
      let high = filter (λ y. is_before (name x) (name y)) (values_of es) in
      ap (λ t. cond t (e.1 ∷ low) low ++ x ∷ cond (is_before (name x) (name e.1)) (e.1 ∷ high) high) (before_is (name x) e o h r)
      ∙ ap (λ t. cond (is_lt (ordering_reverse o)) (e.1 ∷ low) low ++ x ∷ cond t (e.1 ∷ high) high) (after_is (name x) e o h r)

  pub put_placed : (x : X) (es : List (List ℕ × X)) → IsKeyed name es → T (is_sorted (slice_cmp nat_cmp) es) → values_of (put (slice_cmp nat_cmp) (name x) x es) ≡ placed name x (values_of es)
  put_placed x [] h s = refl
  put_placed x (e ∷ es) h s =
      elim (slice_cmp nat_cmp (name x) e.0) as (λ o. slice_cmp nat_cmp (name x) e.0 ≡ o → values_of (by_order o ((name x, x) ∷ e ∷ es) ((e.0, x) ∷ es) (e ∷ put (slice_cmp nat_cmp) (name x) x es)) ≡ placed name x (e.1 ∷ values_of es)) [
        | Less ↦ λ o. sym (front x (e ∷ es) h (both _ _ (subst (λ r. T (is_lt r)) (sym o) tt) (below_less (name x) e.0 es o (first _ _ s))))
        | Equal ↦ λ o. sym (placed_by x e es Equal h.0 o ∙ front x es h.1 (subst (λ k. T (below_all (slice_cmp nat_cmp) k es)) (sym (exact_bytes (name x) e.0 o)) (first _ _ s)))
        | Greater ↦ λ o. ap (λ l. e.1 ∷ l) (put_placed x es h.1 (second _ _ s)) ∙ sym (placed_by x e es Greater h.0 o)
      ] refl
