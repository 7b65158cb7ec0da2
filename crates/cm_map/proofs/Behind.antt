-- Entries in order in two parts: where a key falls in one of them, a change of both is a change of this one.
use Rattle.std.proofs.Common.{◌≡◌, T, Bool, List, [], ◌∷◌, ◌++◌, Option, Some, None, is_some, unwrap_or, is_gt, not, false, true, sym, subst, ap, refl, ◌∙◌, Ordering, Greater, append_assoc, true≢false}
use Rattle.core.specs.FinMap.Entries.{find, is_sorted}
use Rattle.core.specs.Cmp.{IsTotalOrder}
use Rattle.std.proofs.lemmas.List.{append-nil}
use Rattle.cm_map.specs.Parts.{first_of}
use Rattle.cm_map.specs.Rows.{change}
use Rattle.cm_map.proofs.Parting.{Below, Above, below_from, above_from, sorted_left, sorted_right}
use Rattle.cm_map.proofs.Rowing.{change_mid, find_mid}

pub not_true : (b : Bool) → not b ≡ true → b ≡ false
not_true true e = sym e
not_true false e = refl

pub not_false : (b : Bool) → not b ≡ false → b ≡ true
not_false true e = refl
not_false false e = sym e

pub front_sorted : {K X : Type 0} (R : K → K → Ordering) (A B C : List (K × X)) → T (is_sorted R (A ++ (B ++ C))) → T (is_sorted R (A ++ B))
front_sorted R A B C s = sorted_left R (A ++ B) C (subst (λ l. T (is_sorted R l)) (sym (append_assoc A B C)) s)

module _ {K X : Type 0} (R : K → K → Ordering) (o : IsTotalOrder R) (k : K) where
  pub behind_head : (A es : List (K × X)) (x : K) → T (is_sorted R (A ++ es)) → first_of es ≡ Some x → is_gt (R x k) ≡ false → Below R k A
  behind_head A [] x s e g = absurd (true≢false (sym (ap is_some e)))
  behind_head A (y ∷ es) x s e g = below_from R o k A es y s (subst (λ z. is_gt (R z k) ≡ false) (sym (ap (λ m. unwrap_or m y.0) e)) g)

  pub before_head : (A es : List (K × X)) (x : K) → T (is_sorted R (A ++ es)) → first_of es ≡ Some x → R x k ≡ Greater → Above R k es
  before_head A [] x s e g = tt
  before_head A (y ∷ es) x s e g = above_from R o k (y ∷ es) (sorted_right R A (y ∷ es) s) (subst (λ z. R z k ≡ Greater) (sym (ap (λ m. unwrap_or m y.0) e)) g)

  pub change_behind : (new : Option (K × X)) (A es : List (K × X)) → Below R k A → change R k new (A ++ es) ≡ A ++ change R k new es
  change_behind new A es b =
      ap (λ l. change R k new (A ++ l)) (sym (append-nil es)) ∙ change_mid R o k new A es [] b tt ∙ ap (λ l. A ++ l) (append-nil (change R k new es))

  pub change_before : (new : Option (K × X)) (es C : List (K × X)) → Above R k C → change R k new (es ++ C) ≡ change R k new es ++ C
  change_before new es C a = change_mid R o k new [] es C tt a

  pub find_behind : (A es : List (K × X)) → Below R k A → find R k (A ++ es) ≡ find R k es
  find_behind A es b = ap (λ l. find R k (A ++ l)) (sym (append-nil es)) ∙ find_mid R o k A es [] b tt

  pub find_before : (es C : List (K × X)) → Above R k C → find R k (es ++ C) ≡ find R k es
  find_before es C a = find_mid R o k [] es C tt a
