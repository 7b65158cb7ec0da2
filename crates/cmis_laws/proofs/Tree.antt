-- The ways up, and how a pair more or a changed pair leaves them.
use Rattle.std.specs.Prelude.{◌≡◌, ℕ, zero, suc, ◌+◌, ◌-◌, ◌<◌, ◌≤◌, Bool, true, false, ◌||◌, List, [], ◌∷◌, ◌++◌, length, find, Some, None, option_map}
use Rattle.std.specs.List.{list_any}
use Rattle.std.proofs.Common.{refl, sym, ap, subst, ◌∙◌, arith}
use Rattle.std.proofs.lemmas.Bool.{both_ways}
use Rattle.cm_base.specs.declared.number.Oid.{Oid}
use Rattle.cm_base.specs.declared.filing.Filed.{Filed}
use Rattle.cmis_spec.specs.Repository.{same, root, parent_in, upwards}
use Rattle.cmis_spec.specs.Well.{Climbs}
use Rattle.cmis_laws.proofs.Lists.{find_more, none_some, by_test, same_eq, some_eq}

-- a way is kept where the parents on it are
pub climbs_kept : (k : ℕ) (xs ys : List Filed) (f : Oid) → ((n g : Oid) → parent_in xs n ≡ Some g → parent_in ys n ≡ Some g) → Climbs k xs f → Climbs k ys f
climbs_kept zero xs ys f keep c = c
climbs_kept (suc k) xs ys f keep c = (c.0, keep f c.0 c.1, climbs_kept k xs ys c.0 keep c.2)

pub parent_more : (xs : List Filed) (p : Filed) (n g : Oid) → parent_in xs n ≡ Some g → parent_in (xs ++ p ∷ []) n ≡ Some g
parent_more xs p n g h = elim (find (λ q. same q.child n) xs) as (λ o. find (λ q. same q.child n) xs ≡ o → option_map (λ q. q.folder) o ≡ Some g → parent_in (xs ++ p ∷ []) n ≡ Some g) [
  | None ↦ λ e k. absurd (none_some g k)
  | Some q ↦ λ e k. rw (find_more (λ q. same q.child n) xs p q e) k
] refl h

-- the list of the way up has as many folders as pairs, and one
pub upwards_length : (k m : ℕ) (xs : List Filed) (f : Oid) → parent_in xs root ≡ None → Climbs k xs f → k < m → length (upwards m xs f) ≡ suc k
upwards_length k zero xs f top c l = absurd (omega (arith, l))
upwards_length zero (suc m) xs f top c l = subst (λ g. length (upwards (suc m) xs g) ≡ 1) (sym c) (rw top refl)
upwards_length (suc k) (suc m) xs f top c l = rw c.1 (ap suc (upwards_length k m xs c.0 top c.2 (omega (arith, l))))

-- two ways up have the same length
pub climbs_once : (k d : ℕ) (xs : List Filed) (f : Oid) → parent_in xs root ≡ None → Climbs k xs f → Climbs d xs f → k ≡ d
climbs_once zero zero xs f top a b = refl
climbs_once zero (suc d) xs f top a b = absurd (none_some b.0 (sym top ∙ (ap (parent_in xs) (sym a) ∙ b.1)))
climbs_once (suc k) zero xs f top a b = absurd (none_some a.0 (sym top ∙ (ap (parent_in xs) (sym b) ∙ a.1)))
climbs_once (suc k) (suc d) xs f top a b = ap suc (climbs_once k d xs a.0 top a.2 (subst (Climbs d xs) (some_eq b.0 a.0 (sym b.1 ∙ a.1)) b.2))

-- ---- a pair is replaced: n has the new parent t, and the others keep theirs

-- a way that does not pass n is kept
pub climbs_beside : (k m : ℕ) (xs ys : List Filed) (n f : Oid) → ((h g : Oid) → same n h ≡ false → parent_in xs h ≡ Some g → parent_in ys h ≡ Some g)
    → Climbs k xs f → k < m → list_any (same n) (upwards m xs f) ≡ false → Climbs k ys f
climbs_beside k zero xs ys n f keep c l e = absurd (omega (arith, l))
climbs_beside zero (suc m) xs ys n f keep c l e = c
climbs_beside (suc k) (suc m) xs ys n f keep c l e =
    let here : same n f || list_any (same n) (upwards m xs c.0) ≡ false = rw c.1 at e in (
      c.0,
      keep f c.0 (or_left (same n f) (list_any (same n) (upwards m xs c.0)) here) c.1,
      climbs_beside k m xs ys n c.0 keep c.2 (omega (arith, l)) (or_right (same n f) (list_any (same n) (upwards m xs c.0)) here),
    )
  where
    or_left : (a b : Bool) → a || b ≡ false → a ≡ false
    or_left true b h = h
    or_left false b h = refl

    or_right : (a b : Bool) → a || b ≡ false → b ≡ false
    or_right true b h = absurd (both_ways true h refl)
    or_right false b h = h

-- a way that passes n: as far as n, and then by its new parent
arrives : (k d t : ℕ) (xs ys : List Filed) (n f : Oid) → parent_in xs root ≡ None → Climbs d xs n → Climbs t ys n → Climbs k xs f → n ≡ f → (d ≤ k) × Climbs (t + (k - d)) ys f
arrives k d t xs ys n f top cn tn c at =
    let kd : k ≡ d = climbs_once k d xs f top c (subst (Climbs d xs) at cn) in
    let s : t ≡ t + (k - d) = omega (arith, kd) in
    (omega (arith, kd), subst (λ j. Climbs j ys f) s (subst (Climbs t ys) at tn))

pub climbs_through : (k m d t : ℕ) (xs ys : List Filed) (n f : Oid) → parent_in xs root ≡ None
    → ((h g : Oid) → same n h ≡ false → parent_in xs h ≡ Some g → parent_in ys h ≡ Some g)
    → Climbs d xs n → Climbs t ys n → Climbs k xs f → k < m → list_any (same n) (upwards m xs f) ≡ true
    → (d ≤ k) × Climbs (t + (k - d)) ys f
climbs_through k zero d t xs ys n f top keep cn tn c l e = absurd (omega (arith, l))
climbs_through zero (suc m) d t xs ys n f top keep cn tn c l e = by_test (same n f)
    (λ here. arrives zero d t xs ys n f top cn tn c (same_eq n f here))
    (λ other. absurd (both_ways (same n root || false) (rw (subst (λ g. same n g ≡ false) c other) refl)
    (rw top at (subst (λ g. list_any (same n) (upwards (suc m) xs g) ≡ true) c e))))
climbs_through (suc k) (suc m) d t xs ys n f top keep cn tn c l e = by_test (same n f)
    (λ here. arrives (suc k) d t xs ys n f top cn tn c (same_eq n f here))
    (λ other.
    let rest : list_any (same n) (upwards m xs c.0) ≡ true = rw other at (rw c.1 at e) in
    let up : (d ≤ k) × Climbs (t + (k - d)) ys c.0 = climbs_through k m d t xs ys n c.0 top keep cn tn c.2 (omega (arith, l)) rest in
    let s : suc (t + (k - d)) ≡ t + (suc k - d) = omega (arith, up.0) in
    (omega (arith, up.0), subst (λ j. Climbs j ys f) s (c.0, keep f c.0 other c.1, up.1)))
