-- What one more membership changes in the names of each user's groups.
use Rattle.std.specs.Prelude.{◌≡◌, ℕ, ◌<◌, ◌+◌, suc, Bool, true, false, ◌&&◌, ◌||◌, not, cond, if◌then◌else◌, List, [], ◌∷◌, ◌++◌, length, take, drop, get_or, bytes_eq, Option, unwrap_or}
use Rattle.std.specs.List.{list_any}
use Rattle.std.specs.Cmp.Lexicographic.{nat_list_eq_equiv, bytes_decides}
use Rattle.std.proofs.Common.{refl, sym, ap, ◌∙◌}
use Rattle.std.proofs.Math.Seq.{drop-cons}
use Rattle.std.proofs.lemmas.Bool.{both_ways}
use Rattle.std.proofs.lemmas.List.{append-nil, take-append-drop}
use Rattle.std.proofs.lemmas.List.Folds.{list_any-append, list_any_more}
use Rattle.cm_base.specs.UserLists.{all_differ}
use Rattle.cmis_laws.proofs.Lists.{by_test}

-- the names that a map has at a user whose entry is another
pub names_set : (b : Bool) (found new other : Option (List (List ℕ))) → new ≡ cond b other found → unwrap_or new [] ≡ (if b then unwrap_or other [] else unwrap_or found [])
names_set true found new other e = rw e refl
names_set false found new other e = rw e refl

-- the names of one user with one more behind them, and those of the others as they were
pub names_noted : (found new : List ℕ → Option (List (List ℕ))) (rest : List ℕ → List (List ℕ)) (member group : List ℕ) (names : List (List ℕ)) → names ≡ unwrap_or (found member) []
    → ((u : List ℕ) → rest u ≡ (if bytes_eq member u then [] else unwrap_or (found u) []))
    → ((u : List ℕ) → unwrap_or (new u) [] ≡ (if bytes_eq member u then names ++ group ∷ [] else rest u))
    → (u : List ℕ) → unwrap_or (new u) [] ≡ unwrap_or (found u) [] ++ (if bytes_eq u member then group ∷ [] else [])
names_noted found new rest member group names had gone sets u = by_test (bytes_eq member u)
    (λ e.
    let here : member ≡ u = (bytes_decides member u).0 e in
    let turned : bytes_eq u member ≡ true = sym (nat_list_eq_equiv.symm member u) ∙ e in
    sets u ∙ rw (e, turned) (ap (λ l. l ++ group ∷ []) (had ∙ ap (λ v. unwrap_or (found v) []) here)))
    (λ e.
    let turned : bytes_eq u member ≡ false = sym (nat_list_eq_equiv.symm member u) ∙ e in
    sets u ∙ rw (e, turned) (gone u ∙ rw e (sym (append-nil (unwrap_or (found u) [])))))

-- a name is not among those before it
before : (xs : List (List ℕ)) (y : List ℕ) (zs : List (List ℕ)) → all_differ (xs ++ y ∷ zs) ≡ true → list_any (bytes_eq y) xs ≡ false
before [] y zs h = refl
before (x ∷ xs) y zs h =
    let ands : (not (list_any (bytes_eq x) (xs ++ y ∷ zs)) ≡ true) × (all_differ (xs ++ y ∷ zs) ≡ true) = both (not (list_any (bytes_eq x) (xs ++ y ∷ zs))) (all_differ (xs ++ y ∷ zs)) h in
    let apart : (list_any (bytes_eq x) xs || (bytes_eq x y || list_any (bytes_eq x) zs)) ≡ false = sym (list_any-append (bytes_eq x) xs (y ∷ zs)) ∙ negated (list_any (bytes_eq x) (xs ++ y ∷ zs)) ands.0 in
    let other : bytes_eq y x ≡ false = sym (nat_list_eq_equiv.symm x y) ∙ left (bytes_eq x y) (list_any (bytes_eq x) zs) (right (list_any (bytes_eq x) xs) (bytes_eq x y || list_any (bytes_eq x) zs) apart) in
    rw other (before xs y zs ands.1)
  where
    both : (a b : Bool) → a && b ≡ true → (a ≡ true) × (b ≡ true)
    both true b h = (refl, h)
    both false b h = absurd (both_ways false refl h)

    negated : (b : Bool) → not b ≡ true → b ≡ false
    negated true h = absurd (both_ways false refl h)
    negated false h = refl

    right : (a b : Bool) → a || b ≡ false → b ≡ false
    right true b h = absurd (both_ways true h refl)
    right false b h = h

    left : (a b : Bool) → a || b ≡ false → a ≡ false
    left true b h = h
    left false b h = refl

-- one more member of a group, of whom no two are the same
pub member_noted : (was now new : List ℕ → List (List ℕ)) (members : List (List ℕ)) (i : ℕ) (d member name : List ℕ) → i < length members → all_differ members ≡ true
    → member ≡ get_or members i d
    → ((u : List ℕ) → now u ≡ was u ++ (if list_any (bytes_eq u) (take i members) then name ∷ [] else []))
    → ((u : List ℕ) → new u ≡ now u ++ (if bytes_eq u member then name ∷ [] else []))
    → (u : List ℕ) → new u ≡ was u ++ (if list_any (bytes_eq u) (take (i + 1) members) then name ∷ [] else [])
member_noted was now new members i d member name lt differ is so_far more u = by_test (bytes_eq u member)
    (λ e.
    let here : u ≡ get_or members i d = (bytes_decides u member).0 e ∙ is in
    let apart : list_any (bytes_eq (get_or members i d)) (take i members) ≡ false = before (take i members) (get_or members i d) (drop (suc i) members)
    (ap all_differ (sym (sym (take-append-drop i members) ∙ ap (λ l. take i members ++ l) (drop-cons members i d lt))) ∙ differ) in
    let first : list_any (bytes_eq u) (take i members) ≡ false = ap (λ v. list_any (bytes_eq v) (take i members)) here ∙ apart in
    let among : list_any (bytes_eq u) (take (i + 1) members) ≡ true = list_any_more (bytes_eq u) members i d lt ∙ rw (first, sym is, e) refl in
    more u ∙ rw (so_far u, first, among, e) (ap (λ l. l ++ name ∷ []) (append-nil (was u))))
    (λ e.
    let among : list_any (bytes_eq u) (take (i + 1) members) ≡ list_any (bytes_eq u) (take i members) = list_any_more (bytes_eq u) members i d lt ∙ rw (sym is, e) (last (list_any (bytes_eq u) (take i members))) in
    more u ∙ rw (e, among) (append-nil (now u) ∙ so_far u))
  where
    last : (b : Bool) → b || false ≡ b
    last true = refl
    last false = refl
