-- Names that differ, seen one after another.
use Rattle.std.proofs.Common.{◌≡◌, ℕ, suc, ◌<◌, ◌+◌, Bool, true, false, cond, not, ◌&&◌, ◌||◌, List, [], ◌∷◌, ◌++◌, length, map, take, drop, get_or, refl, sym, ap, ◌∙◌, Bor, bytes_eq, subst}
use Rattle.std.specs.List.{list_any}
use Rattle.std.specs.Ordering.{is_eq, nat_cmp}
use Rattle.std.specs.Cmp.Lexicographic.{slice_cmp, nat_list_eq_equiv}
use Rattle.std.specs.BTreeSet.{BTreeSet, contains}
use Rattle.std.proofs.Math.Seq.{drop-cons}
use Rattle.std.proofs.lemmas.List.{take_more, take-append-drop, map-append}
use Rattle.std.proofs.lemmas.List.Folds.{list_any-append}
use Rattle.std.proofs.lemmas.Map.Text.{is_eq-slice_cmp}
use Rattle.cm_base.specs.UserLists.{all_differ, name_part, texts_of}

-- one more name that is not among them
step : (a b c d : Bool) → (not a && b) ≡ true → (c || d) ≡ false → (not (a || (c || false)) && true) ≡ true
step false b false d p q = refl
step false b true d p q = sym q
step true b c d p q = p

later : (a b : Bool) → (not a && b) ≡ true → b ≡ true
later false b p = p
later true false p = p
later true true p = refl

other : (a b : Bool) → (a || b) ≡ false → b ≡ false
other false b p = p
other true true p = p
other true false p = refl

pub differ-push : (xs : List (List ℕ)) (y : List ℕ) → all_differ xs ≡ true → list_any (bytes_eq y) xs ≡ false → all_differ (xs ++ y ∷ []) ≡ true
differ-push [] y p q = refl
differ-push (x ∷ xs) y p q =
    ap (λ b. not b && all_differ (xs ++ y ∷ [])) (list_any-append (bytes_eq x) xs (y ∷ []))
    ∙ ap (λ b. not (list_any (bytes_eq x) xs || (b || false)) && all_differ (xs ++ y ∷ [])) (nat_list_eq_equiv.symm x y)
    ∙ ap (λ b. not (list_any (bytes_eq x) xs || (bytes_eq y x || false)) && b) (differ-push xs y (later (list_any (bytes_eq x) xs) (all_differ xs) p) (other (bytes_eq y x) (list_any (bytes_eq y) xs) q))
    ∙ step (list_any (bytes_eq x) xs) (all_differ xs) (bytes_eq y x) (list_any (bytes_eq y) xs) p q

-- a name that is among those before it
again : (e a b c d : Bool) → (e || a) ≡ true → (a ≡ true → b ≡ false) → (not (c || (e || d)) && b) ≡ false
again true a b false d p f = refl
again true a b true d p f = refl
again false true b false d p f = ap (λ k. not d && k) (f refl) ∙ both d
  where
    both : (d : Bool) → (not d && false) ≡ false
    both true = refl
    both false = refl
again false true b true d p f = refl
again false false b c d p f = ap (λ k. not (c || d) && k) (absurd_of p) ∙ both (c || d)
  where
    absurd_of : {A : Type 0} → false ≡ true → A
    absurd_of e = cc e

    both : (d : Bool) → (not d && false) ≡ false
    both true = refl
    both false = refl

pub differ-again : (xs : List (List ℕ)) (y : List ℕ) (zs : List (List ℕ)) → list_any (bytes_eq y) xs ≡ true → all_differ (xs ++ y ∷ zs) ≡ false
differ-again [] y zs p = cc p
differ-again (x ∷ xs) y zs p =
    ap (λ b. not b && all_differ (xs ++ y ∷ zs)) (list_any-append (bytes_eq x) xs (y ∷ zs))
    ∙ ap (λ b. not (list_any (bytes_eq x) xs || (b || list_any (bytes_eq x) zs)) && all_differ (xs ++ y ∷ zs)) (nat_list_eq_equiv.symm x y)
    ∙ again (bytes_eq y x) (list_any (bytes_eq y) xs) (all_differ (xs ++ y ∷ zs)) (list_any (bytes_eq x) xs) (list_any (bytes_eq x) zs) p (differ-again xs y zs)

abbrev pub names : List (Bor (List ℕ)) → List (List ℕ)
names list = map name_part (texts_of list)

names-append : (xs ys : List (Bor (List ℕ))) → names (xs ++ ys) ≡ names xs ++ names ys
names-append xs ys = ap (map name_part) (map-append (λ (t : Bor (List ℕ)). t.now) xs ys) ∙ map-append name_part (texts_of xs) (texts_of ys)

pub names-more : (xs : List (Bor (List ℕ))) (i : ℕ) (d : Bor (List ℕ)) → i < length xs → names (take (i + 1) xs) ≡ names (take i xs) ++ name_part (get_or xs i d).now ∷ []
names-more xs i d lt = ap names (take_more xs i d lt) ∙ names-append (take i xs) (get_or xs i d ∷ [])

pub names-split : (xs : List (Bor (List ℕ))) (i : ℕ) (d : Bor (List ℕ)) → i < length xs → names xs ≡ names (take i xs) ++ name_part (get_or xs i d).now ∷ names (drop (suc i) xs)
names-split xs i d lt =
    ap names (sym (take-append-drop i xs) ∙ ap (λ l. take i xs ++ l) (drop-cons xs i d lt))
    ∙ names-append (take i xs) (get_or xs i d ∷ drop (suc i) xs)

-- the set has the names of the pieces so far
abbrev pub str_cmp : Bor (List ℕ) → Bor (List ℕ) → Rattle.std.specs.declared.cmp.Ordering.Ordering
str_cmp x y = slice_cmp nat_cmp x.now y.now

pub record HasSeen (set : BTreeSet (Bor (List ℕ))) (so_far : List (List ℕ)) : Type 0 where
  pub differ : all_differ so_far ≡ true
  pub has : (q : Bor (List ℕ)) → contains str_cmp set q ≡ list_any (bytes_eq q.now) so_far

seen-more_has : (set set' : BTreeSet (Bor (List ℕ))) (so_far : List (List ℕ)) (key q : Bor (List ℕ)) → contains str_cmp set' q ≡ cond (is_eq (str_cmp key q)) true (contains str_cmp set q) → contains str_cmp set q ≡ list_any (bytes_eq q.now) so_far → contains str_cmp set' q ≡ list_any (bytes_eq q.now) (so_far ++ key.now ∷ [])
seen-more_has set set' so_far key q u e =
    u ∙ ap (λ b. cond b true (contains str_cmp set q)) (is_eq-slice_cmp key.now q.now)
    ∙ ap (λ b. cond (bytes_eq key.now q.now) true b) e
    ∙ turned (bytes_eq key.now q.now) (list_any (bytes_eq q.now) so_far)
    ∙ ap (λ b. list_any (bytes_eq q.now) so_far || (b || false)) (nat_list_eq_equiv.symm key.now q.now)
    ∙ sym (list_any-append (bytes_eq q.now) so_far (key.now ∷ []))
  where
    turned : (a b : Bool) → cond a true b ≡ (b || (a || false))
    turned true true = refl
    turned true false = refl
    turned false true = refl
    turned false false = refl

pub seen-more : (set set' : BTreeSet (Bor (List ℕ))) (so_far : List (List ℕ)) (key : Bor (List ℕ)) → HasSeen set so_far → contains str_cmp set key ≡ false → ((q : Bor (List ℕ)) → contains str_cmp set' q ≡ cond (is_eq (str_cmp key q)) true (contains str_cmp set q)) → HasSeen set' (so_far ++ key.now ∷ [])
seen-more set set' so_far key seen absent u = record {
  differ = differ-push so_far key.now seen.differ (sym (seen.has key) ∙ absent);
  has = λ q. seen-more_has set set' so_far key q (u q) (seen.has q);
}

pub from_not : (b c : Bool) → c ≡ not b → c ≡ false → b ≡ true
from_not true c p q = refl
from_not false c p q = cc (p, q)

pub from_not' : (b c : Bool) → c ≡ not b → c ≡ true → b ≡ false
from_not' false c p q = refl
from_not' true c p q = cc (p, q)

-- a name that the set has is twice among the names
pub names-again : (set : BTreeSet (Bor (List ℕ))) (xs : List (Bor (List ℕ))) (i : ℕ) (d key : Bor (List ℕ)) → i < length xs → HasSeen set (names (take i xs)) → contains str_cmp set key ≡ true → key.now ≡ name_part (get_or xs i d).now → all_differ (names xs) ≡ false
names-again set xs i d key lt seen has e =
    ap all_differ (names-split xs i d lt ∙ ap (λ n. names (take i xs) ++ n ∷ names (drop (suc i) xs)) (sym e))
    ∙ differ-again (names (take i xs)) key.now (names (drop (suc i) xs)) (sym (seen.has key) ∙ has)

-- a name that it has not is one more
pub names-new : (set set' : BTreeSet (Bor (List ℕ))) (xs : List (Bor (List ℕ))) (i : ℕ) (d key : Bor (List ℕ)) → i < length xs → HasSeen set (names (take i xs)) → contains str_cmp set key ≡ false → key.now ≡ name_part (get_or xs i d).now → ((q : Bor (List ℕ)) → contains str_cmp set' q ≡ cond (is_eq (str_cmp key q)) true (contains str_cmp set q)) → HasSeen set' (names (take (i + 1) xs))
names-new set set' xs i d key lt seen absent e u =
    let P : List (List ℕ) → Type 0 = λ so_far. HasSeen set' so_far in
    subst P (ap (λ n. names (take i xs) ++ n ∷ []) e ∙ sym (names-more xs i d lt)) (seen-more set set' (names (take i xs)) key seen absent u)
