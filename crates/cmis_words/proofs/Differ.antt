-- Names that differ, seen one after another by a set.
use Rattle.std.proofs.Common.{◌≡◌, ℕ, suc, ◌<◌, ◌+◌, Bool, true, false, cond, not, List, [], ◌∷◌, ◌++◌, length, take, drop, get_or, refl, sym, ap, subst, ◌∙◌, Bor}
use Rattle.std.specs.BTreeSet.{BTreeSet, contains}
use Rattle.std.specs.Ordering.{is_eq}
use Rattle.std.proofs.Math.Seq.{drop-cons}
use Rattle.std.proofs.lemmas.List.{take_more, take-append-drop}
use Rattle.cm_base.specs.UserLists.{all_differ}
use Rattle.cm_base.proofs.Differs.{HasSeen, str_cmp, differ-again, seen-more}

-- a name that the set has is twice among the names
pub again : (set : BTreeSet (Bor (List ℕ))) (xs : List (List ℕ)) (i : ℕ) (d : List ℕ) (key : Bor (List ℕ)) → i < length xs → HasSeen set (take i xs) → contains str_cmp set key ≡ true → key.now ≡ get_or xs i d → all_differ xs ≡ false
again set xs i d key lt seen has e =
    ap all_differ (sym (take-append-drop i xs) ∙ ap (λ l. take i xs ++ l) (drop-cons xs i d lt ∙ ap (λ n. n ∷ drop (suc i) xs) (sym e)))
    ∙ differ-again (take i xs) key.now (drop (suc i) xs) (sym (seen.has key) ∙ has)

-- a name that it has not is one more
pub new : (set set' : BTreeSet (Bor (List ℕ))) (xs : List (List ℕ)) (i : ℕ) (d : List ℕ) (key : Bor (List ℕ)) → i < length xs → HasSeen set (take i xs) → contains str_cmp set key ≡ false → key.now ≡ get_or xs i d
    → ((q : Bor (List ℕ)) → contains str_cmp set' q ≡ cond (is_eq (str_cmp key q)) true (contains str_cmp set q)) → HasSeen set' (take (i + 1) xs)
new set set' xs i d key lt seen absent e u =
    subst (HasSeen set') (ap (λ n. take i xs ++ n ∷ []) e ∙ sym (take_more xs i d lt)) (seen-more set set' (take i xs) key seen absent u)

pub was_in : (b c : Bool) → c ≡ not b → c ≡ false → b ≡ true
was_in true c p q = refl
was_in false c p q = cc (p, q)

pub was_out : (b c : Bool) → c ≡ not b → c ≡ true → b ≡ false
was_out false c p q = refl
was_out true c p q = cc (p, q)
