-- What one more name changes for an index of names.
use Rattle.std.proofs.Common.{◌≡◌, ℕ, Bool, true, false, cond, List, [], ◌∷◌, ◌++◌, refl, sym, ◌∙◌}
use Rattle.std.specs.Prelude.{Option, Some, bytes_eq, ◌||◌}
use Rattle.std.specs.Option.{is_some}
use Rattle.std.specs.List.{list_any}
use Rattle.std.specs.Cmp.Lexicographic.{bytes_decides}
use Rattle.std.proofs.Math.Bool.{or-true, or-false}
use Rattle.std.proofs.lemmas.List.Folds.{list_any-append}
use Rattle.call_parts.specs.Names.{FindsNames}

turned_true : (a b : List ℕ) → bytes_eq a b ≡ true → bytes_eq b a ≡ true
turned_true a b e = (bytes_decides b a).1 (sym ((bytes_decides a b).0 e))

turned : (a b : List ℕ) (x y : Bool) → bytes_eq a b ≡ x → bytes_eq b a ≡ y → x ≡ y
turned a b true true e f = refl
turned a b false false e f = refl
turned a b true false e f = sym (turned_true a b e) ∙ f
turned a b false true e f = sym e ∙ turned_true b a f

-- the index finds what it found, and the new name
pub FindsNames-push : {A : Type 0} (found new : List ℕ → Option A) (done : List (List ℕ)) (name : List ℕ) (x : A) → FindsNames found done
    → ((q : List ℕ) → new q ≡ cond (bytes_eq name q) (Some x) (found q)) → FindsNames new (done ++ name ∷ [])
FindsNames-push found new done name x h sets q =
    by_name (bytes_eq name q) refl ∙ sym (list_any-append (bytes_eq q) done (name ∷ []))
  where
    same : bytes_eq name q ≡ bytes_eq q name
    same = turned name q (bytes_eq name q) (bytes_eq q name) refl refl

    by_name : (b : Bool) → bytes_eq name q ≡ b → is_some (new q) ≡ (list_any (bytes_eq q) done || list_any (bytes_eq q) (name ∷ []))
    by_name true e = rw (sets q, e, sym same, e) (sym (or-true (list_any (bytes_eq q) done)))
    by_name false e = rw (sets q, e, sym same, e) (h q ∙ sym (or-false (list_any (bytes_eq q) done)))
