-- One more piece of a list.
use Rattle.std.proofs.Common.{◌≡◌, ℕ, List, [], ◌∷◌, ◌++◌, refl, sym, ap, ◌∙◌, append_assoc, append-nil, length, take, get_or, ◌+◌, ◌<◌}
use Rattle.std.proofs.lemmas.List.{take_more}
use Rattle.cm_base.specs.Whole.{whole}

whole-push : (xs : List (List ℕ)) (x : List ℕ) → whole (xs ++ x ∷ []) ≡ whole xs ++ x
whole-push [] x = append-nil x
whole-push (y ∷ xs) x = ap (λ l. y ++ l) (whole-push xs x) ∙ sym (append_assoc y (whole xs) x)

pub whole-more : (done old : List ℕ) (pieces : List (List ℕ)) (i : ℕ) (d : List ℕ) → i < length pieces → done ≡ old ++ whole (take i pieces) → done ++ get_or pieces i d ≡ old ++ whole (take (i + 1) pieces)
whole-more done old pieces i d lt e =
    ap (λ x. x ++ get_or pieces i d) e ∙ append_assoc old (whole (take i pieces)) (get_or pieces i d)
    ∙ ap (λ x. old ++ x) (sym (ap whole (take_more pieces i d lt) ∙ whole-push (take i pieces) (get_or pieces i d)))
