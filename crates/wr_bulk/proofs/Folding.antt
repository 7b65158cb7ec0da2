-- A fold over one item more.
use Rattle.std.proofs.Common.{◌≡◌, ◌<◌, ◌+◌, ℕ, length, get_or, take, List, [], ◌∷◌, ◌++◌, fold, sym, ap, refl, ◌∙◌}
use Rattle.std.proofs.lemmas.List.{take_more}

fold_behind : {A B : Type 0} (f : B → A → B) (b : B) (xs : List A) (x : A) → fold f b (xs ++ x ∷ []) ≡ f (fold f b xs) x
fold_behind f b [] x = refl
fold_behind f b (y ∷ xs) x = fold_behind f (f b y) xs x

pub fold_more : {A B : Type 0} (f : B → A → B) (b : B) (xs : List A) (i : ℕ) (x : A) → i < length xs → x ≡ get_or xs i x → fold f b (take (i + 1) xs) ≡ f (fold f b (take i xs)) x
fold_more f b xs i x lt is =
    ap (fold f b) (take_more xs i x lt ∙ ap (λ y. take i xs ++ y ∷ []) (sym is))
    ∙ fold_behind f b (take i xs) x
