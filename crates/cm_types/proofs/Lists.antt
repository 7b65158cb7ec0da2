-- One more item of a list of which some are taken.
use Rattle.std.proofs.Common.{◌≡◌, ◌∙◌, ℕ, ◌+◌, ◌<◌, List, [], ◌∷◌, ◌++◌, length, take, get_or, refl, sym, ap}
use Rattle.std.specs.Prelude.{Option, Some, None}
use Rattle.std.specs.Option.{option_to_list}
use Rattle.std.specs.List.{filter_map}
use Rattle.std.proofs.lemmas.List.{take_more}
use Rattle.std.proofs.lemmas.List.Elements.{filter_map-append}

one_more : {A B : Type 0} (h : A → Option B) (x : A) (o : Option B) → h x ≡ o → option_to_list o ≡ filter_map h (x ∷ [])
one_more h x None e = rw e refl
one_more h x (Some y) e = rw e refl

pub filter_map_more : {A B : Type 0} (h : A → Option B) (xs : List A) (i : ℕ) (d : A) → i < length xs
    → filter_map h (take i xs) ++ option_to_list (h (get_or xs i d)) ≡ filter_map h (take (i + 1) xs)
filter_map_more h xs i d lt =
    ap (λ l. filter_map h (take i xs) ++ l) (one_more h (get_or xs i d) (h (get_or xs i d)) refl)
    ∙ sym (filter_map-append h (take i xs) (get_or xs i d ∷ []))
    ∙ ap (filter_map h) (sym (take_more xs i d lt))
