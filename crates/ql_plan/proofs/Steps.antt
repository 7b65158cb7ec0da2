-- One number more.
use Rattle.std.proofs.Common.{◌≡◌, ◌∙◌, ℕ, ◌+◌, ◌<◌, Bool, List, ◌++◌, length, take, get_or, refl, sym, ap}
use Rattle.std.specs.Prelude.{Option, Some, None, filter, option_and_then, if◌then◌else◌}
use Rattle.std.specs.List.{filter_map}
use Rattle.std.specs.Option.{option_to_list}
use Rattle.std.proofs.lemmas.List.Elements.{filter-append}
use Rattle.cm_types.proofs.Lists.{filter_map_more}
use Rattle.cmis_laws.proofs.Lists.{by_test}

-- what is kept of one or none
one_kept : {B : Type 0} (keep : B → Bool) (o : Option B) → option_to_list (option_and_then (λ y. if keep y then Some y else None) o) ≡ filter keep (option_to_list o)
one_kept keep None = refl
one_kept keep (Some y) = by_test (keep y) (λ e. rw e refl) (λ e. rw e refl)

pub kept_more : {A B : Type 0} (keep : B → Bool) (h : A → Option B) (xs : List A) (i : ℕ) (d : A) → i < length xs → (rows more : List B)
    → rows ≡ filter keep (filter_map h (take i xs))
    → more ≡ rows ++ option_to_list (option_and_then (λ y. if keep y then Some y else None) (h (get_or xs i d)))
    → more ≡ filter keep (filter_map h (take (i + 1) xs))
kept_more keep h xs i d lt rows more before added =
    added
    ∙ (ap (λ ys. rows ++ ys) (one_kept keep (h (get_or xs i d)))
    ∙ (ap (λ rs. rs ++ filter keep (option_to_list (h (get_or xs i d)))) before
    ∙ (sym (filter-append keep (filter_map h (take i xs)) (option_to_list (h (get_or xs i d))))
    ∙ ap (filter keep) (filter_map_more h xs i d lt))))
