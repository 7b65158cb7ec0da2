-- The folders of an entry, as a map has them by their places.
use Rattle.std.specs.Prelude.{◌≡◌, Bool, ◌&&◌, List, [], ◌∷◌, map}
use Rattle.std.specs.List.{list_all}
use Rattle.std.proofs.Common.{refl, ap}

pub all_values : {K A : Type 0} (t : A → Bool) (es : List (K × A)) → list_all (λ e. t e.1) es ≡ list_all t (map (λ e. e.1) es)
all_values t [] = refl
all_values t (e ∷ es) = ap (λ b. t e.1 && b) (all_values t es)
