-- Trees in front that stand deeper than a level.
use Rattle.std.specs.Prelude.{◌≡◌, ℕ, true, false, List, [], ◌∷◌, codes}
use Rattle.std.proofs.Common.{refl}
use Rattle.std.proofs.lemmas.Bool.{both_ways}
use Rattle.json_text.specs.Build.{list_data}
use Rattle.type_replies.specs.Shown.{front_is_deeper}
use Rattle.type_replies.specs.Types.{Top, behind, deeper}
use Rattle.include_json.specs.Trees.{children_fields}

-- where the one in front is not deeper, none is
pub none_deeper : (level : ℕ) (ts : List Top) → front_is_deeper level ts ≡ false → (children_fields (deeper level ts) ≡ []) × (behind level ts ≡ ts)
none_deeper level [] h = (refl, refl)
none_deeper level (t ∷ ts) h = rw h (refl, refl)

-- where it is, there are some
pub some_deeper : (level : ℕ) (ts : List Top) → front_is_deeper level ts ≡ true → children_fields (deeper level ts) ≡ (codes "children", list_data (deeper level ts)) ∷ []
some_deeper level [] h = absurd (both_ways false refl h)
some_deeper level (t ∷ ts) h = rw h refl
