-- Types by the ids of their parents.
use Rattle.std.specs.Prelude.{◌≡◌, ℕ, List, [], map, Option, Vec}
use Rattle.std.specs.Option.{option_map_or}
use denote.Ref.{Bor}
use Rattle.cm_map.specs.Parts.{pointee}
use Rattle.cm_types.specs.declared.definition.TypeDef.{TypeDef}
use Rattle.cm_types.specs.Types.{subtypes}

-- what is kept at an id
abbrev pub group_in : {A : Type 0} → Option (Vec (Bor TypeDef) A) → List TypeDef
group_in group = map pointee (option_map_or (λ g. g.items) group [])

-- at the id of each type there are its subtypes
pub record HasGroups {A : Type 0} (at : List ℕ → Option (Vec (Bor TypeDef) A)) (types : List TypeDef) : Type 0 where
  pub each : (id : List ℕ) → group_in (at id) ≡ subtypes types id
