-- What an index by name tells.
use Rattle.std.specs.Prelude.{◌≡◌, ℕ, ◌<◌, List, length, Option, option_map}
use Rattle.std.specs.Option.{IfSome}
use Rattle.std.specs.List.{slice_index_or}
use Rattle.form_args.specs.declared.pairs.Pair.{Pair}
use Rattle.form_args.specs.Pairs.{first_of}

-- for each name the place of its first pair
pub record FindsFirst (place : List ℕ → Option ℕ) (pairs : List Pair) : Type 0 where
  pub within : (name : List ℕ) → IfSome (place name) (λ i. i < length pairs)
  pub finds : (name : List ℕ) (d : Pair) → first_of pairs name ≡ option_map (λ i. (slice_index_or pairs i d).value) (place name)
