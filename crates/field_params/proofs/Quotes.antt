-- Reading a quoted value byte by byte.
use Rattle.std.proofs.Common.{ℕ, List, ◌++◌}
use Rattle.std.specs.Prelude.{option_map}
use Rattle.field_params.specs.Params.{Read}

-- bytes before what is read
abbrev pub before : List ℕ → Read → Read
before done read = option_map (λ r. (done ++ r.0, r.1)) read
