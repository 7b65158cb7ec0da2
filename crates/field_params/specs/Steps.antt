-- What a byte of a quoted value does.
use Rattle.std.specs.Prelude.{ℕ, Bool, true, false, ◌||◌, ◌==◌, if◌then◌else◌}
use Rattle.field_params.specs.declared.quoted.Step.{Step}
use Rattle.field_params.specs.declared.quoted.Step.TheVariants.{End, Slash, Plain, Both}

abbrev pub step_of : Bool → ℕ → Step
step_of true b = if b == 34 || b == 92 then Plain else Both
step_of false b = if b == 34 then End else if b == 92 then Slash else Plain
