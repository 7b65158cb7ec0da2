-- The machine of the tests, which counts its steps.
use Rattle.std.specs.Prelude.{ℕ, ◌+◌, nat_lt, if◌then◌else◌, Result, Ok, Err}
use Rattle.desk_model.specs.declared.entry.Entry.{Entry}

-- the count goes up, to 100
abbrev pub count_step : {C : Type 0} → ℕ → Entry C → Result (ℕ × ℕ) ℕ
count_step s e = if nat_lt s 100 then Ok (s + 1, s) else Err s
