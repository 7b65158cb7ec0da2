-- The line of a step, and the world behind it.
use Rattle.std.specs.Prelude.{◌≡◌, ℕ, List, Result, Ok, Err, IfOk, string_bytes}
use Rattle.std.proofs.Common.{String, Global, sym, subst}
use Rattle.desk_core.specs.declared.event.Done.{Done}
use Rattle.desk_core.specs.declared.event.CoreStop.{CoreStop}
use Rattle.schedule_run.specs.Events.{Asking}
use Rattle.schedule_run.specs.Printed.{line_of}

-- the line of an answer is that of what was told
pub line_as : {C Q A X E : Type 0} (a : Asking C Q A X) (k : ℕ) (answer told : Result (Done A) (CoreStop X)) (line : Result (String Global) E) → told ≡ answer
    → IfOk line (λ s. string_bytes s ≡ line_of a k answer) → IfOk line (λ s. string_bytes s ≡ line_of a k told)
line_as a k answer told line same h = subst (λ t. IfOk line (λ s. string_bytes s ≡ line_of a k t)) (sym same) h

-- what is true is true where there is a line
pub true_anyway : {E P : Type 0} (line : Result (String Global) E) → P → IfOk line (λ s. P)
true_anyway (Ok s) p = p
true_anyway (Err e) p = tt
