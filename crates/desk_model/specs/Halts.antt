-- What a call of a machine tells, by what is due. Want of memory is the one free answer.
use Rattle.std.specs.Prelude.{◌≡◌, Result, Ok, Err}
use Rattle.desk_model.specs.declared.machine.Halt.{Halt}
use Rattle.desk_model.specs.declared.machine.Halt.TheVariants.{Refused, Memory}

-- the call answers what is due, or that memory is wanted
abbrev pub Tells : {A X : Type 0} → Result A X → Result A (Halt X) → Type 0
Tells due (Ok x) = due ≡ Ok x
Tells due (Err (Refused cause)) = due ≡ Err cause
Tells due (Err Memory) = Unit {0}

-- the call answers a value and then what is due, or that memory is wanted
abbrev pub TellsSecond : {A B X : Type 0} → Result B X → Result (A × B) (Halt X) → Type 0
TellsSecond due (Ok x) = due ≡ Ok x.1
TellsSecond due (Err (Refused cause)) = due ≡ Err cause
TellsSecond due (Err Memory) = Unit {0}

-- the call answers two values and then what is due, or that memory is wanted
abbrev pub TellsThird : {A B D X : Type 0} → Result D X → Result (A × B × D) (Halt X) → Type 0
TellsThird due (Ok x) = due ≡ Ok x.2
TellsThird due (Err (Refused cause)) = due ≡ Err cause
TellsThird due (Err Memory) = Unit {0}
