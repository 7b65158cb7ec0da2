-- What a call that finds its object answers.
use Rattle.std.specs.Prelude.{◌≡◌, Result, Ok, Err, Option, Some}
use Rattle.cm_base.specs.declared.cause.Cause.{Cause}
use Rattle.cm_base.specs.declared.fail.Fail.{Fail}
use Rattle.cm_base.specs.Judged.{Judged, Fails}

-- the object that is found where the call is not refused, or the cause
abbrev pub Finds : {A B : Type 0} → (A → B) → Result A Cause → Judged (Unit {0}) → Option B → Type 0
Finds view (Ok x) judged found = (judged ≡ Ok tt) × (found ≡ Some (view x))
Finds view (Err c) judged found = judged ≡ Err c

-- the object that is found where the call is not refused, with what is asked of it, or the cause; want of memory is free
abbrev pub FindsWith : {A B V : Type 0} → (A → B) → Result (A × V) Fail → Judged (Unit {0}) → Option B → (B → V) → Type 0
FindsWith view (Ok x) judged found of = (judged ≡ Ok tt) × (found ≡ Some (view x.0)) × (x.1 ≡ of (view x.0))
FindsWith view (Err e) judged found of = Fails e judged
