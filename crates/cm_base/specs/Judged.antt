-- The words of refusals: lines that are tested in order, and the first cause that one of them has.
use Rattle.std.specs.Prelude.{Bool, true, false, Result, Ok, Err, Option, Some, None, List, [], ◌∷◌, ◌≡◌}
use Rattle.cm_base.specs.declared.cause.Cause.{Cause}
use Rattle.cm_base.specs.declared.fail.Fail.{Fail}
use Rattle.cm_base.specs.declared.fail.Fail.TheVariants as fails

-- what was found, or the cause of the refusal
abbrev pub Judged : Type 0 → Type 0
Judged A = Result A Cause

infixl 10 ◌>>=◌
abbrev pub ◌>>=◌ : {A B : Type 0} → Result A Cause → (A → Result B Cause) → Result B Cause
(Ok x) >>= f = f x
(Err c) >>= f = Err c

infixr 10 ◌>>◌
abbrev pub ◌>>◌ : {B : Type 0} → Result (Unit {0}) Cause → Result B Cause → Result B Cause
(Ok x) >> rest = rest
(Err c) >> rest = Err c

-- a line of the list: the cause, and where it comes
abbrev pub refuse : Cause → Bool → Judged (Unit {0})
refuse c true = Err c
refuse c false = Ok tt

-- a line that finds something, and the cause where it is not there
abbrev pub find_or : {A : Type 0} → Cause → Option A → Judged A
find_or c None = Err c
find_or c (Some x) = Ok x

abbrev pub judge_by : Option Cause → Judged (Unit {0})
judge_by None = Ok tt
judge_by (Some c) = Err c

-- the first cause that a line of a given list has
abbrev pub first_cause : {A : Type 0} → (A → Option Cause) → List A → Judged (Unit {0})
first_cause f [] = Ok tt
first_cause f (x ∷ xs) = judge_by (f x) >> first_cause f xs

-- the cause, or none
abbrev pub cause_of : {A : Type 0} → Judged A → Option Cause
cause_of (Ok x) = None
cause_of (Err c) = Some c

-- the error is the cause; want of memory is free
abbrev pub Fails : {Y : Type 0} → Fail → Judged Y → Type 0
Fails (fails.Refused c) judged = judged ≡ Err c
Fails fails.Memory judged = Unit {0}

-- what a function answers, seen by view, is what is judged
abbrev pub Meets : {X Y : Type 0} → (X → Y) → Result X Fail → Judged Y → Type 0
Meets view (Ok x) judged = judged ≡ Ok (view x)
Meets view (Err e) judged = Fails e judged

-- a write answers the cause, or the repository after it and its reply
abbrev pub Writes : {S A : Type 0} → Result (S × A) Fail → Judged (Unit {0}) → S → A → Type 0
Writes (Ok x) judged after acknowledgement = (judged ≡ Ok tt) × (x.0 ≡ after) × (x.1 ≡ acknowledgement)
Writes (Err e) judged after acknowledgement = Fails e judged

-- a call leaves this state where it is not refused
abbrev pub Leaves : {S : Type 0} → Result S Fail → Judged (Unit {0}) → S → Type 0
Leaves (Ok s) judged after = (judged ≡ Ok tt) × (s ≡ after)
Leaves (Err e) judged after = Fails e judged
