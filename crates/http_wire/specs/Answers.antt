-- What a reader of requests answers, by the bytes that it had and got.
use Rattle.std.specs.Prelude.{◌≡◌, ℕ, ◌⊎◌, Bool, true, false, List, [], ◌++◌, drop, Result, Ok, Err, ⊤}
use Rattle.outside.specs.Outside.{SourceTold, Gave, Rose}
use Rattle.http_grammar.specs.Request.{Head}
use Rattle.http_grammar.specs.Fields.{expects_continue}
use Rattle.http_grammar.specs.First.{First, Whole, Fault, IsPending, HoldsHead}
use Rattle.http_grammar.specs.declared.fault.HttpFault.{HttpFault}
use Rattle.http_grammar.specs.declared.fault.HttpFault.TheVariants.{Cut}
use Rattle.http_wire.specs.Buffers.{BufferTold}
use Rattle.http_wire.specs.declared.fault.WireStop.{WireStop}
use Rattle.http_wire.specs.declared.fault.WireStop.TheVariants.{Bad, ReadFault, Memory}
use Rattle.http_wire.specs.declared.incoming.Incoming.{Incoming}
use Rattle.http_wire.specs.declared.incoming.Incoming.TheVariants as incoming

-- no interim reply is still due for a head at the front of the bytes
abbrev pub NoneDue : Bool → List ℕ → Type 0
NoneDue answered bytes = (head : Head) → HoldsHead bytes head → expects_continue head ≡ true → answered ≡ true

-- a fault of the bytes, or the end of the source inside a request
abbrev pub BadAnswer : Bool → List ℕ → SourceTold → HttpFault → Type 0
BadAnswer answered bytes new Cut = IsPending bytes × NoneDue answered bytes × (new.ended ≡ true)
BadAnswer answered bytes new fault = First bytes (Fault fault) × NoneDue answered bytes

-- bytes are those in the buffer and those that were read; answered is whether the head at their front was answered
abbrev pub Answers : Bool → List ℕ → SourceTold → SourceTold → Result Incoming WireStop → BufferTold → Type 0
Answers answered bytes old new (Ok (incoming.Head head)) after =
    HoldsHead bytes head × (expects_continue head ≡ true) × (answered ≡ false) × (after ≡ record { bytes = bytes; answered = true })
Answers answered bytes old new (Ok (incoming.Body request)) after =
    (n : ℕ) × First bytes (Whole request n) × NoneDue answered bytes × (after ≡ record { bytes = drop n bytes; answered = false })
Answers answered bytes old new (Ok incoming.Over) after = (bytes ≡ []) × (new.ended ≡ true)
Answers answered bytes old new (Err (Bad fault)) after = BadAnswer answered bytes new fault
Answers answered bytes old new (Err ReadFault) after = ((bytes ≡ []) ⊎ IsPending bytes) × NoneDue answered bytes × Rose old.faults new.faults
Answers answered bytes old new (Err Memory) after = ⊤

-- the bytes that the source gave in the call, and the answer by them
pub record ReadsRequest (before after : BufferTold) (old new : SourceTold) (result : Result Incoming WireStop) : Type 0 where
  pub got : List ℕ
  pub gave : Gave old new got
  pub answer : Answers before.answered (before.bytes ++ got) old new result after
