-- What a source has left and has given, and what a sink holds, where those are told; the counts of faults; and what a call leaves alone.
use Rattle.std.specs.Prelude.{◌≡◌, ℕ, ◌+◌, ◌-◌, ◌^◌, ◌<◌, ◌≤◌, min, Bool, true, false, List, [], ◌++◌, length, take, Some, None, Ok, Err, Result, OnErr}
use Rattle.std.specs.Io.KnownBytes.{prepend_known, append_known, IsAtEnd}
use Rattle.std.specs.declared.option.Option.{Option}

-- a count that went up in a call, or stands at the last value of its type
abbrev pub Rose : ℕ → ℕ → Type 0
Rose before now = min (before + 1) (2 ^ 64 - 1) ≤ now

-- the count never falls, and a call that fails raises it
pub record HasCause {T E : Type 0} (before now : ℕ) (result : Result T E) : Type 0 where
  pub later : before ≤ now
  pub failed : OnErr result (Rose before now)

-- what a sink tells
pub record SinkTold : Type 0 where
  pub held : Option (List ℕ)
  pub faults : ℕ

-- what a source tells
pub record SourceTold : Type 0 where
  pub left : Option (List ℕ)
  pub given : Option (List ℕ)
  pub ended : Bool
  pub faults : ℕ

-- what no read changes: what the sink of a link tells, and the references that the value holds, by their ghost names
pub record KeptByReads : Type 0 where
  pub sink : SinkTold
  pub stands_for : List ℕ

-- what no write changes: what the source of a link tells, and the references that the value holds, by their ghost names
pub record KeptByWrites : Type 0 where
  pub source : SourceTold
  pub stands_for : List ℕ

-- what no read changes at a source alone that holds no reference
abbrev pub nothing_beside_source : KeptByReads
nothing_beside_source = record { sink = record { held = Some []; faults = 0 }; stands_for = [] }

-- what no write changes at a sink alone that holds no reference
abbrev pub nothing_beside_sink : KeptByWrites
nothing_beside_sink = record { source = record { left = Some []; given = Some []; ended = false; faults = 0 }; stands_for = [] }

-- the bytes of a read that gave n
pub record ReadsBytes (old new : SourceTold) (bytes : List ℕ) (n : ℕ) : Type 0 where
  pub left : old.left ≡ prepend_known bytes new.left
  pub given : new.given ≡ append_known old.given bytes
  pub at_end : n ≡ 0 → (new.ended ≡ true) × IsAtEnd new.left
  pub before_end : 0 < n → (old.ended ≡ false) × (new.ended ≡ false)

-- Of a read into room: at Ok(n) the first n bytes of room are the next of what is left, and join what was given;
-- n is 0 at the end and there alone, and then the source has ended and stays so. A read that fails changes nothing here.
abbrev pub Reads : {E : Type 0} → SourceTold → SourceTold → Result ℕ E → List ℕ → Type 0
Reads old new (Ok n) room = ReadsBytes old new (take n room) n
Reads old new (Err _) room = (new.left ≡ old.left) × (new.given ≡ old.given) × (new.ended ≡ old.ended)

-- Of a write of piece: at Ok(n) its first n bytes join what is held. A write that fails adds nothing.
abbrev pub Writes : {E : Type 0} → SinkTold → SinkTold → Result ℕ E → List ℕ → Type 0
Writes old new (Ok n) piece = (0 < n) × (n ≤ length piece) × (new.held ≡ append_known old.held (take n piece))
Writes old new (Err _) piece = new.held ≡ old.held

-- over some calls, these bytes were given, and the count of faults didn't fall
pub record Gave (old new : SourceTold) (bytes : List ℕ) : Type 0 where
  pub left : old.left ≡ prepend_known bytes new.left
  pub given : new.given ≡ append_known old.given bytes
  pub later : old.faults ≤ new.faults

-- over some calls, these bytes were taken, and the count of faults didn't fall
pub record Took (old new : SinkTold) (bytes : List ℕ) : Type 0 where
  pub held : new.held ≡ append_known old.held bytes
  pub later : old.faults ≤ new.faults

-- the pieces that a sink's writes were given, and these behind them, where the sink tells them
abbrev pub with_pieces : Option (List (List ℕ)) → List (List ℕ) → Option (List (List ℕ))
with_pieces None more = None
with_pieces (Some pieces) more = Some (pieces ++ more)
