-- What a reader of heads answers, by the bytes that it had and got.
use Rattle.std.specs.Prelude.{◌≡◌, ℕ, ◌<◌, ◌⊎◌, true, List, [], ◌++◌, length, Result, Ok, Err, Option, Some, None, ⊤}
use Rattle.httparse.specs.declared.spans.HeaderSpan.{HeaderSpan}
use Rattle.outside.specs.Outside.{SourceTold, Gave, Rose}
use Rattle.http_grammar.specs.First.{First, Beginning, Fault}
use Rattle.http_grammar.specs.declared.fault.HttpFault.{HttpFault}
use Rattle.http_grammar.specs.declared.fault.HttpFault.TheVariants.{Cut}
use Rattle.http_grammar.specs.Limits.{head_limit}
use Rattle.http_wire.specs.Seen.{SeesHead, SeesWhole, HoldsNone}
use Rattle.http_wire.specs.declared.fault.WireStop.{WireStop}
use Rattle.http_wire.specs.declared.fault.WireStop.TheVariants.{Bad, ReadFault, Memory}
use Rattle.http_wire.specs.declared.heads.HeadSeen.{HeadSeen}
use Rattle.http_wire.specs.declared.heads.HeadSeen.TheVariants as seen
use Rattle.http_wire.specs.declared.heads.Framed.{Framed}

-- a look that may be put off below the limit
abbrev pub Looks : List ℕ → List HeaderSpan → HeadSeen → Type 0
Looks bytes spans seen.Open = length bytes < head_limit
Looks bytes spans (seen.Bad f) = SeesHead bytes spans (seen.Bad f)
Looks bytes spans (seen.Whole r framing expects) = SeesHead bytes spans (seen.Whole r framing expects)

-- a fault of the bytes, or their end inside a head
abbrev pub BadHeadAnswer : Type 0 → List ℕ → HttpFault → Type 0
BadHeadAnswer over bytes Cut = First bytes Beginning × HoldsNone bytes × over
BadHeadAnswer over bytes f = First bytes (Fault f) × HoldsNone bytes

-- over: the source has ended; faulted: its count rose
abbrev pub HeadAnswer : Type 0 → Type 0 → List ℕ → List HeaderSpan → Result (Option Framed) WireStop → Type 0
HeadAnswer over faulted bytes spans (Ok (Some f)) = SeesWhole bytes spans f.head f.framing f.expects
HeadAnswer over faulted bytes spans (Ok None) = (bytes ≡ []) × over
HeadAnswer over faulted bytes spans (Err (Bad f)) = BadHeadAnswer over bytes f
HeadAnswer over faulted bytes spans (Err ReadFault) = ((bytes ≡ []) ⊎ First bytes Beginning) × HoldsNone bytes × faulted
HeadAnswer over faulted bytes spans (Err Memory) = ⊤

-- the bytes that the source gave, and the answer by them
pub record ReadsHead (before after : List ℕ) (spans : List HeaderSpan) (old new : SourceTold) (result : Result (Option Framed) WireStop) : Type 0 where
  pub got : List ℕ
  pub gave : Gave old new got
  pub after_is : after ≡ before ++ got
  pub answer : HeadAnswer (new.ended ≡ true) (Rose old.faults new.faults) after spans result
