-- What the source, the sink and the link in memory tell, and which of their calls fail.
use Rattle.std.specs.Prelude.{◌≡◌, ℕ, ◌+◌, ◌-◌, ◌^◌, ◌==◌, min, Bool, List, [], Some, if◌then◌else◌}
use Rattle.std.specs.List.{list_any}
use Rattle.outside.specs.Outside.{SourceTold, SinkTold}

-- a source in memory: the bytes that it has left and has given, whether it has ended, its count of faults,
-- the numbers of the reads that are to fail, and how many reads there were
pub record MemSourceTold : Type 0 where
  pub left : List ℕ
  pub given : List ℕ
  pub ended : Bool
  pub faults : ℕ
  pub failing : List ℕ
  pub calls : ℕ

-- a source in memory of which a read gives so many bytes at most
pub record DripTold : Type 0 where
  pub source : MemSourceTold
  pub most : ℕ

-- a sink in memory: the bytes that it holds, how many it has room for before it must grow, its count of faults,
-- the numbers of the writes that are to fail, and how many writes there were
pub record MemSinkTold : Type 0 where
  pub held : List ℕ
  pub room : ℕ
  pub faults : ℕ
  pub failing : List ℕ
  pub calls : ℕ

-- a link in memory: its two sides
pub record MemLinkTold : Type 0 where
  pub source : MemSourceTold
  pub sink : MemSinkTold

-- whether the list names the call with this number
abbrev pub is_listed : List ℕ → ℕ → Bool
is_listed failing call = list_any (λ n. n == call) failing

-- a count after one more, which stands at the last value of its type
abbrev pub counted : ℕ → ℕ
counted n = min (n + 1) (2 ^ 64 - 1)

-- what a source in memory tells as a source
abbrev pub source_told : MemSourceTold → SourceTold
source_told s = record { left = Some (if s.ended then [] else s.left); given = Some s.given; ended = s.ended; faults = s.faults }

-- what a sink in memory tells as a sink
abbrev pub sink_told : MemSinkTold → SinkTold
sink_told s = record { held = Some s.held; faults = s.faults }

-- an empty sink with no write yet
pub record IsNewSink (failing : List ℕ) (sink : MemSinkTold) : Type 0 where
  pub held : sink.held ≡ []
  pub faults : sink.faults ≡ 0
  pub listed : sink.failing ≡ failing
  pub calls : sink.calls ≡ 0
