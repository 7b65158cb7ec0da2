-- What the readers of bodies answer, by the bytes that they had and got. Over: the source has ended. Faulted: its count rose.
use Rattle.std.specs.Prelude.{◌≡◌, ℕ, ◌+◌, ◌<◌, ◌≤◌, true, false, List, ◌++◌, length, take, drop, ◌-◌, Result, Ok, Err, Option, Some, None, ⊤}
use Rattle.outside.specs.Outside.{SourceTold, Gave, Rose}
use Rattle.http_grammar.specs.Limits.{body_limit, chunked_limit}
use Rattle.http_grammar.specs.Chunks.{BodyFront, unfinished, ends, broken, Body, Chunk, IsChunk, print_chunk, Tail, limited, begins_line_end, may_begin_line_end}
use Rattle.http_grammar.specs.declared.fault.HttpFault.TheVariants.{BadHead, LongHead, LongBody, BadLength, Coding, Cut}
use Rattle.http_grammar.specs.declared.framing.Framing.{Framing}
use Rattle.http_wire.specs.declared.fault.WireStop.{WireStop}
use Rattle.http_wire.specs.declared.fault.WireStop.TheVariants.{Bad, ReadFault, Memory}

-- exactly so many bytes of the source join the body
abbrev pub ReadAnswer : Type 0 → Type 0 → List ℕ → List ℕ → List ℕ → ℕ → Result (Unit {0}) WireStop → Type 0
ReadAnswer over faulted got body body' count (Ok _) = (length got ≡ count) × (body' ≡ body ++ got)
ReadAnswer over faulted got body body' count (Err (Bad Cut)) = (length got < count) × over
ReadAnswer over faulted got body body' count (Err (Bad f)) = ⊥
ReadAnswer over faulted got body body' count (Err ReadFault) = (length got < count) × faulted
ReadAnswer over faulted got body body' count (Err Memory) = ⊤

pub record ReadsExactly (body body' : List ℕ) (count : ℕ) (old new : SourceTold) (result : Result (Unit {0}) WireStop) : Type 0 where
  pub got : List ℕ
  pub gave : Gave old new got
  pub answer : ReadAnswer (new.ended ≡ true) (Rose old.faults new.faults) got body body' count result

-- the first bytes, so many, join the body
abbrev pub FillAnswer : Type 0 → Type 0 → List ℕ → List ℕ → List ℕ → List ℕ → ℕ → Result (Unit {0}) WireStop → Type 0
FillAnswer over faulted bytes after body body' count (Ok _) = (count ≤ length bytes) × (after ≡ drop count bytes) × (body' ≡ body ++ take count bytes)
FillAnswer over faulted bytes after body body' count (Err (Bad Cut)) = (length bytes < count) × over
FillAnswer over faulted bytes after body body' count (Err (Bad f)) = ⊥
FillAnswer over faulted bytes after body body' count (Err ReadFault) = (length bytes < count) × faulted
FillAnswer over faulted bytes after body body' count (Err Memory) = ⊤

pub record Fills (before after body body' : List ℕ) (count : ℕ) (old new : SourceTold) (result : Result (Unit {0}) WireStop) : Type 0 where
  pub got : List ℕ
  pub gave : Gave old new got
  pub answer : FillAnswer (new.ended ≡ true) (Rose old.faults new.faults) (before ++ got) after body body' count result

-- the data of a chunk, and the line end behind it
abbrev pub DataAnswer : Type 0 → Type 0 → List ℕ → List ℕ → List ℕ → List ℕ → ℕ → Result (Unit {0}) WireStop → Type 0
DataAnswer over faulted text after body body' size (Ok _) =
    (size ≤ length text) × (begins_line_end (drop size text) ≡ true) × (after ≡ drop 2 (drop size text)) × (body' ≡ body ++ take size text)
DataAnswer over faulted text after body body' size (Err (Bad Cut)) = (begins_line_end (drop size text) ≡ false) × (may_begin_line_end (drop size text) ≡ true) × over
DataAnswer over faulted text after body body' size (Err (Bad BadLength)) = (begins_line_end (drop size text) ≡ false) × (may_begin_line_end (drop size text) ≡ false)
DataAnswer over faulted text after body body' size (Err (Bad BadHead)) = ⊥
DataAnswer over faulted text after body body' size (Err (Bad LongHead)) = ⊥
DataAnswer over faulted text after body body' size (Err (Bad LongBody)) = ⊥
DataAnswer over faulted text after body body' size (Err (Bad Coding)) = ⊥
DataAnswer over faulted text after body body' size (Err ReadFault) = (begins_line_end (drop size text) ≡ false) × (may_begin_line_end (drop size text) ≡ true) × faulted
DataAnswer over faulted text after body body' size (Err Memory) = ⊤

pub record ReadsData (before after body body' : List ℕ) (size : ℕ) (old new : SourceTold) (result : Result (Unit {0}) WireStop) : Type 0 where
  pub got : List ℕ
  pub gave : Gave old new got
  pub answer : DataAnswer (new.ended ≡ true) (Rose old.faults new.faults) (before ++ got) after body body' size result

-- behind whole chunks with this data, which take so many bytes, the text makes the body so
pub record TurnEnds (body : List ℕ) (form : ℕ) (text : List ℕ) (front : BodyFront) : Type 0 where
  pub inner : BodyFront
  pub tail : Tail body form (take (chunked_limit - form) text) inner
  pub front_is : limited (form + length text) inner ≡ front

-- one whole chunk stands at the front of the text, and keeps within the limits
pub record TakesChunk (body body' : List ℕ) (form form' : ℕ) (text after : List ℕ) : Type 0 where
  pub chunk : Chunk
  pub is_chunk : IsChunk chunk
  pub text_is : text ≡ print_chunk chunk ++ after
  pub body_is : body' ≡ body ++ chunk.bytes
  pub form_is : form' ≡ form + length (print_chunk chunk)
  pub short : length body' ≤ body_limit
  pub within : form' ≤ chunked_limit

-- one chunk more, or the end of the body
abbrev pub TurnAnswer : Type 0 → Type 0 → List ℕ → List ℕ → ℕ → List ℕ → List ℕ → Result (Option ℕ) WireStop → Type 0
TurnAnswer over faulted body body' form text after (Ok (Some form')) = TakesChunk body body' form form' text after
TurnAnswer over faulted body body' form text after (Ok None) = (n : ℕ) × TurnEnds body form text (ends body (form + n)) × (after ≡ drop n text) × (body' ≡ body)
TurnAnswer over faulted body body' form text after (Err (Bad Cut)) = TurnEnds body form text unfinished × over
TurnAnswer over faulted body body' form text after (Err (Bad f)) = TurnEnds body form text (broken f)
TurnAnswer over faulted body body' form text after (Err ReadFault) = TurnEnds body form text unfinished × faulted
TurnAnswer over faulted body body' form text after (Err Memory) = ⊤

pub record ReadsChunk (before after body body' : List ℕ) (form : ℕ) (old new : SourceTold) (result : Result (Option ℕ) WireStop) : Type 0 where
  pub got : List ℕ
  pub gave : Gave old new got
  pub answer : TurnAnswer (new.ended ≡ true) (Rose old.faults new.faults) body body' form (before ++ got) after result

-- a whole body, or why there is none
abbrev pub BodyAnswer : Type 0 → Type 0 → Framing → List ℕ → List ℕ → List ℕ → Result (Unit {0}) WireStop → Type 0
BodyAnswer over faulted framing text after body (Ok _) = (n : ℕ) × Body framing text (ends body n) × (after ≡ drop n text)
BodyAnswer over faulted framing text after body (Err (Bad Cut)) = Body framing text unfinished × over
BodyAnswer over faulted framing text after body (Err (Bad f)) = Body framing text (broken f)
BodyAnswer over faulted framing text after body (Err ReadFault) = Body framing text unfinished × faulted
BodyAnswer over faulted framing text after body (Err Memory) = ⊤

pub record ReadsBody (framing : Framing) (before after body : List ℕ) (old new : SourceTold) (result : Result (Unit {0}) WireStop) : Type 0 where
  pub got : List ℕ
  pub gave : Gave old new got
  pub answer : BodyAnswer (new.ended ≡ true) (Rose old.faults new.faults) framing (before ++ got) after body result
