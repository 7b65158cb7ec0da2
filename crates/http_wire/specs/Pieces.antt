-- What a look at the bytes says of a piece of the chunked form, and what its reader answers.
use Rattle.std.specs.Prelude.{◌≡◌, ℕ, ◌<◌, ◌≤◌, true, false, List, ◌++◌, length, take, drop, Result, Ok, Err, ⊤}
use Rattle.httparse.specs.Grammar.{ChunkLine, chunk_size, print_chunk_line, ReadsChunkLine, HasNoChunkLine, NeverHasChunkLine, MayBecomeChunkLine}
use Rattle.outside.specs.Outside.{SourceTold, Gave, Rose}
use Rattle.http_grammar.specs.Chunks.{begins_line_end, may_begin_line_end, Trailers, coming, never, trailers}
use Rattle.http_grammar.specs.declared.fault.HttpFault.TheVariants.{BadHead, LongHead, LongBody, BadLength, Coding, Cut}
use Rattle.http_wire.specs.declared.fault.WireStop.{WireStop}
use Rattle.http_wire.specs.declared.fault.WireStop.TheVariants.{Bad, ReadFault, Memory}
use Rattle.http_wire.specs.declared.piece.Piece.{Piece}
use Rattle.http_wire.specs.declared.piece.Piece.TheVariants as piece
use Rattle.http_wire.specs.declared.piece.PieceEnd.{PieceEnd}
use Rattle.http_wire.specs.declared.piece.PieceSeen.{PieceSeen}
use Rattle.http_wire.specs.declared.piece.PieceSeen.TheVariants as seen

-- more bytes can follow that make the piece whole
abbrev pub IsOpenPiece : Piece → List ℕ → Type 0
IsOpenPiece piece.Line text = HasNoChunkLine text × MayBecomeChunkLine text
IsOpenPiece piece.Trailers text = Trailers text coming
IsOpenPiece piece.End text = (begins_line_end text ≡ false) × (may_begin_line_end text ≡ true)

-- none can
abbrev pub IsBadPiece : Piece → List ℕ → Type 0
IsBadPiece piece.Line text = NeverHasChunkLine text
IsBadPiece piece.Trailers text = Trailers text never
IsBadPiece piece.End text = (begins_line_end text ≡ false) × (may_begin_line_end text ≡ false)

-- the line of a chunk has so many bytes, and announces so much data
pub record IsLineAt (text : List ℕ) (e : PieceEnd) : Type 0 where
  pub line : ChunkLine
  pub reads : ReadsChunkLine text line (drop e.len text)
  pub len : e.len ≡ length (print_chunk_line line)
  pub size : e.size ≡ chunk_size line

-- the piece is whole, and has so many bytes
abbrev pub IsWholePiece : Piece → List ℕ → PieceEnd → Type 0
IsWholePiece piece.Line text e = IsLineAt text e
IsWholePiece piece.Trailers text e = Trailers text (trailers e.len) × (e.len ≤ length text)
IsWholePiece piece.End text e = (begins_line_end text ≡ true) × (e.len ≡ 2)

-- what the bytes that the piece may have say
abbrev pub SeesInner : Piece → List ℕ → PieceSeen → Type 0
SeesInner p text seen.Open = IsOpenPiece p text
SeesInner p text seen.Full = ⊥
SeesInner p text seen.Bad = IsBadPiece p text
SeesInner p text (seen.Whole e) = IsWholePiece p text e

-- the same of all the bytes: what is open at the limit is full
abbrev pub SeesPiece : Piece → ℕ → List ℕ → PieceSeen → Type 0
SeesPiece p budget text seen.Open = IsOpenPiece p (take budget text) × (length text < budget)
SeesPiece p budget text seen.Full = IsOpenPiece p (take budget text) × (budget ≤ length text)
SeesPiece p budget text seen.Bad = IsBadPiece p (take budget text)
SeesPiece p budget text (seen.Whole e) = IsWholePiece p (take budget text) e

-- a look that may be put off below the limit
abbrev pub LooksPiece : Piece → ℕ → List ℕ → PieceSeen → Type 0
LooksPiece p budget text seen.Open = length text < budget
LooksPiece p budget text seen.Full = SeesPiece p budget text seen.Full
LooksPiece p budget text seen.Bad = SeesPiece p budget text seen.Bad
LooksPiece p budget text (seen.Whole e) = SeesPiece p budget text (seen.Whole e)

-- over: the source has ended; faulted: its count rose
abbrev pub PieceAnswer : Type 0 → Type 0 → Piece → ℕ → List ℕ → List ℕ → Result PieceEnd WireStop → Type 0
PieceAnswer over faulted p budget text after (Ok e) = IsWholePiece p (take budget text) e × (after ≡ drop e.len text)
PieceAnswer over faulted p budget text after (Err (Bad Cut)) = SeesPiece p budget text seen.Open × over
PieceAnswer over faulted p budget text after (Err (Bad LongBody)) = SeesPiece p budget text seen.Full
PieceAnswer over faulted p budget text after (Err (Bad BadLength)) = IsBadPiece p (take budget text)
PieceAnswer over faulted p budget text after (Err (Bad BadHead)) = ⊥
PieceAnswer over faulted p budget text after (Err (Bad LongHead)) = ⊥
PieceAnswer over faulted p budget text after (Err (Bad Coding)) = ⊥
PieceAnswer over faulted p budget text after (Err ReadFault) = SeesPiece p budget text seen.Open × faulted
PieceAnswer over faulted p budget text after (Err Memory) = ⊤

-- the bytes that the source gave, and the answer by them
pub record ReadsPiece (before after : List ℕ) (p : Piece) (budget : ℕ) (old new : SourceTold) (result : Result PieceEnd WireStop) : Type 0 where
  pub got : List ℕ
  pub gave : Gave old new got
  pub answer : PieceAnswer (new.ended ≡ true) (Rose old.faults new.faults) p budget (before ++ got) after result
