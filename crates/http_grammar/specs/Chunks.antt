-- The bytes behind a head: a body of a stated length, or the chunked form of one (RFC 9112, section 7.1).
use Rattle.std.specs.Prelude.{◌≡◌, ℕ, ◌+◌, ◌<◌, ◌≤◌, Bool, true, false, ◌&&◌, ◌==◌, List, [], ◌∷◌, ◌++◌, length, take, drop, All, if◌then◌else◌, nat_le}
use Rattle.std.specs.List.{flat_map}
use Rattle.httparse.specs.Grammar.{crlf, print_end, ChunkLine, IsChunkLine, chunk_size, print_chunk_line, ReadsChunkLine, HasNoChunkLine, NeverHasChunkLine, MayBecomeChunkLine, Field, LineEnd, print_section, ReadsSection, HasNoSection, NeverHasSection, MayBecomeSection}
use Rattle.http_grammar.specs.Limits.{body_limit, chunked_limit, trailer_limit}
use Rattle.http_grammar.specs.declared.fault.HttpFault.{HttpFault}
use Rattle.http_grammar.specs.declared.fault.HttpFault.TheVariants.{LongBody, BadLength}
use Rattle.http_grammar.specs.declared.framing.Framing.{Framing}
use Rattle.http_grammar.specs.declared.framing.Framing.TheVariants.{Sized, Chunked}

-- what the bytes behind a head are: a proper beginning of a body, a body with the length of its form, or none and never one
pub data BodyFront : Type 0 where
  unfinished : BodyFront
  ends : List ℕ → ℕ → BodyFront
  broken : HttpFault → BodyFront

-- the first n bytes are a body of this length
abbrev pub sized_body : ℕ → List ℕ → BodyFront
sized_body n text = if nat_le n (length text) then ends (take n text) n else unfinished

-- chunk = chunk-line data CRLF
pub record Chunk : Type 0 where
  pub line : ChunkLine
  pub bytes : List ℕ

-- the bytes of a chunk
abbrev pub print_chunk : Chunk → List ℕ
print_chunk c = print_chunk_line c.line ++ (c.bytes ++ print_end crlf)

-- its line announces its data, and there is some
pub record IsChunk (c : Chunk) : Type 0 where
  pub line_is : IsChunkLine c.line
  pub some : 0 < chunk_size c.line
  pub size : length c.bytes ≡ chunk_size c.line

-- the bytes of chunks, one after another
abbrev pub print_chunks : List Chunk → List ℕ
print_chunks chunks = flat_map print_chunk chunks

-- the data of chunks, one after another
abbrev pub chunk_data : List Chunk → List ℕ
chunk_data chunks = flat_map (λ c. c.bytes) chunks

-- how many bytes the chunk has that a line announces
abbrev pub chunk_length : ChunkLine → ℕ
chunk_length line = length (print_chunk_line line) + chunk_size line + 2

-- after so much data, in so many bytes, the chunk that a line announces keeps within both limits
unfoldable pub chunk_fits : ℕ → ℕ → ChunkLine → Bool
chunk_fits held form line = nat_le (held + chunk_size line) body_limit && nat_le (form + chunk_length line) chunked_limit

-- CRLF stands at the front
abbrev pub begins_line_end : List ℕ → Bool
begins_line_end [] = false
begins_line_end (b ∷ []) = false
begins_line_end (b ∷ c ∷ bytes) = b == 13 && c == 10

-- more bytes can follow that put CRLF at the front
abbrev pub may_begin_line_end : List ℕ → Bool
may_begin_line_end [] = true
may_begin_line_end (b ∷ []) = b == 13
may_begin_line_end (b ∷ c ∷ bytes) = b == 13 && c == 10

-- a chunk that isn't there whole, by whether it fits and by the bytes behind its data
abbrev pub part_of_chunk : Bool → List ℕ → BodyFront
part_of_chunk false behind = broken LongBody
part_of_chunk true behind = if may_begin_line_end behind then unfinished else broken BadLength

-- what the trailers are: a proper beginning of them, no trailers and never any, or trailers of so many bytes
pub data TrailerFront : Type 0 where
  coming : TrailerFront
  never : TrailerFront
  trailers : ℕ → TrailerFront

-- what trailers stand at the front; they are judged within their limit
pub data Trailers (text : List ℕ) (front : TrailerFront) : Type 0 where
  still_open : length text < trailer_limit → HasNoSection text → MayBecomeSection text → front ≡ coming → Trailers text front
  too_long : trailer_limit ≤ length text → HasNoSection (take trailer_limit text) → front ≡ never → Trailers text front
  hopeless : NeverHasSection (take trailer_limit text) → front ≡ never → Trailers text front
  whole : (fields : List Field) (last : LineEnd) (rest : List ℕ) → ReadsSection (take trailer_limit text) fields last rest
      → front ≡ trailers (length (print_section fields last)) → Trailers text front

-- a body whose last chunk's line ends after so many bytes, with the trailers behind it
abbrev pub with_trailers : List ℕ → ℕ → TrailerFront → BodyFront
with_trailers body form coming = unfinished
with_trailers body form never = broken BadLength
with_trailers body form (trailers n) = ends body (form + n)

-- what a chunk's line and the bytes behind it are, where that is no whole chunk: a part of one, or the last chunk with the trailers
pub data BehindLine (body : List ℕ) (form : ℕ) (line : ChunkLine) (rest : List ℕ) (front : BodyFront) : Type 0 where
  part : 0 < chunk_size line → (chunk_fits (length body) form line && begins_line_end (drop (chunk_size line) rest)) ≡ false
      → front ≡ part_of_chunk (chunk_fits (length body) form line) (drop (chunk_size line) rest) → BehindLine body form line rest front
  last_chunk : chunk_size line ≡ 0 → (section : TrailerFront) → Trailers rest section
      → front ≡ with_trailers body (form + length (print_chunk_line line)) section → BehindLine body form line rest front

-- what stands behind whole chunks with this data, which take so many bytes
pub data Tail (body : List ℕ) (form : ℕ) (tail : List ℕ) (front : BodyFront) : Type 0 where
  line_open : HasNoChunkLine tail → MayBecomeChunkLine tail → front ≡ unfinished → Tail body form tail front
  line_bad : NeverHasChunkLine tail → front ≡ broken BadLength → Tail body form tail front
  line_whole : (line : ChunkLine) (rest : List ℕ) → ReadsChunkLine tail line rest → BehindLine body form line rest front → Tail body form tail front

-- whole chunks that keep within the limits, and what stands behind them
pub record Chunks (text : List ℕ) (front : BodyFront) : Type 0 where
  pub chunks : List Chunk
  pub tail : List ℕ
  pub text_is : text ≡ print_chunks chunks ++ tail
  pub are_chunks : All IsChunk chunks
  pub short : length (chunk_data chunks) ≤ body_limit
  pub behind : Tail (chunk_data chunks) (length (print_chunks chunks)) tail front

-- of a text with this length: what isn't finished within the limit never is
abbrev pub limited : ℕ → BodyFront → BodyFront
limited n unfinished = if nat_le chunked_limit n then broken LongBody else unfinished
limited n (ends body form) = ends body form
limited n (broken fault) = broken fault

-- the chunked form of a body, within the bytes that it may have
abbrev pub ChunkedBody : List ℕ → BodyFront → Type 0
ChunkedBody text front = (inner : BodyFront) × Chunks (take chunked_limit text) inner × (front ≡ limited (length text) inner)

-- the body with this framing
abbrev pub Body : Framing → List ℕ → BodyFront → Type 0
Body (Sized n) text front = front ≡ sized_body n text
Body Chunked text front = ChunkedBody text front
