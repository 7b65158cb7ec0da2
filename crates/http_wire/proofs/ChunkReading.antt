-- Chunks read one after another.
use Rattle.std.proofs.Common.{◌≡◌, ◌++◌, ◌∙◌, ◌≤◌, ◌<◌, ◌+◌, ◌-◌, ℕ, List, [], ◌∷◌, length, take, drop, true, false, Bool, Ok, Err, Some, None, refl, sym, suc, ap, subst, append_assoc, append-nil, length-append, length-drop, arith, All, inl, inr, ◌⊎◌}
use Rattle.std.specs.Prelude.{◌&&◌, ◌==◌, nat_le, if◌then◌else◌}
use Rattle.std.proofs.lemmas.Bool.{false≢true, le-leb, cond-true, cond-false, leb-true, eqb-true, cases_lt}
use Rattle.std.proofs.lemmas.Bool.Decides.{nat_tests}
use Rattle.std.proofs.lemmas.List.{length-take, take-append-drop, drop-drop, drop-take}
use Rattle.std.proofs.lemmas.Grind.{flat_map-append}
use Rattle.std.proofs.lemmas.List.Elements.{All-append, All-cons, All-nil}
use Rattle.std.proofs.Math.Seq.{take-append-add, drop-append_seam}
use Rattle.outside.specs.Outside.{SourceTold, Gave}
use Rattle.outside.proofs.Known.{Gave-then}
use Rattle.httparse.specs.Grammar.{crlf, print_end, ChunkLine, chunk_size, print_chunk_line, ReadsChunkLine}
use Rattle.http_grammar.specs.Limits.{body_limit, chunked_limit}
use Rattle.http_grammar.specs.Chunks.{BodyFront, unfinished, ends, broken, Chunk, IsChunk, print_chunk, print_chunks, chunk_data, chunk_length, chunk_fits, begins_line_end, may_begin_line_end, part_of_chunk, TrailerFront, Trailers, coming, never, trailers, with_trailers, part, last_chunk, Tail, line_open, line_bad, line_whole, limited, ChunkedBody}
use Rattle.http_grammar.specs.declared.fault.HttpFault.TheVariants.{BadHead, LongHead, LongBody, BadLength, Coding, Cut}
use Rattle.http_grammar.specs.declared.framing.Framing.TheVariants.{Chunked}
use Rattle.http_wire.specs.Bodies.{ReadsData, TurnEnds, TakesChunk, ReadsChunk, ReadsBody}
use Rattle.http_wire.specs.Pieces.{IsLineAt, ReadsPiece}
use Rattle.http_wire.specs.declared.fault.WireStop.{WireStop}
use Rattle.http_wire.specs.declared.fault.WireStop.TheVariants.{Bad, ReadFault, Memory}
use Rattle.http_wire.specs.declared.piece.Piece.TheVariants as piece
use Rattle.http_wire.specs.declared.piece.PieceEnd.{PieceEnd}

-- the chunks that were read, in what was there and what came; now is what the window holds
pub record InChunks (before now body : List ℕ) (form : ℕ) (old mid : SourceTold) : Type 0 where
  pub got : List ℕ
  pub gave : Gave old mid got
  pub chunks : List Chunk
  pub are_chunks : All IsChunk chunks
  pub text_is : before ++ got ≡ print_chunks chunks ++ now
  pub body_is : body ≡ chunk_data chunks
  pub form_is : form ≡ length (print_chunks chunks)

pub chunked_limit_is : chunked_limit ≡ 134217728
unfolding chunked_limit
chunked_limit_is = refl

-- ---- the line end behind the data

two_more : (m : ℕ) → 2 ≤ m → m ≡ suc (suc (m - 2))
two_more m le = omega arith

begins_take_two : (k : ℕ) (t : List ℕ) → begins_line_end (take (suc (suc k)) t) ≡ begins_line_end t
begins_take_two k [] = refl
begins_take_two k (b ∷ []) = refl
begins_take_two k (b ∷ c ∷ t) = refl

may_take_two : (k : ℕ) (t : List ℕ) → may_begin_line_end (take (suc (suc k)) t) ≡ may_begin_line_end t
may_take_two k [] = refl
may_take_two k (b ∷ []) = refl
may_take_two k (b ∷ c ∷ t) = refl

begins_take : (m : ℕ) (t : List ℕ) → 2 ≤ m → begins_line_end (take m t) ≡ begins_line_end t
begins_take m t le = ap (λ (k : ℕ). begins_line_end (take k t)) (two_more m le) ∙ begins_take_two (m - 2) t

may_take : (m : ℕ) (t : List ℕ) → 2 ≤ m → may_begin_line_end (take m t) ≡ may_begin_line_end t
may_take m t le = ap (λ (k : ℕ). may_begin_line_end (take k t)) (two_more m le) ∙ may_take_two (m - 2) t

short_end : (b : List ℕ) → begins_line_end b ≡ false → may_begin_line_end b ≡ true → length b ≤ 1
short_end [] e f = omega arith
short_end (x ∷ []) e f = omega arith
short_end (x ∷ y ∷ b) e f = absurd (false≢true (sym e ∙ f))

both_are : (a b : Bool) → (a && b) ≡ true → (a ≡ true) × (b ≡ true)
both_are true b e = (refl, e)
both_are false b e = absurd (false≢true e)

begins_is : (b : List ℕ) → begins_line_end b ≡ true → b ≡ print_end crlf ++ drop 2 b
begins_is [] e = absurd (false≢true e)
begins_is (x ∷ []) e = absurd (false≢true e)
begins_is (x ∷ y ∷ b) e =
    let both = both_are (x == 13) (y == 10) e in
    λ i. eqb-true x 13 both.0 i ∷ eqb-true y 10 both.1 i ∷ b

-- ---- limits

limited_short : (n : ℕ) → n < chunked_limit → limited n unfinished ≡ unfinished
limited_short n less = cond-false _ _ _ (short n chunked_limit less)
  where
    short : (m k : ℕ) → m < k → nat_le k m ≡ false
    short m k less = grind (arith, nat_tests)

limited_long : (n : ℕ) → chunked_limit ≤ n → limited n unfinished ≡ broken LongBody
limited_long n more = cond-true _ _ _ (le-leb _ _ more)

pub fits_is : (held form : ℕ) (line : ChunkLine) (len size : ℕ) → len ≡ length (print_chunk_line line) → size ≡ chunk_size line
    → (nat_le (held + size) body_limit && nat_le (form + (len + size + 2)) 134217728) ≡ chunk_fits held form line
unfolding chunk_fits body_limit chunked_limit
fits_is held form line len size e f = rw (e, f) refl

fits_facts : (held form : ℕ) (line : ChunkLine) → chunk_fits held form line ≡ true → (held + chunk_size line ≤ body_limit) × (form + chunk_length line ≤ chunked_limit)
unfolding chunk_fits
fits_facts held form line e =
    let both = both_are (nat_le (held + chunk_size line) body_limit) (nat_le (form + chunk_length line) chunked_limit) e in
    (leb-true _ _ both.0, leb-true _ _ both.1)

-- ---- behind a whole line

-- the text begins with this line of n bytes, and text2 is behind it
pub record Line (budget : ℕ) (text text2 : List ℕ) (line : ChunkLine) (n : ℕ) : Type 0 where
  pub reads : ReadsChunkLine (take budget text) line (take (budget - n) text2)
  pub whole : text ≡ print_chunk_line line ++ text2
  pub len : n ≡ length (print_chunk_line line)
  pub inside : n ≤ budget

pub line_of : (budget : ℕ) (text more : List ℕ) (e : PieceEnd) (w : IsLineAt (take budget text) e)
    → Line budget (text ++ more) (drop e.len text ++ more) w.line e.len
line_of budget text more e w =
    let P : List ℕ = print_chunk_line w.line in
    let R : List ℕ = drop e.len (take budget text) in
    let all : text ≡ P ++ (R ++ drop budget text) = sym (take-append-drop budget text) ∙ ap (λ (t : List ℕ). t ++ drop budget text) w.reads.1 ∙ append_assoc P R (drop budget text) in
    let rest : drop e.len text ≡ R ++ drop budget text =
    ap (drop e.len) all ∙ ap (λ (k : ℕ). drop k (P ++ (R ++ drop budget text))) w.len ∙ drop-append_seam P (R ++ drop budget text) in
    let own : text ≡ P ++ drop e.len text = all ∙ ap (λ (t : List ℕ). P ++ t) (sym rest) in
    let whole : text ++ more ≡ P ++ (drop e.len text ++ more) = ap (λ (t : List ℕ). t ++ more) own ∙ append_assoc P (drop e.len text) more in
    let inside : e.len ≤ budget = omega (arith, w.len, ap length w.reads.1, length-append P R, length-take budget text) in
    let n : length P + (budget - e.len) ≡ budget = omega (arith, w.len) in
    record {
      reads = (w.reads.0, ap (take budget) whole ∙ sym (ap (λ (k : ℕ). take k (P ++ (drop e.len text ++ more))) n) ∙ take-append-add P (drop e.len text ++ more) (budget - e.len));
      whole = whole;
      len = w.len;
      inside = inside;
    }

line_length : (budget : ℕ) (text text2 : List ℕ) (line : ChunkLine) (n : ℕ) → Line budget text text2 line n → length text ≡ n + length text2
line_length budget text text2 line n l = ap length l.whole ∙ length-append (print_chunk_line line) text2 ∙ omega (arith, l.len)

-- the end of a turn, where the limit of the form is so far away
turn : (body : List ℕ) (form budget : ℕ) (text : List ℕ) (inner front : BodyFront) → form + budget ≡ chunked_limit → Tail body form (take budget text) inner
    → limited (form + length text) inner ≡ front → TurnEnds body form text front
turn body form budget text inner front b t e =
    let same : budget ≡ chunked_limit - form = omega arith in
    record { inner = inner; tail = subst (λ (k : ℕ). Tail body form (take k text) inner) same t; front_is = e }

-- the chunk that the line announces doesn't fit
pub no_room : (body : List ℕ) (form budget : ℕ) (text text2 : List ℕ) (line : ChunkLine) (n : ℕ) → form + budget ≡ chunked_limit → Line budget text text2 line n
    → 0 < chunk_size line → chunk_fits (length body) form line ≡ false → TurnEnds body form text (broken LongBody)
no_room body form budget text text2 line n b l some f =
    let behind : List ℕ = drop (chunk_size line) (take (budget - n) text2) in
    turn body form budget text (broken LongBody) (broken LongBody) b
    (line_whole line (take (budget - n) text2) l.reads
    (part some (ap (λ (t : Bool). t && begins_line_end behind) f) (sym (ap (λ (t : Bool). part_of_chunk t behind) f)))) refl

-- what follows the data, within the bytes of the form
behind_is : (budget n size : ℕ) (text2 : List ℕ) → n + size + 2 ≤ budget → drop size (take (budget - n) text2) ≡ take (budget - n - size) (drop size text2)
behind_is budget n size text2 fits =
    let e : size + (budget - n - size) ≡ budget - n = omega arith in
    sym (ap (λ (k : ℕ). drop size (take k text2)) e) ∙ drop-take size (budget - n - size) text2

-- the chunk isn't there whole
part_there : (body : List ℕ) (form budget : ℕ) (text text2 : List ℕ) (line : ChunkLine) (n : ℕ) → form + budget ≡ chunked_limit → Line budget text text2 line n
    → 0 < chunk_size line → chunk_fits (length body) form line ≡ true → begins_line_end (drop (chunk_size line) text2) ≡ false
    → Tail body form (take budget text) (if may_begin_line_end (drop (chunk_size line) text2) then unfinished else broken BadLength)
part_there body form budget text text2 line n b l some f none =
    let facts = fits_facts (length body) form line f in
    let room : n + chunk_size line + 2 ≤ budget = omega (arith, facts.1, l.len) in
    let same : drop (chunk_size line) (take (budget - n) text2) ≡ take (budget - n - chunk_size line) (drop (chunk_size line) text2) = behind_is budget n (chunk_size line) text2 room in
    let wide : 2 ≤ budget - n - chunk_size line = omega arith in
    let behind : List ℕ = drop (chunk_size line) (take (budget - n) text2) in
    let no' : begins_line_end behind ≡ false = ap begins_line_end same ∙ begins_take (budget - n - chunk_size line) (drop (chunk_size line) text2) wide ∙ none in
    let may : may_begin_line_end behind ≡ may_begin_line_end (drop (chunk_size line) text2) = ap may_begin_line_end same ∙ may_take (budget - n - chunk_size line) (drop (chunk_size line) text2) wide in
    line_whole line (take (budget - n) text2) l.reads
    (part some
    (ap (λ (t : Bool). t && begins_line_end behind) f ∙ no')
    (sym (ap (λ (t : Bool). part_of_chunk t behind) f ∙ ap (λ (t : Bool). if t then unfinished else broken BadLength) may)))

pub data_open : (body : List ℕ) (form budget : ℕ) (text text2 : List ℕ) (line : ChunkLine) (n : ℕ) → form + budget ≡ chunked_limit → Line budget text text2 line n
    → 0 < chunk_size line → chunk_fits (length body) form line ≡ true → begins_line_end (drop (chunk_size line) text2) ≡ false
    → may_begin_line_end (drop (chunk_size line) text2) ≡ true → TurnEnds body form text unfinished
data_open body form budget text text2 line n b l some f none may =
    let facts = fits_facts (length body) form line f in
    let few : length (drop (chunk_size line) text2) ≤ 1 = short_end (drop (chunk_size line) text2) none may in
    let less : form + length text < chunked_limit = omega (arith, facts.1, l.len, line_length budget text text2 line n l, length-drop (chunk_size line) text2) in
    turn body form budget text unfinished unfinished b
    (subst (λ (t : Bool). Tail body form (take budget text) (if t then unfinished else broken BadLength)) may (part_there body form budget text text2 line n b l some f none))
    (limited_short (form + length text) less)

pub data_bad : (body : List ℕ) (form budget : ℕ) (text text2 : List ℕ) (line : ChunkLine) (n : ℕ) → form + budget ≡ chunked_limit → Line budget text text2 line n
    → 0 < chunk_size line → chunk_fits (length body) form line ≡ true → begins_line_end (drop (chunk_size line) text2) ≡ false
    → may_begin_line_end (drop (chunk_size line) text2) ≡ false → TurnEnds body form text (broken BadLength)
data_bad body form budget text text2 line n b l some f none may =
    turn body form budget text (broken BadLength) (broken BadLength) b
    (subst (λ (t : Bool). Tail body form (take budget text) (if t then unfinished else broken BadLength)) may (part_there body form budget text text2 line n b l some f none)) refl

pub chunk_taken : (body body' : List ℕ) (form budget : ℕ) (text text2 after : List ℕ) (line : ChunkLine) (n form' : ℕ) → form + budget ≡ chunked_limit
    → Line budget text text2 line n → 0 < chunk_size line → chunk_fits (length body) form line ≡ true
    → chunk_size line ≤ length text2 → begins_line_end (drop (chunk_size line) text2) ≡ true → after ≡ drop 2 (drop (chunk_size line) text2)
    → body' ≡ body ++ take (chunk_size line) text2 → form' ≡ form + (n + chunk_size line + 2) → TakesChunk body body' form form' text after
chunk_taken body body' form budget text text2 after line n form' b l some f enough found a e g =
    let facts = fits_facts (length body) form line f in
    let D : List ℕ = take (chunk_size line) text2 in
    let size : length D ≡ chunk_size line = length-take (chunk_size line) text2 ∙ omega arith in
    let P : List ℕ = print_chunk_line line in
    let behind : drop (chunk_size line) text2 ≡ print_end crlf ++ after = begins_is (drop (chunk_size line) text2) found ∙ ap (λ (t : List ℕ). print_end crlf ++ t) (sym a) in
    let all : text2 ≡ D ++ (print_end crlf ++ after) = sym (take-append-drop (chunk_size line) text2) ∙ ap (λ (t : List ℕ). D ++ t) behind in
    let form_is : form' ≡ form + length (P ++ (D ++ print_end crlf)) = g ∙ omega (arith, l.len, length-append P (D ++ print_end crlf), length-append D (print_end crlf)) in
    record {
      chunk = record { line = line; bytes = D };
      is_chunk = record { line_is = l.reads.0; some = some; size = size };
      text_is = l.whole ∙ ap (λ (t : List ℕ). P ++ t) all ∙ simp append_assoc;
      body_is = e;
      form_is = form_is;
      short = omega (arith, facts.0, ap length e, length-append body D);
      within = omega (arith, facts.1, g, l.len);
    }

-- ---- the last chunk and the trailers

with_last : (body : List ℕ) (form budget : ℕ) (text text2 : List ℕ) (line : ChunkLine) (n : ℕ) (s : TrailerFront) → Line budget text text2 line n
    → chunk_size line ≡ 0 → Trailers (take (budget - n) text2) s → Tail body form (take budget text) (with_trailers body (form + length (print_chunk_line line)) s)
with_last body form budget text text2 line n s l zero t = line_whole line (take (budget - n) text2) l.reads (last_chunk zero s t refl)

pub last_whole : (body : List ℕ) (form budget : ℕ) (text text2 : List ℕ) (line : ChunkLine) (n k : ℕ) → form + budget ≡ chunked_limit → Line budget text text2 line n
    → chunk_size line ≡ 0 → Trailers (take (budget - n) text2) (trailers k) → TurnEnds body form text (ends body (form + (n + k)))
last_whole body form budget text text2 line n k b l zero t =
    turn body form budget text _ (ends body (form + (n + k))) b (with_last body form budget text text2 line n (trailers k) l zero t)
    (ap (λ (m : ℕ). ends body m) (omega (arith, l.len)))

pub last_open : (body : List ℕ) (form budget : ℕ) (text text2 : List ℕ) (line : ChunkLine) (n : ℕ) → form + budget ≡ chunked_limit → Line budget text text2 line n
    → chunk_size line ≡ 0 → Trailers (take (budget - n) text2) coming → length text2 < budget - n → TurnEnds body form text unfinished
last_open body form budget text text2 line n b l zero t few =
    let less : form + length text < chunked_limit = omega (arith, line_length budget text text2 line n l) in
    turn body form budget text unfinished unfinished b (with_last body form budget text text2 line n coming l zero t) (limited_short (form + length text) less)

pub last_full : (body : List ℕ) (form budget : ℕ) (text text2 : List ℕ) (line : ChunkLine) (n : ℕ) → form + budget ≡ chunked_limit → Line budget text text2 line n
    → chunk_size line ≡ 0 → Trailers (take (budget - n) text2) coming → budget - n ≤ length text2 → TurnEnds body form text (broken LongBody)
last_full body form budget text text2 line n b l zero t long =
    let more : chunked_limit ≤ form + length text = omega (arith, line_length budget text text2 line n l, l.inside) in
    turn body form budget text unfinished (broken LongBody) b (with_last body form budget text text2 line n coming l zero t) (limited_long (form + length text) more)

pub last_bad : (body : List ℕ) (form budget : ℕ) (text text2 : List ℕ) (line : ChunkLine) (n : ℕ) → form + budget ≡ chunked_limit → Line budget text text2 line n
    → chunk_size line ≡ 0 → Trailers (take (budget - n) text2) never → TurnEnds body form text (broken BadLength)
last_bad body form budget text text2 line n b l zero t =
    turn body form budget text (broken BadLength) (broken BadLength) b (with_last body form budget text text2 line n never l zero t) refl

-- behind the line and the trailers
last_after : (budget : ℕ) (text text2 : List ℕ) (line : ChunkLine) (n k : ℕ) → Line budget text text2 line n → drop k text2 ≡ drop (n + k) text
last_after budget text text2 line n k l =
    let rest : drop n text ≡ text2 = ap (drop n) l.whole ∙ ap (λ (j : ℕ). drop j (print_chunk_line line ++ text2)) l.len ∙ drop-append_seam (print_chunk_line line) text2 in
    sym (ap (drop k) rest) ∙ drop-drop k n text

-- ---- turns

pub line_stop : (before after body : List ℕ) (form budget : ℕ) (old new : SourceTold) (stop : WireStop) → form + budget ≡ chunked_limit
    → ReadsPiece before after piece.Line budget old new (Err stop) → ReadsChunk before after body body form old new (Err stop)
line_stop before after body form budget old new (Bad Cut) b r = record {
  got = r.got;
  gave = r.gave;
  answer = (
    turn body form budget (before ++ r.got) unfinished unfinished b (line_open r.answer.0.0.0 r.answer.0.0.1 refl) (limited_short _ (let f : length (before ++ r.got) < budget = r.answer.0.1 in omega arith)),
    r.answer.1,
  );
}
line_stop before after body form budget old new (Bad LongBody) b r = record {
  got = r.got;
  gave = r.gave;
  answer = turn body form budget (before ++ r.got) unfinished (broken LongBody) b (line_open r.answer.0.0 r.answer.0.1 refl) (limited_long _ (let f : budget ≤ length (before ++ r.got) = r.answer.1 in omega arith));
}
line_stop before after body form budget old new (Bad BadLength) b r = record {
  got = r.got;
  gave = r.gave;
  answer = turn body form budget (before ++ r.got) (broken BadLength) (broken BadLength) b (line_bad r.answer refl) refl;
}
line_stop before after body form budget old new (Bad BadHead) b r = absurd r.answer
line_stop before after body form budget old new (Bad LongHead) b r = absurd r.answer
line_stop before after body form budget old new (Bad Coding) b r = absurd r.answer
line_stop before after body form budget old new ReadFault b r = record {
  got = r.got;
  gave = r.gave;
  answer = (
    turn body form budget (before ++ r.got) unfinished unfinished b (line_open r.answer.0.0.0 r.answer.0.0.1 refl) (limited_short _ (let f : length (before ++ r.got) < budget = r.answer.0.1 in omega arith)),
    r.answer.1,
  );
}
line_stop before after body form budget old new Memory b r = record { got = r.got; gave = r.gave; answer = tt }

-- a read of a line, and what came behind it
record Behind (before mid : List ℕ) (budget : ℕ) (old middle new : SourceTold) (e : PieceEnd) (got2 : List ℕ) : Type 0 where
  got : List ℕ
  gave : Gave old new got
  rose : old.faults ≤ middle.faults
  line : ChunkLine
  is_line : Line budget (before ++ got) (mid ++ got2) line e.len
  size : e.size ≡ chunk_size line

behind_line : (before mid : List ℕ) (budget : ℕ) (old middle new : SourceTold) (e : PieceEnd) (got2 : List ℕ) → ReadsPiece before mid piece.Line budget old middle (Ok e)
    → Gave middle new got2 → Behind before mid budget old middle new e got2
behind_line before mid budget old middle new e got2 r gave =
    let w : IsLineAt (take budget (before ++ r.got)) e = r.answer.0 in
    let l : Line budget (before ++ r.got ++ got2) (drop e.len (before ++ r.got) ++ got2) w.line e.len = line_of budget (before ++ r.got) got2 e w in
    record {
      got = r.got ++ got2;
      gave = Gave-then old middle new r.got got2 r.gave gave;
      rose = r.gave.later;
      line = w.line;
      is_line = subst (λ (t : List ℕ). Line budget t (mid ++ got2) w.line e.len) (append_assoc before r.got got2)
          (subst (λ (t : List ℕ). Line budget (before ++ r.got ++ got2) (t ++ got2) w.line e.len) (sym r.answer.1) l);
      size = w.size;
    }

pub last_done : (before mid after body : List ℕ) (form budget : ℕ) (old middle new : SourceTold) (line e : PieceEnd) → form + budget ≡ chunked_limit
    → ReadsPiece before mid piece.Line budget old middle (Ok line) → line.size ≡ 0 → ReadsPiece mid after piece.Trailers (budget - line.len) middle new (Ok e)
    → ReadsChunk before after body body form old new (Ok None)
last_done before mid after body form budget old middle new line e b r zero q =
    let k = behind_line before mid budget old middle new line q.got r q.gave in
    record {
      got = k.got;
      gave = k.gave;
      answer = (
        line.len + e.len,
        last_whole body form budget (before ++ k.got) (mid ++ q.got) k.line line.len e.len b k.is_line (sym k.size ∙ zero) q.answer.0.0,
        q.answer.1 ∙ last_after budget (before ++ k.got) (mid ++ q.got) k.line line.len e.len k.is_line,
        refl,
      );
    }

pub last_stop : (before mid after body : List ℕ) (form budget : ℕ) (old middle new : SourceTold) (line : PieceEnd) (stop : WireStop) → form + budget ≡ chunked_limit
    → ReadsPiece before mid piece.Line budget old middle (Ok line) → line.size ≡ 0 → ReadsPiece mid after piece.Trailers (budget - line.len) middle new (Err stop)
    → ReadsChunk before after body body form old new (Err stop)
last_stop before mid after body form budget old middle new line (Bad Cut) b r zero q =
    let k = behind_line before mid budget old middle new line q.got r q.gave in
    record {
      got = k.got;
      gave = k.gave;
      answer = (last_open body form budget (before ++ k.got) (mid ++ q.got) k.line line.len b k.is_line (sym k.size ∙ zero) q.answer.0.0 q.answer.0.1, q.answer.1);
    }
last_stop before mid after body form budget old middle new line (Bad LongBody) b r zero q =
    let k = behind_line before mid budget old middle new line q.got r q.gave in
    record {
      got = k.got;
      gave = k.gave;
      answer = last_full body form budget (before ++ k.got) (mid ++ q.got) k.line line.len b k.is_line (sym k.size ∙ zero) q.answer.0 q.answer.1;
    }
last_stop before mid after body form budget old middle new line (Bad BadLength) b r zero q =
    let k = behind_line before mid budget old middle new line q.got r q.gave in
    record {
      got = k.got;
      gave = k.gave;
      answer = last_bad body form budget (before ++ k.got) (mid ++ q.got) k.line line.len b k.is_line (sym k.size ∙ zero) q.answer;
    }
last_stop before mid after body form budget old middle new line (Bad BadHead) b r zero q = absurd q.answer
last_stop before mid after body form budget old middle new line (Bad LongHead) b r zero q = absurd q.answer
last_stop before mid after body form budget old middle new line (Bad Coding) b r zero q = absurd q.answer
last_stop before mid after body form budget old middle new line ReadFault b r zero q =
    let k = behind_line before mid budget old middle new line q.got r q.gave in
    record {
      got = k.got;
      gave = k.gave;
      answer = (
        last_open body form budget (before ++ k.got) (mid ++ q.got) k.line line.len b k.is_line (sym k.size ∙ zero) q.answer.0.0 q.answer.0.1,
        (let f : old.faults ≤ middle.faults = k.rose in omega (arith, q.answer.1)),
      );
    }
last_stop before mid after body form budget old middle new line Memory b r zero q =
    let k = behind_line before mid budget old middle new line q.got r q.gave in
    record { got = k.got; gave = k.gave; answer = tt }

-- a size that isn't 0
some_size : (m k : ℕ) → m ≡ k → (m ≡ 0 → ⊥) → 0 < k
some_size m k e f = by_order (cases_lt 0 k)
  where
    by_order : (0 < k) ⊎ (k ≤ 0) → 0 < k
    by_order (inl some) = some
    by_order (inr none) = absurd (f (omega arith))

pub long_chunk : (before mid body : List ℕ) (form budget : ℕ) (old middle : SourceTold) (line : PieceEnd) → form + budget ≡ chunked_limit
    → ReadsPiece before mid piece.Line budget old middle (Ok line) → (line.size ≡ 0 → ⊥)
    → (nat_le (length body + line.size) body_limit && nat_le (form + (line.len + line.size + 2)) 134217728) ≡ false
    → ReadsChunk before mid body body form old middle (Err (Bad LongBody))
long_chunk before mid body form budget old middle line b r some f =
    let l : Line budget (before ++ r.got ++ []) (drop line.len (before ++ r.got) ++ []) r.answer.0.line line.len = line_of budget (before ++ r.got) [] line r.answer.0 in
    let l' : Line budget (before ++ r.got) (drop line.len (before ++ r.got) ++ []) r.answer.0.line line.len = subst (λ (t : List ℕ). Line budget t (drop line.len (before ++ r.got) ++ []) r.answer.0.line line.len) (append-nil (before ++ r.got)) l in
    let size : line.size ≡ chunk_size r.answer.0.line = r.answer.0.size in
    record {
      got = r.got;
      gave = r.gave;
      answer = no_room body form budget (before ++ r.got) (drop line.len (before ++ r.got) ++ []) r.answer.0.line line.len b l' (some_size line.size (chunk_size r.answer.0.line) size some)
          (sym (fits_is (length body) form r.answer.0.line line.len line.size r.answer.0.len size) ∙ f);
    }

-- what the line and the data make
data_turn : (before mid after body body' : List ℕ) (form budget : ℕ) (old middle new : SourceTold) (line : PieceEnd) → form + budget ≡ chunked_limit
    → ReadsPiece before mid piece.Line budget old middle (Ok line) → (line.size ≡ 0 → ⊥)
    → (nat_le (length body + line.size) body_limit && nat_le (form + (line.len + line.size + 2)) 134217728) ≡ true
    → (got2 : List ℕ) → Gave middle new got2
    → (k : Behind before mid budget old middle new line got2) × (0 < chunk_size k.line) × (chunk_fits (length body) form k.line ≡ true)
data_turn before mid after body body' form budget old middle new line b r some f got2 gave =
    let k = behind_line before mid budget old middle new line got2 r gave in
    (k, some_size line.size (chunk_size k.line) k.size some, sym (fits_is (length body) form k.line line.len line.size k.is_line.len k.size) ∙ f)

pub chunk_done : (before mid after body body' : List ℕ) (form budget : ℕ) (old middle new : SourceTold) (line : PieceEnd) → form + budget ≡ chunked_limit
    → ReadsPiece before mid piece.Line budget old middle (Ok line) → (line.size ≡ 0 → ⊥)
    → (nat_le (length body + line.size) body_limit && nat_le (form + (line.len + line.size + 2)) 134217728) ≡ true
    → ReadsData mid after body body' line.size middle new (Ok tt) → ReadsChunk before after body body' form old new (Ok (Some (form + (line.len + line.size + 2))))
chunk_done before mid after body body' form budget old middle new line b r some f q =
    let (k, size, fits) = data_turn before mid after body body' form budget old middle new line b r some f q.got q.gave in
    let n : ℕ = line.size in
    let e : n ≡ chunk_size k.line = k.size in
    record {
      got = k.got;
      gave = k.gave;
      answer = chunk_taken body body' form budget (before ++ k.got) (mid ++ q.got) after k.line line.len (form + (line.len + n + 2)) b k.is_line size fits
          (subst (λ (m : ℕ). m ≤ length (mid ++ q.got)) e q.answer.0)
          (subst (λ (m : ℕ). begins_line_end (drop m (mid ++ q.got)) ≡ true) e q.answer.1)
          (subst (λ (m : ℕ). after ≡ drop 2 (drop m (mid ++ q.got))) e q.answer.2)
          (subst (λ (m : ℕ). body' ≡ body ++ take m (mid ++ q.got)) e q.answer.3)
          (ap (λ (m : ℕ). form + (line.len + m + 2)) e);
    }

pub data_stop : (before mid after body body' : List ℕ) (form budget : ℕ) (old middle new : SourceTold) (line : PieceEnd) (stop : WireStop) → form + budget ≡ chunked_limit
    → ReadsPiece before mid piece.Line budget old middle (Ok line) → (line.size ≡ 0 → ⊥)
    → (nat_le (length body + line.size) body_limit && nat_le (form + (line.len + line.size + 2)) 134217728) ≡ true
    → ReadsData mid after body body' line.size middle new (Err stop) → ReadsChunk before after body body' form old new (Err stop)
data_stop before mid after body body' form budget old middle new line (Bad Cut) b r some f q =
    let (k, size, fits) = data_turn before mid after body body' form budget old middle new line b r some f q.got q.gave in
    record {
      got = k.got;
      gave = k.gave;
      answer = (
        data_open body form budget (before ++ k.got) (mid ++ q.got) k.line line.len b k.is_line size fits
            (subst (λ (m : ℕ). begins_line_end (drop m (mid ++ q.got)) ≡ false) k.size q.answer.0)
            (subst (λ (m : ℕ). may_begin_line_end (drop m (mid ++ q.got)) ≡ true) k.size q.answer.1),
        q.answer.2,
      );
    }
data_stop before mid after body body' form budget old middle new line (Bad BadLength) b r some f q =
    let (k, size, fits) = data_turn before mid after body body' form budget old middle new line b r some f q.got q.gave in
    record {
      got = k.got;
      gave = k.gave;
      answer = data_bad body form budget (before ++ k.got) (mid ++ q.got) k.line line.len b k.is_line size fits
          (subst (λ (m : ℕ). begins_line_end (drop m (mid ++ q.got)) ≡ false) k.size q.answer.0)
          (subst (λ (m : ℕ). may_begin_line_end (drop m (mid ++ q.got)) ≡ false) k.size q.answer.1);
    }
data_stop before mid after body body' form budget old middle new line (Bad BadHead) b r some f q = absurd q.answer
data_stop before mid after body body' form budget old middle new line (Bad LongHead) b r some f q = absurd q.answer
data_stop before mid after body body' form budget old middle new line (Bad LongBody) b r some f q = absurd q.answer
data_stop before mid after body body' form budget old middle new line (Bad Coding) b r some f q = absurd q.answer
data_stop before mid after body body' form budget old middle new line ReadFault b r some f q =
    let (k, size, fits) = data_turn before mid after body body' form budget old middle new line b r some f q.got q.gave in
    record {
      got = k.got;
      gave = k.gave;
      answer = (
        data_open body form budget (before ++ k.got) (mid ++ q.got) k.line line.len b k.is_line size fits
            (subst (λ (m : ℕ). begins_line_end (drop m (mid ++ q.got)) ≡ false) k.size q.answer.0)
            (subst (λ (m : ℕ). may_begin_line_end (drop m (mid ++ q.got)) ≡ true) k.size q.answer.1),
        (let g : old.faults ≤ middle.faults = k.rose in omega (arith, q.answer.2)),
      );
    }
data_stop before mid after body body' form budget old middle new line Memory b r some f q =
    let k = behind_line before mid budget old middle new line q.got r q.gave in
    record { got = k.got; gave = k.gave; answer = tt }

-- ---- the whole body

pub no_chunks : (before : List ℕ) (old : SourceTold) (body : List ℕ) → body ≡ [] → Gave old old [] → InChunks before before body 0 old old
no_chunks before old body e gave = record {
  got = [];
  gave = gave;
  chunks = [];
  are_chunks = λ k d less. absurd (omega arith);
  text_is = append-nil before;
  body_is = e;
  form_is = refl;
}

-- one chunk more
pub one_more : (before now after body body' : List ℕ) (form form' : ℕ) (old mid new : SourceTold) → InChunks before now body form old mid
    → ReadsChunk now after body body' form mid new (Ok (Some form')) → InChunks before after body' form' old new
one_more before now after body body' form form' old mid new s r =
    let t = r.answer in
    let c : Chunk = t.chunk in
    record {
      got = s.got ++ r.got;
      gave = Gave-then old mid new s.got r.got s.gave r.gave;
      chunks = s.chunks ++ c ∷ [];
      are_chunks = All-append IsChunk s.chunks (c ∷ []) s.are_chunks (All-cons IsChunk c [] t.is_chunk (All-nil IsChunk));
      text_is =
          sym (append_assoc before s.got r.got) ∙ ap (λ (x : List ℕ). x ++ r.got) s.text_is ∙ append_assoc (print_chunks s.chunks) now r.got
          ∙ ap (λ (x : List ℕ). print_chunks s.chunks ++ x) t.text_is ∙ sym (append_assoc (print_chunks s.chunks) (print_chunk c) after)
          ∙ ap (λ (x : List ℕ). x ++ after) (ap (λ (x : List ℕ). print_chunks s.chunks ++ x) (sym (append-nil (print_chunk c))) ∙ sym (flat_map-append print_chunk s.chunks (c ∷ [])));
      body_is =
          t.body_is ∙ ap (λ (x : List ℕ). x ++ c.bytes) s.body_is
          ∙ ap (λ (x : List ℕ). chunk_data s.chunks ++ x) (sym (append-nil c.bytes)) ∙ sym (flat_map-append (λ (x : Chunk). x.bytes) s.chunks (c ∷ []));
      form_is =
          let p : length (print_chunks (s.chunks ++ c ∷ [])) ≡ length (print_chunks s.chunks ++ (print_chunk c ++ [])) = ap length (flat_map-append print_chunk s.chunks (c ∷ [])) in
          t.form_is ∙ omega (arith, s.form_is, p, length-append (print_chunks s.chunks) (print_chunk c ++ []), length-append (print_chunk c) []);
    }

-- a longer form
pub longer_form : (now after body body' : List ℕ) (form form' : ℕ) (mid new : SourceTold) → ReadsChunk now after body body' form mid new (Ok (Some form'))
    → (form < form') × (form' ≤ 134217728) × (length body' ≤ body_limit)
longer_form now after body body' form form' mid new r =
    let t = r.answer in
    let c : Chunk = t.chunk in (
      omega (arith, t.form_is, length-append (print_chunk_line c.line) (c.bytes ++ print_end crlf), length-append c.bytes (print_end crlf)),
      omega (arith, t.within, chunked_limit_is),
      omega (arith, t.short),
    )

-- what the end of a turn makes of all the bytes
ends_body : (before now body : List ℕ) (form : ℕ) (old mid new : SourceTold) (got2 : List ℕ) (front : BodyFront) (s : InChunks before now body form old mid)
    → length body ≤ body_limit → form ≤ 134217728 → TurnEnds body form (now ++ got2) front → ChunkedBody (before ++ (s.got ++ got2)) front
ends_body before now body form old mid new got2 front s short within t =
    let P : List ℕ = print_chunks s.chunks in
    let all : before ++ (s.got ++ got2) ≡ P ++ (now ++ got2) = sym (append_assoc before s.got got2) ∙ ap (λ (x : List ℕ). x ++ got2) s.text_is ∙ append_assoc P now got2 in
    let n : length P + (chunked_limit - form) ≡ chunked_limit = omega (arith, s.form_is, chunked_limit_is) in
    let front' : take chunked_limit (P ++ (now ++ got2)) ≡ P ++ take (chunked_limit - form) (now ++ got2) =
    sym (ap (λ (k : ℕ). take k (P ++ (now ++ got2))) n) ∙ take-append-add P (now ++ got2) (chunked_limit - form) in
    let whole : form + length (now ++ got2) ≡ length (before ++ (s.got ++ got2)) = omega (arith, s.form_is, ap length all, length-append P (now ++ got2)) in (
      t.inner,
      record {
        chunks = s.chunks;
        tail = take (chunked_limit - form) (now ++ got2);
        text_is = ap (take chunked_limit) all ∙ front';
        are_chunks = s.are_chunks;
        short = omega (arith, ap length s.body_is);
        behind = subst (λ (k : ℕ). Tail (chunk_data s.chunks) k (take (chunked_limit - form) (now ++ got2)) t.inner) s.form_is
            (subst (λ (b : List ℕ). Tail b form (take (chunked_limit - form) (now ++ got2)) t.inner) s.body_is t.tail);
      },
      sym t.front_is ∙ ap (λ (k : ℕ). limited k t.inner) whole,
    )

pub body_done : (before now after body body' : List ℕ) (form : ℕ) (old mid new : SourceTold) → InChunks before now body form old mid
    → length body ≤ body_limit → form ≤ 134217728 → ReadsChunk now after body body' form mid new (Ok None) → ReadsBody Chunked before after body' old new (Ok tt)
body_done before now after body body' form old mid new s short within r =
    let (n, t, a, e) = r.answer in
    let all : before ++ (s.got ++ r.got) ≡ print_chunks s.chunks ++ (now ++ r.got) =
    sym (append_assoc before s.got r.got) ∙ ap (λ (x : List ℕ). x ++ r.got) s.text_is ∙ append_assoc (print_chunks s.chunks) now r.got in
    let rest : drop form (before ++ (s.got ++ r.got)) ≡ now ++ r.got =
    ap (drop form) all ∙ ap (λ (k : ℕ). drop k (print_chunks s.chunks ++ (now ++ r.got))) s.form_is ∙ drop-append_seam (print_chunks s.chunks) (now ++ r.got) in
    record {
      got = s.got ++ r.got;
      gave = Gave-then old mid new s.got r.got s.gave r.gave;
      answer = (
        form + n,
        subst (λ (b : List ℕ). ChunkedBody (before ++ (s.got ++ r.got)) (ends b (form + n))) (sym e) (ends_body before now body form old mid new r.got (ends body (form + n)) s short within t),
        a ∙ sym (ap (drop n) rest) ∙ drop-drop n form (before ++ (s.got ++ r.got)),
      );
    }

pub body_stop : (before now after body body' : List ℕ) (form : ℕ) (old mid new : SourceTold) (stop : WireStop) → InChunks before now body form old mid
    → length body ≤ body_limit → form ≤ 134217728 → ReadsChunk now after body body' form mid new (Err stop) → ReadsBody Chunked before after body' old new (Err stop)
body_stop before now after body body' form old mid new (Bad Cut) s short within r = record {
  got = s.got ++ r.got;
  gave = Gave-then old mid new s.got r.got s.gave r.gave;
  answer = (ends_body before now body form old mid new r.got unfinished s short within r.answer.0, r.answer.1);
}
body_stop before now after body body' form old mid new (Bad BadHead) s short within r = record {
  got = s.got ++ r.got;
  gave = Gave-then old mid new s.got r.got s.gave r.gave;
  answer = ends_body before now body form old mid new r.got (broken BadHead) s short within r.answer;
}
body_stop before now after body body' form old mid new (Bad LongHead) s short within r = record {
  got = s.got ++ r.got;
  gave = Gave-then old mid new s.got r.got s.gave r.gave;
  answer = ends_body before now body form old mid new r.got (broken LongHead) s short within r.answer;
}
body_stop before now after body body' form old mid new (Bad LongBody) s short within r = record {
  got = s.got ++ r.got;
  gave = Gave-then old mid new s.got r.got s.gave r.gave;
  answer = ends_body before now body form old mid new r.got (broken LongBody) s short within r.answer;
}
body_stop before now after body body' form old mid new (Bad BadLength) s short within r = record {
  got = s.got ++ r.got;
  gave = Gave-then old mid new s.got r.got s.gave r.gave;
  answer = ends_body before now body form old mid new r.got (broken BadLength) s short within r.answer;
}
body_stop before now after body body' form old mid new (Bad Coding) s short within r = record {
  got = s.got ++ r.got;
  gave = Gave-then old mid new s.got r.got s.gave r.gave;
  answer = ends_body before now body form old mid new r.got (broken Coding) s short within r.answer;
}
body_stop before now after body body' form old mid new ReadFault s short within r = record {
  got = s.got ++ r.got;
  gave = Gave-then old mid new s.got r.got s.gave r.gave;
  answer = (
    ends_body before now body form old mid new r.got unfinished s short within r.answer.0,
    (let f : old.faults ≤ mid.faults = s.gave.later in omega (arith, r.answer.1)),
  );
}
body_stop before now after body body' form old mid new Memory s short within r = record {
  got = s.got ++ r.got;
  gave = Gave-then old mid new s.got r.got s.gave r.gave;
  answer = tt;
}
