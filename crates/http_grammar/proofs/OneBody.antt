-- The bytes behind a head are one body front at most, and a decided one stays.
use Rattle.std.proofs.Common.{◌≡◌, ◌++◌, ◌∙◌, ◌≤◌, ◌<◌, ◌+◌, ℕ, List, [], ◌∷◌, length, take, drop, Bool, true, refl, sym, ap, subst, append_assoc, append-nil, length-append, arith, All}
use Rattle.std.specs.Prelude.{◌&&◌}
use Rattle.std.proofs.lemmas.Bool.{le-leb, false≢true}
use Rattle.std.proofs.lemmas.List.{take_all, length-take}
use Rattle.std.proofs.lemmas.List.Elements.{All-head, All-tail}
use Rattle.std.proofs.Math.Seq.{drop-append_seam}
use Rattle.httparse.specs.Grammar.{crlf, print_end, ChunkLine, chunk_size, print_chunk_line, ReadsChunkLine, NeverHasChunkLine, Field, LineEnd, print_section, ReadsSection, NeverHasSection}
use Rattle.httparse.proofs.GrammarLemmas.{section_unique}
use Rattle.httparse.proofs.ChunkLemmas.{chunk_line_unique}
use Rattle.http_grammar.specs.Limits.{body_limit, chunked_limit, trailer_limit}
use Rattle.http_grammar.specs.Chunks.{BodyFront, Chunk, print_chunk, IsChunk, print_chunks, chunk_data, chunk_length, chunk_fits, begins_line_end, TrailerFront, trailers, Trailers, still_open, too_long, hopeless, whole, with_trailers, BehindLine, part, last_chunk, Tail, line_open, line_bad, line_whole, Chunks, limited, ChunkedBody}
use Rattle.http_grammar.proofs.Lists.{same_fronts}

-- ---- one answer

-- a text that never has a section has none
no_section : (text : List ℕ) (fields : List Field) (last : LineEnd) (rest : List ℕ) → NeverHasSection text → ReadsSection text fields last rest → ⊥
no_section text fields last rest f x = f [] fields last rest (subst (λ t. ReadsSection t fields last rest) (sym (append-nil text)) x)

no_chunk_line : (text : List ℕ) (line : ChunkLine) (rest : List ℕ) → NeverHasChunkLine text → ReadsChunkLine text line rest → ⊥
no_chunk_line text line rest f x = f [] line rest (subst (λ t. ReadsChunkLine t line rest) (sym (append-nil text)) x)

all_within : (text : List ℕ) → length text < trailer_limit → take trailer_limit text ≡ text
all_within text few = take_all trailer_limit text (omega arith)

-- an open section isn't never one
open_not_hopeless : (text : List ℕ) → length text < trailer_limit → ((more : List ℕ) × (fields : List Field) × (last : LineEnd) × ReadsSection (text ++ more) fields last [])
    → NeverHasSection (take trailer_limit text) → ⊥
open_not_hopeless text few (more, fields, last, x) f = subst NeverHasSection (all_within text few) f more fields last [] x

pub trailers_unique : (text : List ℕ) (x y : TrailerFront) → Trailers text x → Trailers text y → x ≡ y
trailers_unique text x y (still_open a b c e) (still_open a' b' c' f) = e ∙ sym f
trailers_unique text x y (still_open a b c e) (too_long a' b' f) = absurd (omega arith)
trailers_unique text x y (still_open a b c e) (hopeless a' f) = absurd (open_not_hopeless text a c a')
trailers_unique text x y (still_open a b c e) (whole fs l r z f) = absurd (b fs l r (subst (λ t. ReadsSection t fs l r) (all_within text a) z))
trailers_unique text x y (too_long a b e) (still_open a' b' c' f) = absurd (omega arith)
trailers_unique text x y (too_long a b e) (too_long a' b' f) = e ∙ sym f
trailers_unique text x y (too_long a b e) (hopeless a' f) = e ∙ sym f
trailers_unique text x y (too_long a b e) (whole fs l r z f) = absurd (b fs l r z)
trailers_unique text x y (hopeless a e) (still_open a' b' c' f) = absurd (open_not_hopeless text a' c' a)
trailers_unique text x y (hopeless a e) (too_long a' b' f) = e ∙ sym f
trailers_unique text x y (hopeless a e) (hopeless a' f) = e ∙ sym f
trailers_unique text x y (hopeless a e) (whole fs l r z f) = absurd (no_section _ fs l r a z)
trailers_unique text x y (whole fs l r z e) (still_open a' b' c' f) = absurd (b' fs l r (subst (λ t. ReadsSection t fs l r) (all_within text a') z))
trailers_unique text x y (whole fs l r z e) (too_long a' b' f) = absurd (b' fs l r z)
trailers_unique text x y (whole fs l r z e) (hopeless a' f) = absurd (no_section _ fs l r a' z)
trailers_unique text x y (whole fs l r z e) (whole gs k q w f) =
    let same = section_unique (take trailer_limit text) fs gs l k r q z w in
    e ∙ ap (λ (a : List Field). trailers (length (print_section a l))) same.0 ∙ ap (λ (a : LineEnd). trailers (length (print_section gs a))) same.1 ∙ sym f

behind_unique : (body : List ℕ) (form : ℕ) (line : ChunkLine) (rest : List ℕ) (x y : BodyFront)
    → BehindLine body form line rest x → BehindLine body form line rest y → x ≡ y
behind_unique body form line rest x y (part a b e) (part a' b' f) = e ∙ sym f
behind_unique body form line rest x y (part a b e) (last_chunk a' s t f) = absurd (omega arith)
behind_unique body form line rest x y (last_chunk a s t e) (part a' b' f) = absurd (omega arith)
behind_unique body form line rest x y (last_chunk a s t e) (last_chunk a' s' t' f) =
    e ∙ ap (with_trailers body (form + length (print_chunk_line line))) (trailers_unique rest s s' t t') ∙ sym f

pub tail_unique : (body : List ℕ) (form : ℕ) (tail : List ℕ) (x y : BodyFront) → Tail body form tail x → Tail body form tail y → x ≡ y
tail_unique body form tail x y (line_open a b e) (line_open a' b' f) = e ∙ sym f
tail_unique body form tail x y (line_open a (more, line, z) e) (line_bad a' f) = absurd (a' more line [] z)
tail_unique body form tail x y (line_open a b e) (line_whole line rest z w) = absurd (a line rest z)
tail_unique body form tail x y (line_bad a e) (line_open a' (more, line, z) f) = absurd (a more line [] z)
tail_unique body form tail x y (line_bad a e) (line_bad a' f) = e ∙ sym f
tail_unique body form tail x y (line_bad a e) (line_whole line rest z w) = absurd (no_chunk_line tail line rest a z)
tail_unique body form tail x y (line_whole line rest z w) (line_open a' b' f) = absurd (a' line rest z)
tail_unique body form tail x y (line_whole line rest z w) (line_bad a' f) = absurd (no_chunk_line tail line rest a' z)
tail_unique body form tail x y (line_whole line rest z w) (line_whole line' rest' z' w') =
    let same = chunk_line_unique tail line line' rest rest' z z' in
    behind_unique body form line' rest' x y
    (subst (λ (r : List ℕ). BehindLine body form line' r x) same.1 (subst (λ (l : ChunkLine). BehindLine body form l rest x) same.0 w)) w'

-- a chunk is its line, and then its data and a line end
pub chunk_line_at : (c : Chunk) (rest : List ℕ) → IsChunk c → ReadsChunkLine (print_chunk c ++ rest) c.line (c.bytes ++ (print_end crlf ++ rest))
chunk_line_at c rest ok = (ok.line_is, simp append_assoc)

pub chunk_length_is : (c : Chunk) → IsChunk c → length (print_chunk c) ≡ chunk_length c.line
chunk_length_is c ok =
    let n = ok.size in
    omega (arith, length-append (print_chunk_line c.line) (c.bytes ++ print_end crlf), length-append c.bytes (print_end crlf))

-- what stands behind the data of a whole chunk
behind_data : (c : Chunk) (rest : List ℕ) → IsChunk c → drop (chunk_size c.line) (c.bytes ++ (print_end crlf ++ rest)) ≡ 13 ∷ 10 ∷ rest
behind_data c rest ok = ap (λ (k : ℕ). drop k (c.bytes ++ (print_end crlf ++ rest))) (sym ok.size) ∙ drop-append_seam c.bytes (print_end crlf ++ rest)

both_true : (a b : Bool) → a ≡ true → b ≡ true → (a && b) ≡ true
both_true a b x y = grind (arith, x, y)

-- no whole chunk that fits stands in a tail
whole_chunk_first : (body : List ℕ) (form : ℕ) (c : Chunk) (rest : List ℕ) (x : BodyFront) → IsChunk c
    → chunk_fits (length body) form c.line ≡ true → Tail body form (print_chunk c ++ rest) x → ⊥
whole_chunk_first body form c rest x ok fits (line_open a b e) = a c.line _ (chunk_line_at c rest ok)
whole_chunk_first body form c rest x ok fits (line_bad a e) = no_chunk_line _ c.line _ a (chunk_line_at c rest ok)
whole_chunk_first body form c rest x ok fits (line_whole line after z w) =
    let same = chunk_line_unique (print_chunk c ++ rest) line c.line after (c.bytes ++ (print_end crlf ++ rest)) z (chunk_line_at c rest ok) in
    by_kind (subst (λ (r : List ℕ). BehindLine body form c.line r x) same.1 (subst (λ (l : ChunkLine). BehindLine body form l after x) same.0 w))
  where
    by_kind : BehindLine body form c.line (c.bytes ++ (print_end crlf ++ rest)) x → ⊥
    by_kind (part a b e) =
        let here : begins_line_end (drop (chunk_size c.line) (c.bytes ++ (print_end crlf ++ rest))) ≡ true = ap begins_line_end (behind_data c rest ok) in
        false≢true (sym b ∙ both_true _ _ fits here)
    by_kind (last_chunk a s t e) = let some = ok.some in omega arith

fits_within : (held form : ℕ) (line : ChunkLine) → held + chunk_size line ≤ body_limit → form + chunk_length line ≤ chunked_limit → chunk_fits held form line ≡ true
unfolding chunk_fits
fits_within held form line a b = both_true _ _ (le-leb _ _ a) (le-leb _ _ b)

-- two chunks at one front are one
chunk_prefix : (c d : Chunk) (r q : List ℕ) → IsChunk c → IsChunk d → print_chunk c ++ r ≡ print_chunk d ++ q → (c ≡ d) × (r ≡ q)
chunk_prefix c d r q ok ok' e =
    let z : ReadsChunkLine (print_chunk d ++ q) c.line (c.bytes ++ (print_end crlf ++ r)) = subst (λ (t : List ℕ). ReadsChunkLine t c.line (c.bytes ++ (print_end crlf ++ r))) e (chunk_line_at c r ok) in
    let same = chunk_line_unique (print_chunk d ++ q) c.line d.line _ _ z (chunk_line_at d q ok') in
    let sizes : length c.bytes ≡ length d.bytes = ok.size ∙ ap chunk_size same.0 ∙ sym ok'.size in
    let bytes = same_fronts c.bytes d.bytes (print_end crlf ++ r) (print_end crlf ++ q) sizes same.1 in (
      λ i. record { line = same.0 i; bytes = bytes.0 i },
      (same_fronts (print_end crlf) (print_end crlf) r q refl bytes.1).1,
    )

-- what a text that begins with a chunk holds at least
data_first : (c : Chunk) (chunks : List Chunk) → length c.bytes ≤ length (chunk_data (c ∷ chunks))
data_first c chunks = omega (arith, length-append c.bytes (chunk_data chunks))

-- chunks, and a tail that begins with no whole chunk
record Run (body : List ℕ) (form : ℕ) (text : List ℕ) (chunks : List Chunk) (tail : List ℕ) (x : BodyFront) : Type 0 where
  text_is : text ≡ print_chunks chunks ++ tail
  are_chunks : All IsChunk chunks
  short : length body + length (chunk_data chunks) ≤ body_limit
  behind : Tail (body ++ chunk_data chunks) (form + length (print_chunks chunks)) tail x

-- a run without its first chunk
run_tail : (body : List ℕ) (form : ℕ) (c : Chunk) (chunks : List Chunk) (tail : List ℕ) (x : BodyFront)
    → Run body form (print_chunk c ++ (print_chunks chunks ++ tail)) (c ∷ chunks) tail x
    → Run (body ++ c.bytes) (form + length (print_chunk c)) (print_chunks chunks ++ tail) chunks tail x
run_tail body form c chunks tail x r = record {
  text_is = refl;
  are_chunks = All-tail IsChunk c chunks r.are_chunks;
  short = let s = r.short in omega (arith, length-append body c.bytes, length-append c.bytes (chunk_data chunks));
  behind =
      let e : form + length (print_chunk c ++ print_chunks chunks) ≡ form + length (print_chunk c) + length (print_chunks chunks) = omega (arith, length-append (print_chunk c) (print_chunks chunks)) in
      subst (λ (n : ℕ). Tail (body ++ c.bytes ++ chunk_data chunks) n tail x) e
      (subst (λ (b : List ℕ). Tail b (form + length (print_chunk c ++ print_chunks chunks)) tail x) (sym (append_assoc body c.bytes (chunk_data chunks))) r.behind);
}

-- where one run ends, the other has no chunk
no_more : (body : List ℕ) (form : ℕ) (text : List ℕ) (c : Chunk) (chunks : List Chunk) (t s : List ℕ) (x y : BodyFront)
    → form + length text ≤ chunked_limit → Run body form text [] t x → Run body form text (c ∷ chunks) s y → ⊥
no_more body form text c chunks t s x y few r q =
    let ok : IsChunk c = All-head IsChunk c chunks q.are_chunks in
    let e : t ≡ print_chunk c ++ (print_chunks chunks ++ s) = sym r.text_is ∙ q.text_is ∙ append_assoc (print_chunk c) (print_chunks chunks) s in
    let n : length text ≡ length (print_chunk c) + length (print_chunks chunks ++ s) = ap length (q.text_is ∙ append_assoc (print_chunk c) (print_chunks chunks) s) ∙ length-append (print_chunk c) (print_chunks chunks ++ s) in
    let m : length (print_chunk c) ≡ chunk_length c.line = chunk_length_is c ok in
    let k : length c.bytes ≤ length (chunk_data (c ∷ chunks)) = data_first c chunks in
    let size : length c.bytes ≡ chunk_size c.line = ok.size in
    let short : length body + length (chunk_data (c ∷ chunks)) ≤ body_limit = q.short in
    let fits : chunk_fits (length body) form c.line ≡ true = fits_within (length body) form c.line (omega arith) (omega arith) in
    let none : form + 0 ≡ form = omega arith in
    whole_chunk_first body form c (print_chunks chunks ++ s) x ok fits
    (subst (λ (a : List ℕ). Tail body form a x) e (subst (λ (a : ℕ). Tail body a t x) none (subst (λ (a : List ℕ). Tail a (form + 0) t x) (append-nil body) r.behind)))

same_run : (body : List ℕ) (form : ℕ) (text : List ℕ) (cs ds : List Chunk) (t s : List ℕ) (x y : BodyFront)
    → form + length text ≤ chunked_limit → Run body form text cs t x → Run body form text ds s y → (cs ≡ ds) × (t ≡ s)
same_run body form text [] [] t s x y few r q = (refl, sym r.text_is ∙ q.text_is)
same_run body form text [] (d ∷ ds) t s x y few r q = absurd (no_more body form text d ds t s x y few r q)
same_run body form text (c ∷ cs) [] t s x y few r q = absurd (no_more body form text c cs s t y x few q r)
same_run body form text (c ∷ cs) (d ∷ ds) t s x y few r q =
    let e : text ≡ print_chunk c ++ (print_chunks cs ++ t) = r.text_is ∙ append_assoc (print_chunk c) (print_chunks cs) t in
    let f : text ≡ print_chunk d ++ (print_chunks ds ++ s) = q.text_is ∙ append_assoc (print_chunk d) (print_chunks ds) s in
    let heads = chunk_prefix c d (print_chunks cs ++ t) (print_chunks ds ++ s) (All-head IsChunk c cs r.are_chunks) (All-head IsChunk d ds q.are_chunks) (sym e ∙ f) in
    let few' : form + length (print_chunk c) + length (print_chunks cs ++ t) ≤ chunked_limit = omega (arith, ap length e, length-append (print_chunk c) (print_chunks cs ++ t)) in
    let r' = run_tail body form c cs t x (run_at text (print_chunk c ++ (print_chunks cs ++ t)) (c ∷ cs) t x e r) in
    let q' = run_tail body form d ds s y (run_at text (print_chunk d ++ (print_chunks ds ++ s)) (d ∷ ds) s y f q) in
    let q'' : Run (body ++ c.bytes) (form + length (print_chunk c)) (print_chunks cs ++ t) ds s y =
    subst (λ (a : List ℕ). Run (body ++ c.bytes) (form + length (print_chunk c)) a ds s y) (sym heads.1)
    (subst (λ (a : Chunk). Run (body ++ a.bytes) (form + length (print_chunk a)) (print_chunks ds ++ s) ds s y) (sym heads.0) q') in
    let ih = same_run (body ++ c.bytes) (form + length (print_chunk c)) (print_chunks cs ++ t) cs ds t s x y few' r' q'' in
    (λ i. heads.0 i ∷ ih.0 i, ih.1)
  where
    run_at : (a b : List ℕ) (chunks : List Chunk) (z : List ℕ) (v : BodyFront) → a ≡ b → Run body form a chunks z v → Run body form b chunks z v
    run_at a b chunks z v same w = subst (λ (l : List ℕ). Run body form l chunks z v) same w

run_of : (text : List ℕ) (x : BodyFront) (k : Chunks text x) → Run [] 0 text k.chunks k.tail x
run_of text x k = record {
  text_is = k.text_is;
  are_chunks = k.are_chunks;
  short = let s = k.short in omega arith;
  behind = subst (λ (n : ℕ). Tail (chunk_data k.chunks) n k.tail x) (omega arith) k.behind;
}

-- the chunks of a text are determined, and so is what stands behind them
pub chunks_unique : (text : List ℕ) (x y : BodyFront) → length text ≤ chunked_limit → Chunks text x → Chunks text y → x ≡ y
chunks_unique text x y few k l =
    let same = same_run [] 0 text k.chunks l.chunks k.tail l.tail x y (omega arith) (run_of text x k) (run_of text y l) in
    tail_unique (chunk_data l.chunks) (length (print_chunks l.chunks)) l.tail x y
    (subst (λ (a : List ℕ). Tail (chunk_data l.chunks) (length (print_chunks l.chunks)) a x) same.1
    (subst (λ (a : List Chunk). Tail (chunk_data a) (length (print_chunks a)) k.tail x) same.0 k.behind)) l.behind

pub chunked_unique : (text : List ℕ) (x y : BodyFront) → ChunkedBody text x → ChunkedBody text y → x ≡ y
chunked_unique text x y (a, k, e) (b, l, f) =
    let few : length (take chunked_limit text) ≤ chunked_limit = omega (arith, length-take chunked_limit text) in
    e ∙ ap (limited (length text)) (chunks_unique (take chunked_limit text) a b few k l) ∙ sym f
