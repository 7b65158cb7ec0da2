-- A decided body front stays when more bytes come, and a whole body lies within the bytes.
use Rattle.std.proofs.Common.{◌≡◌, ◌++◌, ◌∙◌, ◌≤◌, ◌<◌, ◌+◌, ℕ, List, [], ◌∷◌, length, take, drop, Bool, true, false, inl, inr, ◌⊎◌, refl, sym, ap, subst, append_assoc, length-append, arith}
use Rattle.std.specs.Prelude.{if◌then◌else◌, nat_le, ◌&&◌, ◌==◌, ⊤}
use Rattle.std.proofs.lemmas.Bool.{leb-true, le-leb, cond-true, cases_lt}
use Rattle.std.proofs.lemmas.List.{take-append-le, drop-append-le, drop_all, length-take}
use Rattle.httparse.specs.Grammar.{ChunkLine, chunk_size, print_chunk_line, ReadsChunkLine, NeverHasChunkLine, print_section, ReadsSection, HasNoSection, NeverHasSection}
use Rattle.httparse.proofs.GrammarLemmas.{ReadsSection-append}
use Rattle.httparse.proofs.ChunkLemmas.{ReadsChunkLine-append}
use Rattle.http_grammar.specs.Limits.{chunked_limit, trailer_limit}
use Rattle.http_grammar.specs.Chunks.{BodyFront, unfinished, ends, broken, print_chunks, chunk_data, chunk_fits, begins_line_end, may_begin_line_end, part_of_chunk, TrailerFront, coming, never, trailers, Trailers, still_open, too_long, hopeless, whole, with_trailers, BehindLine, part, last_chunk, Tail, line_open, line_bad, line_whole, Chunks, limited, ChunkedBody, Body, sized_body}
use Rattle.http_grammar.specs.declared.fault.HttpFault.TheVariants.{BadLength, LongBody}
use Rattle.http_grammar.specs.declared.framing.Framing.{Framing}
use Rattle.http_grammar.specs.declared.framing.Framing.TheVariants.{Sized, Chunked}
use Rattle.http_grammar.proofs.Lists.{take_longer}

-- what more bytes don't change
abbrev pub IsDecidedBody : BodyFront → Type 0
IsDecidedBody unfinished = ⊥
IsDecidedBody (ends body form) = ⊤
IsDecidedBody (broken fault) = ⊤

NeverHasSection-append : (a b : List ℕ) → NeverHasSection a → NeverHasSection (a ++ b)
NeverHasSection-append a b f more fields last rest x = f (b ++ more) fields last rest (subst (λ t. ReadsSection t fields last rest) (append_assoc a b more) x)

NeverHasChunkLine-append : (a b : List ℕ) → NeverHasChunkLine a → NeverHasChunkLine (a ++ b)
NeverHasChunkLine-append a b f more line rest x = f (b ++ more) line rest (subst (λ t. ReadsChunkLine t line rest) (append_assoc a b more) x)

abbrev IsDecidedSection : TrailerFront → Type 0
IsDecidedSection coming = ⊥
IsDecidedSection never = ⊤
IsDecidedSection (trailers n) = ⊤

trailers_kept : (text more : List ℕ) (x : TrailerFront) → Trailers text x → IsDecidedSection x → Trailers (text ++ more) x
trailers_kept text more x (still_open a b c e) d = absurd (subst IsDecidedSection e d)
trailers_kept text more x (too_long a b e) d =
    too_long (omega (arith, length-append text more)) (subst HasNoSection (sym (take-append-le trailer_limit text more a)) b) e
trailers_kept text more x (hopeless a e) d =
    let (c, f) = take_longer trailer_limit text more in
    hopeless (subst NeverHasSection (sym f) (NeverHasSection-append (take trailer_limit text) c a)) e
trailers_kept text more x (whole fs l r z e) d =
    let (c, f) = take_longer trailer_limit text more in
    whole fs l (r ++ c) (subst (λ t. ReadsSection t fs l (r ++ c)) (sym f) (ReadsSection-append (take trailer_limit text) fs l r c z)) e

with_decided : (body : List ℕ) (form : ℕ) (s : TrailerFront) → IsDecidedBody (with_trailers body form s) → IsDecidedSection s
with_decided body form coming d = d
with_decided body form never d = tt
with_decided body form (trailers n) d = tt

-- what follows the data of a chunk that is bad stays bad
end_stays : (behind more : List ℕ) → (true && begins_line_end behind) ≡ false → IsDecidedBody (part_of_chunk true behind)
    → (begins_line_end (behind ++ more) ≡ false) × (part_of_chunk true (behind ++ more) ≡ part_of_chunk true behind)
end_stays [] more e d = absurd d
end_stays (b ∷ []) [] e d = (refl, refl)
end_stays (b ∷ []) (m ∷ more) e d = by_byte (b == 13) d
  where
    by_byte : (t : Bool) → IsDecidedBody (if t then unfinished else broken BadLength) → ((t && m == 10) ≡ false) × ((if t && m == 10 then unfinished else broken BadLength) ≡ (if t then unfinished else broken BadLength))
    by_byte true d = absurd d
    by_byte false d = (refl, refl)
end_stays (b ∷ c ∷ bytes) more e d = (e, refl)

-- a decided chunk has all of its data
some_behind : (n : ℕ) (rest : List ℕ) → IsDecidedBody (part_of_chunk true (drop n rest)) → n ≤ length rest
some_behind n rest d = by_order (cases_lt (length rest) n)
  where
    by_order : (length rest < n) ⊎ (n ≤ length rest) → n ≤ length rest
    by_order (inl few) = absurd (subst (λ (b : List ℕ). IsDecidedBody (part_of_chunk true b)) (drop_all n rest (omega arith)) d)
    by_order (inr enough) = enough

behind_kept : (body : List ℕ) (form : ℕ) (line : ChunkLine) (rest more : List ℕ) (x : BodyFront)
    → BehindLine body form line rest x → IsDecidedBody x → BehindLine body form line (rest ++ more) x
behind_kept body form line rest more x (part a b e) d = by_fit (chunk_fits (length body) form line) refl b e
  where
    by_fit : (t : Bool) → chunk_fits (length body) form line ≡ t → (t && begins_line_end (drop (chunk_size line) rest)) ≡ false
        → x ≡ part_of_chunk t (drop (chunk_size line) rest) → BehindLine body form line (rest ++ more) x
    by_fit false f b e =
        part a (ap (λ (v : Bool). v && begins_line_end (drop (chunk_size line) (rest ++ more))) f)
        (e ∙ sym (ap (λ (v : Bool). part_of_chunk v (drop (chunk_size line) (rest ++ more))) f))
    by_fit true f b e =
        let d' : IsDecidedBody (part_of_chunk true (drop (chunk_size line) rest)) = subst IsDecidedBody e d in
        let cut : drop (chunk_size line) (rest ++ more) ≡ drop (chunk_size line) rest ++ more = drop-append-le (chunk_size line) rest more (some_behind (chunk_size line) rest d') in
        let stays = end_stays (drop (chunk_size line) rest) more b d' in
        part a
        (ap (λ (v : Bool). v && begins_line_end (drop (chunk_size line) (rest ++ more))) f ∙ ap begins_line_end cut ∙ stays.0)
        (e ∙ sym (ap (λ (v : Bool). part_of_chunk v (drop (chunk_size line) (rest ++ more))) f ∙ ap (part_of_chunk true) cut ∙ stays.1))
behind_kept body form line rest more x (last_chunk a s t e) d =
    last_chunk a s (trailers_kept rest more s t (with_decided body (form + length (print_chunk_line line)) s (subst IsDecidedBody e d))) e

pub tail_kept : (body : List ℕ) (form : ℕ) (tail more : List ℕ) (x : BodyFront) → Tail body form tail x → IsDecidedBody x → Tail body form (tail ++ more) x
tail_kept body form tail more x (line_open a b e) d = absurd (subst IsDecidedBody e d)
tail_kept body form tail more x (line_bad a e) d = line_bad (NeverHasChunkLine-append tail more a) e
tail_kept body form tail more x (line_whole line rest z w) d =
    line_whole line (rest ++ more) (ReadsChunkLine-append tail line rest more z) (behind_kept body form line rest more x w d)

pub chunks_kept : (text more : List ℕ) (x : BodyFront) → Chunks text x → IsDecidedBody x → Chunks (text ++ more) x
chunks_kept text more x k d = record {
  chunks = k.chunks;
  tail = k.tail ++ more;
  text_is = ap (λ (t : List ℕ). t ++ more) k.text_is ∙ append_assoc (print_chunks k.chunks) k.tail more;
  are_chunks = k.are_chunks;
  short = k.short;
  behind = tail_kept (chunk_data k.chunks) (length (print_chunks k.chunks)) k.tail more x k.behind d;
}

pub chunked_kept : (text more : List ℕ) (x : BodyFront) → ChunkedBody text x → IsDecidedBody x → ChunkedBody (text ++ more) x
chunked_kept text more x (unfinished, k, e) d = by_length (nat_le chunked_limit (length text)) refl (subst IsDecidedBody e d) e
  where
    by_length : (t : Bool) → nat_le chunked_limit (length text) ≡ t → IsDecidedBody (if t then broken LongBody else unfinished)
        → x ≡ (if t then broken LongBody else unfinished) → ChunkedBody (text ++ more) x
    by_length false f d e = absurd d
    by_length true f d e =
        let long : chunked_limit ≤ length text = leb-true _ _ f in
        let long' : chunked_limit ≤ length (text ++ more) = omega (arith, length-append text more) in
        (unfinished, subst (λ (t : List ℕ). Chunks t unfinished) (sym (take-append-le chunked_limit text more long)) k, e ∙ sym (cond-true _ _ _ (le-leb _ _ long')))
chunked_kept text more x (ends body form, k, e) d =
    let (c, f) = take_longer chunked_limit text more in
    (ends body form, subst (λ (t : List ℕ). Chunks t (ends body form)) (sym f) (chunks_kept (take chunked_limit text) c (ends body form) k tt), e)
chunked_kept text more x (broken fault, k, e) d =
    let (c, f) = take_longer chunked_limit text more in
    (broken fault, subst (λ (t : List ℕ). Chunks t (broken fault)) (sym f) (chunks_kept (take chunked_limit text) c (broken fault) k tt), e)

sized_kept : (n : ℕ) (text more : List ℕ) → IsDecidedBody (sized_body n text) → sized_body n (text ++ more) ≡ sized_body n text
sized_kept n text more d = by_fit (nat_le n (length text)) refl d
  where
    by_fit : (t : Bool) → nat_le n (length text) ≡ t → IsDecidedBody (if t then ends (take n text) n else unfinished)
        → sized_body n (text ++ more) ≡ (if t then ends (take n text) n else unfinished)
    by_fit false e d = absurd d
    by_fit true e d =
        let fits : n ≤ length text = leb-true _ _ e in
        let fits' : n ≤ length (text ++ more) = omega (arith, length-append text more) in
        cond-true _ _ _ (le-leb _ _ fits') ∙ ap (λ (b : List ℕ). ends b n) (take-append-le n text more fits)

pub body_kept : (framing : Framing) (text more : List ℕ) (x : BodyFront) → Body framing text x → IsDecidedBody x → Body framing (text ++ more) x
body_kept (Sized n) text more x e d = e ∙ sym (sized_kept n text more (subst IsDecidedBody e d))
body_kept Chunked text more x b d = chunked_kept text more x b d

-- ---- a whole body lies within

abbrev pub LengthAtMost : ℕ → BodyFront → Type 0
LengthAtMost limit unfinished = ⊤
LengthAtMost limit (ends body form) = form ≤ limit
LengthAtMost limit (broken fault) = ⊤

trailers_within : (text : List ℕ) (x : TrailerFront) (body : List ℕ) (form : ℕ) → Trailers text x → LengthAtMost (form + length text) (with_trailers body form x)
trailers_within text x body form (still_open a b c e) = subst (λ s. LengthAtMost (form + length text) (with_trailers body form s)) (sym e) tt
trailers_within text x body form (too_long a b e) = subst (λ s. LengthAtMost (form + length text) (with_trailers body form s)) (sym e) tt
trailers_within text x body form (hopeless a e) = subst (λ s. LengthAtMost (form + length text) (with_trailers body form s)) (sym e) tt
trailers_within text x body form (whole fs l r z e) =
    let n : length (take trailer_limit text) ≡ length (print_section fs l) + length r = ap length z.1 ∙ length-append (print_section fs l) r in
    subst (λ s. LengthAtMost (form + length text) (with_trailers body form s)) (sym e) (omega (arith, length-take trailer_limit text))

part_within : (limit : ℕ) (t : Bool) (behind : List ℕ) → LengthAtMost limit (part_of_chunk t behind)
part_within limit false behind = tt
part_within limit true behind = by_end (may_begin_line_end behind)
  where
    by_end : (t : Bool) → LengthAtMost limit (if t then unfinished else broken BadLength)
    by_end true = tt
    by_end false = tt

tail_within : (body : List ℕ) (form : ℕ) (tail : List ℕ) (x : BodyFront) → Tail body form tail x → LengthAtMost (form + length tail) x
tail_within body form tail x (line_open a b e) = subst (LengthAtMost (form + length tail)) (sym e) tt
tail_within body form tail x (line_bad a e) = subst (LengthAtMost (form + length tail)) (sym e) tt
tail_within body form tail x (line_whole line rest z (part a b e)) =
    subst (LengthAtMost (form + length tail)) (sym e) (part_within (form + length tail) _ (drop (chunk_size line) rest))
tail_within body form tail x (line_whole line rest z (last_chunk a s t e)) =
    let n : length tail ≡ length (print_chunk_line line) + length rest = ap length z.1 ∙ length-append (print_chunk_line line) rest in
    let m : form + length (print_chunk_line line) + length rest ≡ form + length tail = omega arith in
    subst (LengthAtMost (form + length tail)) (sym e) (subst (λ (k : ℕ). LengthAtMost k (with_trailers body (form + length (print_chunk_line line)) s)) m (trailers_within rest s body (form + length (print_chunk_line line)) t))

at_most_more : (n m : ℕ) (x : BodyFront) → n ≤ m → LengthAtMost n x → LengthAtMost m x
at_most_more n m unfinished le w = tt
at_most_more n m (ends body form) le w = omega arith
at_most_more n m (broken fault) le w = tt

limited_within : (n m : ℕ) (x : BodyFront) → LengthAtMost n x → LengthAtMost n (limited m x)
limited_within n m unfinished w = by_length (nat_le chunked_limit m)
  where
    by_length : (t : Bool) → LengthAtMost n (if t then broken LongBody else unfinished)
    by_length true = tt
    by_length false = tt
limited_within n m (ends body form) w = w
limited_within n m (broken fault) w = tt

chunked_within : (text : List ℕ) (x : BodyFront) → ChunkedBody text x → LengthAtMost (length text) x
chunked_within text x (a, k, e) =
    let n : length (take chunked_limit text) ≡ length (print_chunks k.chunks) + length k.tail = ap length k.text_is ∙ length-append (print_chunks k.chunks) k.tail in
    let w : LengthAtMost (length (print_chunks k.chunks) + length k.tail) a = tail_within (chunk_data k.chunks) (length (print_chunks k.chunks)) k.tail a k.behind in
    subst (LengthAtMost (length text)) (sym e)
    (limited_within (length text) (length text) a (at_most_more _ (length text) a (omega (arith, length-take chunked_limit text)) w))

pub body_within : (framing : Framing) (text : List ℕ) (x : BodyFront) → Body framing text x → LengthAtMost (length text) x
body_within (Sized n) text x e = subst (LengthAtMost (length text)) (sym e) (by_fit (nat_le n (length text)) refl)
  where
    by_fit : (t : Bool) → nat_le n (length text) ≡ t → LengthAtMost (length text) (if t then ends (take n text) n else unfinished)
    by_fit true e = leb-true _ _ e
    by_fit false e = tt
body_within Chunked text x b = chunked_within text x b
