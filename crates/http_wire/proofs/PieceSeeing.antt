-- What the parsers of the pieces say.
use Rattle.std.proofs.Common.{◌≡◌, ◌∙◌, ◌≤◌, ◌<◌, ◌+◌, ℕ, List, [], ◌∷◌, length, take, drop, min, true, refl, sym, ap, subst, length-append, arith}
use Rattle.std.proofs.lemmas.Bool.{false≢true}
use Rattle.std.proofs.lemmas.List.{length-take, take_all}
use Rattle.httparse.specs.Grammar.{LineEnd, Field, print_section, ReadsSection, HasNoSection, NeverHasSection, MayBecomeSection, print_chunk_line}
use Rattle.httparse.specs.Spans.{IsSectionAt}
use Rattle.httparse.specs.declared.spans.HeaderSpan.{HeaderSpan}
use Rattle.http_grammar.specs.Limits.{trailer_limit}
use Rattle.http_grammar.specs.Chunks.{begins_line_end, Trailers, coming, never, trailers, still_open, too_long, hopeless, whole}
use Rattle.http_wire.specs.Pieces.{IsWholePiece, SeesInner, SeesPiece, LooksPiece}
use Rattle.http_wire.specs.declared.piece.Piece.{Piece}
use Rattle.http_wire.specs.declared.piece.Piece.TheVariants as piece
use Rattle.http_wire.specs.declared.piece.PieceEnd.{PieceEnd}
use Rattle.http_wire.specs.declared.piece.PieceSeen.{PieceSeen}
use Rattle.http_wire.specs.declared.piece.PieceSeen.TheVariants as seen

pub trailer_limit_is : trailer_limit ≡ 65536
unfolding trailer_limit
trailer_limit_is = refl

pub limit_part : (text part : List ℕ) → part ≡ take 65536 text → part ≡ take trailer_limit text
limit_part text part e = e ∙ ap (λ (n : ℕ). take n text) (sym trailer_limit_is)

pub whole_trailers : (text part : List ℕ) (spans : List HeaderSpan) (len count : ℕ) (fields : List Field) (last : LineEnd) → part ≡ take 65536 text
    → IsSectionAt part 0 spans len count fields last → Trailers text (trailers len) × (len ≤ length text)
whole_trailers text part spans len count fields last e at =
    let p : part ≡ take trailer_limit text = limit_part text part e in
    let n : len ≡ length (print_section fields last) = at.len_is ∙ omega arith in
    let within : length part ≡ length (print_section fields last) + length (drop len part) = ap length at.reads.1 ∙ length-append (print_section fields last) (drop len part) in
    let m : length part ≡ min 65536 (length text) = ap length e ∙ length-take 65536 text in (
      whole fields last (drop len part) (subst (λ (t : List ℕ). ReadsSection t fields last (drop len part)) p at.reads) (ap trailers n),
      omega arith,
    )

pub open_trailers : (text part : List ℕ) → part ≡ take 65536 text → length text < 65536 → HasNoSection part → MayBecomeSection part → Trailers text coming
open_trailers text part e few none may =
    let same : part ≡ text = e ∙ take_all 65536 text (omega arith) in
    still_open (omega (arith, trailer_limit_is)) (subst HasNoSection same none) (subst MayBecomeSection same may) refl

pub long_trailers : (text part : List ℕ) → part ≡ take 65536 text → 65536 ≤ length text → HasNoSection part → Trailers text never
long_trailers text part e long none = too_long (omega (arith, trailer_limit_is)) (subst HasNoSection (limit_part text part e) none) refl

pub hopeless_trailers : (text part : List ℕ) → part ≡ take 65536 text → NeverHasSection part → Trailers text never
hopeless_trailers text part e f = hopeless (subst NeverHasSection (limit_part text part e) f) refl

pub part_short : (text part : List ℕ) → part ≡ take 65536 text → length part ≤ 65536
part_short text part e = omega (arith, ap length e, length-take 65536 text)

-- a whole piece lies within its text
two : (text : List ℕ) → begins_line_end text ≡ true → 2 ≤ length text
two [] e = absurd (false≢true e)
two (b ∷ []) e = absurd (false≢true e)
two (b ∷ c ∷ text) e = omega arith

pub whole_within : (p : Piece) (text : List ℕ) (e : PieceEnd) → IsWholePiece p text e → e.len ≤ length text
whole_within piece.Line text e w =
    omega (arith, w.len, ap length w.reads.1, length-append (print_chunk_line w.line) (drop e.len text))
whole_within piece.Trailers text e w = w.1
whole_within piece.End text e w = let n : 2 ≤ length text = two text w.0 in omega (arith, w.1)

pub whole_within_all : (p : Piece) (budget : ℕ) (text : List ℕ) (e : PieceEnd) → IsWholePiece p (take budget text) e → e.len ≤ length text
whole_within_all p budget text e w = omega (arith, whole_within p (take budget text) e w, length-take budget text)

-- from the bytes that the piece may have to all of them
pub sees_piece : (p : Piece) (budget : ℕ) (text part : List ℕ) (s : PieceSeen) → part ≡ take budget text → SeesInner p part s → (s ≡ seen.Open → length text < budget)
    → SeesPiece p budget text s
sees_piece p budget text part seen.Open e x few = (subst (λ (t : List ℕ). SeesInner p t seen.Open) e x, few refl)
sees_piece p budget text part seen.Full e x few = absurd x
sees_piece p budget text part seen.Bad e x few = subst (λ (t : List ℕ). SeesInner p t seen.Bad) e x
sees_piece p budget text part (seen.Whole end) e x few = subst (λ (t : List ℕ). SeesInner p t (seen.Whole end)) e x

pub looks_piece : (p : Piece) (budget : ℕ) (text : List ℕ) (s : PieceSeen) → SeesPiece p budget text s → LooksPiece p budget text s
looks_piece p budget text seen.Open x = x.1
looks_piece p budget text seen.Full x = x
looks_piece p budget text seen.Bad x = x
looks_piece p budget text (seen.Whole end) x = x
