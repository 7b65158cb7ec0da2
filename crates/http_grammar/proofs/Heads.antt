-- Heads within their limit, and how many fields heads and trailers can have.
use Rattle.std.proofs.Common.{◌≡◌, true, false, ℕ, ◌+◌, ◌*◌, ◌<◌, ◌≤◌, List, [], ◌∷◌, ◌++◌, length, take, drop, ap, ◌∙◌, subst, arith, length-append, inl, inr}
use Rattle.std.proofs.lemmas.List.{take-append-drop, length-take}
use Rattle.std.proofs.lemmas.List.Elements.{All-head, All-tail}
use Rattle.std.specs.Prelude.{All}
use Rattle.std.specs.List.{flat_map}
use Rattle.httparse.specs.Grammar.{LineEnd, crlf, lf, print_end, Field, IsField, print_field, print_section, ReadsSection, RequestHead, print_request, ReadsRequest, HasNoRequest, MayBecomeRequest}
use Rattle.httparse.specs.Spans.{RequestExceeds, SectionExceeds}
use Rattle.httparse.proofs.GrammarLemmas.{print_request-append, ReadsRequest-append}
use Rattle.http_grammar.specs.Limits.{head_limit, field_room}
use Rattle.http_grammar.specs.Judged.{is_judged}
use Rattle.http_grammar.specs.First.{HasHead, HasNoFuture, IsOpen}
use Rattle.http_grammar.proofs.Judged.{head_is_judged, target_is_not_judged}

end_length : (end : LineEnd) → 1 ≤ length (print_end end)
end_length crlf = omega arith
end_length lf = omega arith

-- a field line takes three bytes at least
field_length : (f : Field) → IsField f → 3 ≤ length (print_field f)
field_length f ok =
    let a : 0 < length f.name = ok.name.0 in
    let b : 1 ≤ length (print_end f.end) = end_length f.end in
    simp length-append (omega arith)

fields_length : (fields : List Field) → All IsField fields → 3 * length fields ≤ length (flat_map print_field fields)
fields_length [] all = omega arith
fields_length (f ∷ fields) all =
    let first : 3 ≤ length (print_field f) = field_length f (All-head IsField f fields all) in
    let later : 3 * length fields ≤ length (flat_map print_field fields) = fields_length fields (All-tail IsField f fields all) in
    rw length-append (omega arith)

-- so a head of n bytes has no more than a third of n fields
pub head_length : (buf : List ℕ) (h : RequestHead) → ReadsRequest buf h [] → 3 * length h.fields ≤ length buf
head_length buf h x =
    let e : length buf ≡ _ = ap length (x.1 ∙ print_request-append h []) in
    let fields : 3 * length h.fields ≤ length (flat_map print_field h.fields) = fields_length h.fields x.0.fields in
    omega (arith, simp length-append at e)

-- and a section of n bytes neither
pub section_length : (buf : List ℕ) (fields : List Field) (last : LineEnd) → ReadsSection buf fields last [] → 3 * length fields ≤ length buf
section_length buf fields last x =
    let e : length buf ≡ length (flat_map print_field fields ++ print_end last) + 0 = ap length x.1 ∙ length-append (print_section fields last) [] in
    let more : 3 * length fields ≤ length (flat_map print_field fields) = fields_length fields x.0 in
    omega (arith, length-append (flat_map print_field fields) (print_end last))

-- 21,846 fields are never exceeded within 65,536 bytes
pub never_too_many_trailers : (buf : List ℕ) → length buf ≤ 65536 → SectionExceeds field_room buf → ⊥
never_too_many_trailers buf short (front, rest, e, fields, reads, more) =
    let n : 3 * length fields ≤ length (front ++ print_end lf) = section_length (front ++ print_end lf) fields lf reads in
    let m : length buf ≡ length front + length rest = ap length e ∙ length-append front rest in
    omega (arith, length-append front (print_end lf))

pub never_too_many : (buf : List ℕ) → length buf ≤ head_limit → RequestExceeds field_room buf → ⊥
unfolding head_limit
never_too_many buf short (front, rest, e, h, reads, more) =
    let within : length buf ≤ 65536 = short in
    let n : 3 * length h.fields ≤ length (front ++ print_end lf) = head_length (front ++ print_end lf) h reads in
    let m : length buf ≡ length front + length rest = ap length e ∙ length-append front rest in
    omega (arith, length-append front (print_end lf))

-- a head of the first bytes is one of all of them
pub HasHead_part : (bytes : List ℕ) (h : RequestHead) (rest : List ℕ) → ReadsRequest (take head_limit bytes) h rest
    → HasHead bytes h (rest ++ drop head_limit bytes)
HasHead_part bytes h rest x = record {
  reads = subst (λ b. ReadsRequest b h (rest ++ drop head_limit bytes)) (take-append-drop head_limit bytes)
      (ReadsRequest-append (take head_limit bytes) h rest (drop head_limit bytes) x);
  short =
      let e : length (take head_limit bytes) ≡ length (print_request h) + length rest = ap length x.1 ∙ length-append (print_request h) rest in
      omega (arith, length-take head_limit bytes);
}

-- what isn't judged yet is open
pub open_unjudged : (bytes : List ℕ) → is_judged bytes ≡ false → IsOpen bytes
open_unjudged bytes e = record {
  none = λ h rest x. absurd (let t : is_judged bytes ≡ true = head_is_judged bytes h rest x in cc);
  hope = λ f. absurd (let t : is_judged bytes ≡ true = f.judged in cc);
}

-- what is judged, and may become a head, is open
pub open_partial : (bytes : List ℕ) → is_judged bytes ≡ true → HasNoRequest bytes → MayBecomeRequest bytes → IsOpen bytes
open_partial bytes e none may = record {
  none = none;
  hope = λ f. by_case f may;
}
  where
    by_case : HasNoFuture bytes → MayBecomeRequest bytes → ⊥
    by_case f (inl (more, h, x)) = f.never more h [] x
    by_case f (inr inside) = let t : is_judged bytes ≡ false = target_is_not_judged bytes inside in absurd (cc)
