-- The place of a part's content.
use Rattle.std.proofs.Common.{◌≡◌, ℕ, ◌+◌, ◌-◌, ◌≤◌, List, length, take, drop, sym, ap, ◌∙◌, arith}
use Rattle.std.proofs.lemmas.List.{drop-drop, drop-take, length-take-le, length-drop}
use Rattle.std.specs.Prelude.{Result, Some}
use Rattle.cm_base.specs.declared.fail.Fail.{Fail}
use Rattle.cm_base.specs.Judged.{Meets}
use Rattle.http_grammar.specs.Request.{FieldParts}
use Rattle.form_parts.specs.declared.part.Part.{Part}
use Rattle.form_parts.specs.declared.span.Span.{Span}
use Rattle.form_parts.specs.Heads.{head_of}
use Rattle.form_parts.specs.Parts.{part_in, part_of}
use Rattle.form_parts.specs.Spans.{bytes_of, IsWithin}

pub length_of : (body : List ℕ) (at : Span) → IsWithin body at → length (bytes_of body at) ≡ at.to - at.from
length_of body at w =
    let ordered = w.ordered in let within = w.within in
    length-take-le (at.to - at.from) (drop at.from body) (omega (arith, ordered, within, length-drop at.from body))

-- the content of a part ends where the part ends
pub content_at : (body content : List ℕ) (at : Span) → IsWithin body at → length content ≤ length (bytes_of body at) → content ≡ drop (length (bytes_of body at) - length content) (bytes_of body at)
    → bytes_of body (record { from = at.to - length content; to = at.to }) ≡ content
content_at body content at w short last =
    let ordered = w.ordered in
    let len = length_of body at w in
    let k : ℕ = length (bytes_of body at) - length content in
    let size : at.to - (at.to - length content) ≡ length content = omega (arith, ordered, len, short) in
    let place : at.to - length content ≡ at.from + k = omega (arith, ordered, len, short) in
    let all : k + length content ≡ at.to - at.from = omega (arith, len, short) in
    ap (λ n. take n (drop (at.to - length content) body)) size
    ∙ ap (λ n. take (length content) (drop n body)) place
    ∙ ap (take (length content)) (sym (drop-drop k at.from body))
    ∙ sym (drop-take k (length content) (drop at.from body))
    ∙ ap (λ n. drop k (take n (drop at.from body))) all
    ∙ sym last

-- a part with a head is what its fields and its content make it
pub part_found : (r : Result Part Fail) (body slice content : List ℕ) (fields given : List FieldParts) (at : Span) → IsWithin body at → slice ≡ body
    → Some (fields, content) ≡ head_of (bytes_of slice at) → length content ≤ length (bytes_of slice at) → content ≡ drop (length (bytes_of slice at) - length content) (bytes_of slice at)
    → given ≡ fields → Meets (λ p. p) r (part_in (given, bytes_of body (record { from = at.to - length content; to = at.to })))
    → Meets (λ p. p) r (part_of (bytes_of body at))
part_found r body slice content fields given at within is head short last same meets =
    let place = content_at body content at within (rw is at short) (rw is at last) in
    let made : Meets (λ p. p) r (part_in (fields, content)) = rw (same, place) at meets in
    let found : head_of (bytes_of body at) ≡ Some (fields, content) = sym (rw is at head) in
    rw found made
