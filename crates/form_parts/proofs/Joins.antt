-- The walk from part to part.
use Rattle.std.proofs.Common.{◌≡◌, ℕ, ◌-◌, ◌≤◌, List, [], ◌∷◌, ◌++◌, length, drop, map, true, false, eqb, refl, sym, ap, ◌∙◌, append_assoc, append-nil, ne_eqb, eq-eqb}
use Rattle.std.specs.Prelude.{All, ◌≢◌, Option, Some, None, option_map}
use Rattle.std.proofs.lemmas.List.{map-append}
use Rattle.form_parts.specs.declared.span.Span.{Span}
use Rattle.form_parts.specs.declared.mark.Mark.{Mark}
use Rattle.form_parts.specs.declared.mark.Mark.TheVariants.{Plain, Last}
use Rattle.form_parts.specs.Spans.{bytes_of, IsWithin}
use Rattle.form_parts.specs.Reading.{lines_of, inside, outside, split_of, parts_after, part_before}

-- what the parts so far and those from a place on make
pub record Joined (b body : List ℕ) (spans : List Span) (from : ℕ) : Type 0 where
  pub high : from ≤ length body
  pub inner : All (IsWithin body) spans
  pub same : outside b (lines_of body) ≡ option_map (λ ps. map (bytes_of body) spans ++ ps) (inside b [] (lines_of (drop from body)))

pub joined-fails : (b body : List ℕ) (spans : List Span) (from : ℕ) → Joined b body spans from → inside b [] (lines_of (drop from body)) ≡ None → split_of b body ≡ None
joined-fails b body spans from j none = j.same ∙ ap (option_map (λ ps. map (bytes_of body) spans ++ ps)) none

push_span : (body : List ℕ) (spans : List Span) (from place : ℕ) (tail : Option (List (List ℕ))) → from ≢ place
    → option_map (λ ps. map (bytes_of body) spans ++ ps) (part_before body from place tail)
    ≡ option_map (λ ps. map (bytes_of body) (spans ++ record { from = from; to = place - 2 } ∷ []) ++ ps) tail
push_span body spans from place None ne = let e : eqb from place ≡ false = ne_eqb from place ne in rw e refl
push_span body spans from place (Some ps) ne =
    let e : eqb from place ≡ false = ne_eqb from place ne in
    let s : Span = record { from = from; to = place - 2 } in
    rw e (ap Some (sym (ap (λ xs. xs ++ ps) (map-append (bytes_of body) spans (s ∷ [])) ∙ append_assoc (map (bytes_of body) spans) (bytes_of body s ∷ []) ps)))

-- one more part, and then what its delimiter says
pub joined-next : (b body : List ℕ) (spans : List Span) (from place next : ℕ) (m : Mark) → Joined b body spans from → (place ≡ from → ⊥)
    → inside b [] (lines_of (drop from body)) ≡ part_before body from place (parts_after b body m next)
    → outside b (lines_of body) ≡ option_map (λ ps. map (bytes_of body) (spans ++ record { from = from; to = place - 2 } ∷ []) ++ ps) (parts_after b body m next)
joined-next b body spans from place next m j ne part =
    j.same ∙ ap (option_map (λ ps. map (bytes_of body) spans ++ ps)) part ∙ push_span body spans from place (parts_after b body m next) (λ e. ne (sym e))

pub joined-last : (b body : List ℕ) (spans : List Span) (from place next : ℕ) → Joined b body spans from → (place ≡ from → ⊥)
    → inside b [] (lines_of (drop from body)) ≡ part_before body from place (parts_after b body Last next)
    → split_of b body ≡ Some (map (bytes_of body) (spans ++ record { from = from; to = place - 2 } ∷ []))
joined-last b body spans from place next j ne part =
    joined-next b body spans from place next Last j ne part ∙ ap Some (append-nil (map (bytes_of body) (spans ++ record { from = from; to = place - 2 } ∷ [])))

pub joined-plain : (b body : List ℕ) (spans : List Span) (from place next : ℕ) → Joined b body spans from → (place ≡ from → ⊥)
    → inside b [] (lines_of (drop from body)) ≡ part_before body from place (parts_after b body Plain next)
    → split_of b body ≡ None
joined-plain b body spans from place next j ne part = joined-next b body spans from place next Plain j ne part

pub joined-empty : (b body : List ℕ) (spans : List Span) (from place : ℕ) (tail : Option (List (List ℕ))) → Joined b body spans from → place ≡ from
    → inside b [] (lines_of (drop from body)) ≡ part_before body from place tail
    → split_of b body ≡ None
joined-empty b body spans from place tail j e part =
    let t : eqb from place ≡ true = eq-eqb from place (sym e) in
    let none : part_before body from place tail ≡ None = rw t refl in
    joined-fails b body spans from j (part ∙ none)
