-- The values of a name, one more field at a time.
use Rattle.std.proofs.Common.{◌≡◌, ◌++◌, ◌∙◌, ◌<◌, ◌+◌, ℕ, List, [], ◌∷◌, length, take, map, Bool, true, false, refl, sym, ap, get_or, add-one}
use Rattle.std.specs.Prelude.{filter, if◌then◌else◌, ⊤, ◌&&◌, ◌||◌}
use Rattle.std.specs.List.{list_any}
use Rattle.std.proofs.lemmas.List.{map-append}
use Rattle.std.proofs.Math.Seq.{take-suc}
use Rattle.httparse.specs.Spans.{header_bytes, span_bytes}
use Rattle.httparse.specs.declared.spans.HeaderSpan.{HeaderSpan}
use Rattle.http_grammar.specs.Request.{FieldParts}
use Rattle.http_grammar.specs.Fields.{same_word, values_named}
use Rattle.http_wire.specs.Found.{fields_at, value_named, Finds}
use Rattle.http_wire.specs.declared.fields.Found.{Found}
use Rattle.http_wire.specs.declared.fields.Found.TheVariants.{Absent, One, Several}

-- there is a value
abbrev pub IsThere : Found → Type 0
IsThere Absent = ⊥
IsThere (One span) = ⊤
IsThere Several = ⊤

pub values_named-none : (name : List ℕ) → values_named name [] ≡ []
unfolding values_named
values_named-none name = refl

pub values_named-push : (name : List ℕ) (fields : List FieldParts) (field : FieldParts)
    → values_named name (fields ++ field ∷ []) ≡ values_named name fields ++ value_named name field
unfolding values_named
values_named-push name [] field = by_name (same_word field.0 name)
  where
    by_name : (t : Bool) → map (λ (f : FieldParts). f.1) (if t then field ∷ [] else []) ≡ (if t then field.1 ∷ [] else [])
    by_name true = refl
    by_name false = refl
values_named-push name (f ∷ fields) field = by_name (same_word f.0 name) (values_named-push name fields field)
  where
    by_name : (t : Bool) → map (λ (g : FieldParts). g.1) (filter (λ (g : FieldParts). same_word g.0 name) (fields ++ field ∷ [])) ≡ map (λ (g : FieldParts). g.1) (filter (λ (g : FieldParts). same_word g.0 name) fields) ++ value_named name field
        → map (λ (g : FieldParts). g.1) (if t then f ∷ filter (λ (g : FieldParts). same_word g.0 name) (fields ++ field ∷ []) else filter (λ (g : FieldParts). same_word g.0 name) (fields ++ field ∷ []))
        ≡ map (λ (g : FieldParts). g.1) (if t then f ∷ filter (λ (g : FieldParts). same_word g.0 name) fields else filter (λ (g : FieldParts). same_word g.0 name) fields) ++ value_named name field
    by_name true e = ap (λ (t : List (List ℕ)). f.1 ∷ t) e
    by_name false e = e

-- the values among the first spans, and one more
pub values_at-more : (name text : List ℕ) (spans : List HeaderSpan) (i : ℕ) (d : HeaderSpan) → i < length spans
    → values_named name (fields_at text (take i spans)) ++ value_named name (header_bytes text (get_or spans i d)) ≡ values_named name (fields_at text (take (i + 1) spans))
values_at-more name text spans i d more =
    let e : take (i + 1) spans ≡ take i spans ++ get_or spans i d ∷ [] = rw add-one (take-suc spans i d more) in
    sym (ap (λ (s : List HeaderSpan). values_named name (fields_at text s)) e
    ∙ ap (values_named name) (map-append (header_bytes text) (take i spans) (get_or spans i d ∷ []))
    ∙ values_named-push name (fields_at text (take i spans)) (header_bytes text (get_or spans i d)))

-- one more value
pub finds-one_more : (text : List ℕ) (values : List (List ℕ)) (found : Found) (value : List ℕ) → Finds text values found → IsThere found
    → Finds text (values ++ value ∷ []) Several
finds-one_more text values Absent value f there = absurd there
finds-one_more text values (One span) value f there = (span_bytes text span, value, [], ap (λ (v : List (List ℕ)). v ++ value ∷ []) f.1)
finds-one_more text values Several value (a, b, rest, e) there = (a, b, rest ++ value ∷ [], ap (λ (v : List (List ℕ)). v ++ value ∷ []) e)

-- a value of a name passes a test
pub any_named : (test : List ℕ → Bool) (name text : List ℕ) (spans : List HeaderSpan)
    → list_any test (values_named name (fields_at text spans)) ≡ list_any (λ s. same_word (header_bytes text s).0 name && test (header_bytes text s).1) spans
unfolding values_named
any_named test name text [] = refl
any_named test name text (s ∷ spans) = by_name (same_word (header_bytes text s).0 name) (any_named test name text spans)
  where
    by_name : (t : Bool) → list_any test (map (λ (f : FieldParts). f.1) (filter (λ (f : FieldParts). same_word f.0 name) (fields_at text spans))) ≡ list_any (λ s. same_word (header_bytes text s).0 name && test (header_bytes text s).1) spans
        → list_any test (map (λ (f : FieldParts). f.1) (if t then header_bytes text s ∷ filter (λ (f : FieldParts). same_word f.0 name) (fields_at text spans) else filter (λ (f : FieldParts). same_word f.0 name) (fields_at text spans)))
        ≡ ((t && test (header_bytes text s).1) || list_any (λ s. same_word (header_bytes text s).0 name && test (header_bytes text s).1) spans)
    by_name true e = ap (λ (u : Bool). test (header_bytes text s).1 || u) e
    by_name false e = e
