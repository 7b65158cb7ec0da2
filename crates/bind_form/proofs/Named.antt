-- The fields of a name, from one place of the head on, and what is read of them.
use Rattle.std.proofs.Common.{◌≡◌, ℕ, ◌+◌, ◌<◌, ◌≤◌, true, false, List, [], ◌∷◌, length, drop, get_or, refl, ap, ◌∙◌, add-one, arith, drop-cons}
use Rattle.std.proofs.lemmas.List.{drop_all}
use Rattle.http_grammar.specs.Request.{FieldParts, Head}
use Rattle.http_grammar.specs.Fields.{same_word, values_named}
use Rattle.bind_form.specs.Forms.{content_type, form_by, form_in}

kept : (name : List ℕ) (field : FieldParts) (rest : List FieldParts) → same_word field.0 name ≡ true → values_named name (field ∷ rest) ≡ field.1 ∷ values_named name rest
unfolding values_named
kept name field rest e = rw e refl

passed : (name : List ℕ) (field : FieldParts) (rest : List FieldParts) → same_word field.0 name ≡ false → values_named name (field ∷ rest) ≡ values_named name rest
unfolding values_named
passed name field rest e = rw e refl

-- a field of the name counts
pub named_here : (name : List ℕ) (fields : List FieldParts) (i : ℕ) (d : FieldParts) → i < length fields → same_word (get_or fields i d).0 name ≡ true
    → values_named name (drop i fields) ≡ (get_or fields i d).1 ∷ values_named name (drop (i + 1) fields)
named_here name fields i d lt e = ap (λ fs. values_named name fs) (rw (add-one, drop-cons fields i d) refl) ∙ kept name (get_or fields i d) (drop (i + 1) fields) e

-- another does not
pub named_later : (name : List ℕ) (fields : List FieldParts) (i : ℕ) (d : FieldParts) → i < length fields → same_word (get_or fields i d).0 name ≡ false
    → values_named name (drop i fields) ≡ values_named name (drop (i + 1) fields)
named_later name fields i d lt e = ap (λ fs. values_named name fs) (rw (add-one, drop-cons fields i d) refl) ∙ passed name (get_or fields i d) (drop (i + 1) fields) e

pub named_none : (name : List ℕ) (fields : List FieldParts) (i : ℕ) → length fields ≡ i → values_named name (drop i fields) ≡ []
unfolding values_named
named_none name fields i e = ap (λ fs. values_named name fs) (drop_all i fields (omega arith))

-- a body that is not empty is read by its media type
pub form_of_some : (head : Head) (body : List ℕ) → 1 ≤ length body → form_in head body ≡ form_by (content_type head) body
form_of_some head [] lt = absurd (omega arith)
form_of_some head (b ∷ bs) lt = refl
