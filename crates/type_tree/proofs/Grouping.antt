-- One more type among those by their parents, and a type without subtypes.
use Rattle.std.proofs.Common.{◌≡◌, ◌∙◌, ℕ, zero, suc, ◌+◌, ◌-◌, Bool, true, false, List, [], ◌∷◌, ◌++◌, map, refl, sym, ap, arith, append_assoc, take, length, get_or, ◌<◌}
use Rattle.std.specs.Prelude.{filter, if◌then◌else◌, Option, Vec}
use Rattle.std.proofs.lemmas.List.{map-append, append-nil, take_more}
use Rattle.std.proofs.lemmas.List.Concat.{flat_map-append}
use Rattle.std.proofs.lemmas.List.Elements.{filter-append}
use denote.Ref.{Bor}
use Rattle.cm_map.specs.Parts.{pointee}
use Rattle.cm_types.specs.declared.definition.TypeDef.{TypeDef}
use Rattle.cm_types.specs.Types.{is_child_type, subtypes}
use Rattle.type_parts.specs.declared.replies.TypeRow.{TypeRow}
use Rattle.std.specs.List.{flat_map}
use Rattle.type_tree.specs.Groups.{HasGroups, group_in}
use Rattle.type_tree.specs.Trees.{rows_of}

pub pushed_if : (b : Bool) (d : Bor TypeDef) (xs : List (Bor TypeDef)) → map pointee (xs ++ (if b then d ∷ [] else [])) ≡ map pointee xs ++ (if b then d.now ∷ [] else [])
pushed_if true d xs = map-append pointee xs (d ∷ [])
pushed_if false d xs = map-append pointee xs []

pub groups_more : {A : Type 0} (at new : List ℕ → Option (Vec (Bor TypeDef) A)) (ts : List TypeDef) (t : TypeDef) → HasGroups at ts
    → ((id : List ℕ) → group_in (new id) ≡ group_in (at id) ++ filter (is_child_type id) (t ∷ [])) → HasGroups new (ts ++ t ∷ [])
groups_more at new ts t h put = record { each = λ id. put id ∙ ap (λ all. all ++ filter (is_child_type id) (t ∷ [])) (h.each id) ∙ sym (filter-append (is_child_type id) ts (t ∷ [])) }

pub no_rows : (levels : ℕ) (types : List TypeDef) (level : ℕ) → rows_of levels types level [] ≡ []
no_rows zero types level = refl
no_rows (suc n) types level = refl

-- one type more of a level, with the tree below it
pub rows_more : (levels level : ℕ) (types : List TypeDef) (ts : List TypeDef) (t : TypeDef) → ¬ levels ≡ 0
    → rows_of levels types level (ts ++ t ∷ []) ≡ rows_of levels types level ts ++ record { level = level; definition = t } ∷ rows_of (levels - 1) types (level + 1) (subtypes types t.id)
rows_more zero level types ts t h = absurd (h refl)
rows_more (suc n) level types ts t h =
    let e : suc n - 1 ≡ n = omega arith in
    rw e (flat_map-append (λ s. record { level = level; definition = s } ∷ rows_of n types (level + 1) (subtypes types s.id)) ts (t ∷ []) ∙ ap (λ all. flat_map (λ s. record { level = level; definition = s } ∷ rows_of n types (level + 1) (subtypes types s.id)) ts ++ all) (append-nil (record { level = level; definition = t } ∷ rows_of n types (level + 1) (subtypes types t.id))))

pub level_more : (levels level : ℕ) (types : List TypeDef) (first old added new : List TypeRow) (ts : List TypeDef) (t : TypeDef) → ¬ levels ≡ 0
    → old ≡ first ++ rows_of levels types level ts → added ≡ old ++ record { level = level; definition = t } ∷ []
    → new ≡ added ++ rows_of (levels - 1) types (level + 1) (subtypes types t.id) → new ≡ first ++ rows_of levels types level (ts ++ t ∷ [])
level_more levels level types first old added new ts t h o a n =
    n ∙ ap (λ all. all ++ rows_of (levels - 1) types (level + 1) (subtypes types t.id)) (a ∙ ap (λ all. all ++ record { level = level; definition = t } ∷ []) o)
    ∙ append_assoc (first ++ rows_of levels types level ts) (record { level = level; definition = t } ∷ []) (rows_of (levels - 1) types (level + 1) (subtypes types t.id))
    ∙ append_assoc first (rows_of levels types level ts) (record { level = level; definition = t } ∷ rows_of (levels - 1) types (level + 1) (subtypes types t.id))
    ∙ ap (λ all. first ++ all) (sym (rows_more levels level types ts t h))

pub shown_more : (ts : List (Bor TypeDef)) (i : ℕ) (t : Bor TypeDef) → i < length ts → t ≡ get_or ts i t → map pointee (take (i + 1) ts) ≡ map pointee (take i ts) ++ t.now ∷ []
shown_more ts i t lt is = ap (map pointee) (take_more ts i t lt ∙ ap (λ x. take i ts ++ x ∷ []) (sym is)) ∙ map-append pointee (take i ts) (t ∷ [])
