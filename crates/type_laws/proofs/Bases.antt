-- The base types in a list of types: they are neither changed nor removed, and what defines no property of theirs is none of the properties that are kept beside the others.
use Rattle.std.specs.Prelude.{◌≡◌, ℕ, true, false, ◌||◌, List, [], ◌∷◌, All, Some, bytes_eq, codes}
use Rattle.std.specs.List.{list_any}
use Rattle.std.proofs.Common.{refl, sym, ap, subst, ◌∙◌}
use Rattle.std.proofs.lemmas.Bool.{both_ways, or_from}
use Rattle.std.proofs.lemmas.List.Elements.{All-nil, All-head, All-tail, All-weaker, All-from_recursion}
use Rattle.cm_types.specs.declared.definition.TypeDef.{TypeDef}
use Rattle.cm_types.specs.declared.definition.BaseType.TheVariants as bases
use Rattle.cm_types.specs.declared.property.PropDef.{PropDef}
use Rattle.cm_types.specs.Types.{type_in}
use Rattle.cm_types.specs.Changes.{clashes, is_taken_prop}
use Rattle.cm_types.specs.BaseTypes.{base_types, base_row, first_types}
use Rattle.cmis_spec.specs.Values.{is_apart}
use Rattle.cmis_spec.specs.Well.{HasBases, TakesTexts}
use Rattle.cmis_laws.proofs.Lists.{by_test, found_holds, all_from_any, all_zip, some_eq}
use Rattle.cmis_laws.proofs.Passed.{or_left}
use Rattle.cmis_laws.proofs.Kept.{bytes_true}
use Rattle.type_laws.proofs.Placing.{ordered_all}

-- ---- the rows

abbrev pub IsFixed : TypeDef → Type 0
IsFixed t = (t.mutability.update ≡ false) × (t.mutability.delete ≡ false)

pub bases_fixed : All IsFixed base_types
bases_fixed = ordered_all IsFixed (λ t. t.id) [] first_types (All-nil IsFixed) (All-from_recursion IsFixed first_types (
  (refl, refl),
  (
    (refl, refl),
    (
      (refl, refl),
      (
        (refl, refl),
        (
          (refl, refl),
          (
            (refl, refl),
            (
              (refl, refl),
              ((refl, refl), tt),
            ),
          ),
        ),
      ),
    ),
  ),
))

-- ---- in a list of types

module _ (types : List TypeDef) (has : HasBases types) where
  pub document_there : type_in types (codes "cmis:document") ≡ Some (base_row bases.Document)
  unfolding HasBases
  document_there = found_holds (λ b. type_in types b.id ≡ Some b) (λ b. bytes_eq b.id (codes "cmis:document")) base_types (base_row bases.Document) has refl

  -- a type that may be changed, or removed, is no base type
  pub no_base : (id : List ℕ) (t : TypeDef) → type_in types id ≡ Some t → (IsFixed t → ⊥) → All (λ b. bytes_eq b.id id ≡ false) base_types
  unfolding HasBases
  no_base id t there free = all_zip IsFixed (λ b. type_in types b.id ≡ Some b) (λ b. bytes_eq b.id id ≡ false) base_types
      (λ b f h. by_test (bytes_eq b.id id)
      (λ e. absurd (free (subst IsFixed (some_eq b t (sym h ∙ (ap (type_in types) (bytes_true b.id id e) ∙ there))) f)))
      (λ e. e)) bases_fixed has

  -- ---- a property that no type defines

  -- it is none of these
  not_of : (d : PropDef) (id : List ℕ) (es : List PropDef) → list_any (λ (e : PropDef). bytes_eq id e.id) es ≡ true → All (λ (e : PropDef). bytes_eq d.id e.id ≡ false) es → bytes_eq d.id id ≡ false
  not_of d id [] h all = absurd (both_ways false refl h)
  not_of d id (e ∷ es) h all = by_test (bytes_eq id e.id)
      (λ k. subst (λ i. bytes_eq d.id i ≡ false) (sym (bytes_true id e.id k)) (All-head (λ (e : PropDef). bytes_eq d.id e.id ≡ false) e es all))
      (λ k. not_of d id es (rw k at h) (All-tail (λ (e : PropDef). bytes_eq d.id e.id ≡ false) e es all))

  pub free_of : (d : PropDef) (id : List ℕ) (t : TypeDef) → is_taken_prop types d ≡ false → type_in types id ≡ Some t → All (λ (e : PropDef). clashes d e ≡ false) t.properties
  free_of d id t free there = found_holds (λ (s : TypeDef). All (λ (e : PropDef). clashes d e ≡ false) s.properties) (λ s. bytes_eq s.id id) types t
      (All-weaker (λ (s : TypeDef). list_any (clashes d) s.properties ≡ false) (λ (s : TypeDef). All (λ (e : PropDef). clashes d e ≡ false) s.properties) (λ s. all_from_any (clashes d) s.properties) types
      (all_from_any (λ (s : TypeDef). list_any (clashes d) s.properties) types free)) there

  not_in_document : (d : PropDef) (id : List ℕ) → is_taken_prop types d ≡ false → list_any (λ (e : PropDef). bytes_eq id e.id) (base_row bases.Document).properties ≡ true → bytes_eq d.id id ≡ false
  not_in_document d id free h = not_of d id (base_row bases.Document).properties h
      (All-weaker (λ (e : PropDef). clashes d e ≡ false) (λ (e : PropDef). bytes_eq d.id e.id ≡ false) (λ e. or_left (bytes_eq d.id e.id) (bytes_eq d.query_name e.query_name)) (base_row bases.Document).properties
      (free_of d (codes "cmis:document") (base_row bases.Document) free document_there))

  no_name : (d : PropDef) → is_taken_prop types d ≡ false → bytes_eq d.id (codes "cmis:name") ≡ false
  no_name d free = not_in_document d (codes "cmis:name") free refl

  no_type : (d : PropDef) → is_taken_prop types d ≡ false → bytes_eq d.id (codes "cmis:objectTypeId") ≡ false
  no_type d free = not_in_document d (codes "cmis:objectTypeId") free refl

  no_secondary : (d : PropDef) → is_taken_prop types d ≡ false → bytes_eq d.id (codes "cmis:secondaryObjectTypeIds") ≡ false
  no_secondary d free = not_in_document d (codes "cmis:secondaryObjectTypeIds") free refl

  no_comment : (d : PropDef) → is_taken_prop types d ≡ false → bytes_eq d.id (codes "cmis:checkinComment") ≡ false
  no_comment d free = not_in_document d (codes "cmis:checkinComment") free refl

  pub not_apart : (d : PropDef) → is_taken_prop types d ≡ false → is_apart d.id ≡ false
  not_apart d free = or_from (bytes_eq d.id (codes "cmis:name") || bytes_eq d.id (codes "cmis:objectTypeId")) (bytes_eq d.id (codes "cmis:secondaryObjectTypeIds"))
      (or_from (bytes_eq d.id (codes "cmis:name")) (bytes_eq d.id (codes "cmis:objectTypeId")) (no_name d free) (no_type d free)) (no_secondary d free)

  pub takes_texts : (d : PropDef) → is_taken_prop types d ≡ false → TakesTexts d
  takes_texts d free = (
    (λ h. absurd (both_ways (bytes_eq d.id (codes "cmis:name") || bytes_eq d.id (codes "cmis:objectTypeId"))
        (or_from (bytes_eq d.id (codes "cmis:name")) (bytes_eq d.id (codes "cmis:objectTypeId")) (no_name d free) (no_type d free)) h)),
    (λ h. absurd (both_ways (bytes_eq d.id (codes "cmis:secondaryObjectTypeIds")) (no_secondary d free) h)),
    (λ h. absurd (both_ways (bytes_eq d.id (codes "cmis:checkinComment")) (no_comment d free) h)),
  )
