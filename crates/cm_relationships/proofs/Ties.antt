-- The relationships of an object, by the numbers of what names it as an end.
use Rattle.std.specs.Prelude.{◌≡◌, ℕ, Bool, true, false, ◌&&◌, ◌||◌, if◌then◌else◌, List, [], ◌∷◌, map, filter, All, Some, None, unwrap_or, option_map, option_and_then, codes}
use Rattle.std.specs.List.{list_any, filter_map}
use Rattle.core.specs.List.{cons_option}
use Rattle.std.proofs.Common.{refl, ap, ◌∙◌}
use Rattle.std.proofs.lemmas.Bool.{and_parts, both_ways}
use Rattle.std.proofs.lemmas.List.Folds.{list_any-append}
use Rattle.std.proofs.lemmas.List.Elements.{All-head, All-tail}
use Rattle.cm_base.specs.declared.number.Oid.{Oid}
use Rattle.cm_base.specs.declared.object.Object.{Object}
use Rattle.cm_base.specs.declared.value.Scalar.{Scalar}
use Rattle.cm_types.specs.declared.definition.BaseType.TheVariants as bases
use Rattle.cm_types.specs.Properties.{value_in, texts_of, text_of_scalar}
use Rattle.relationship_parts.specs.declared.readings.Direction.{Direction}
use Rattle.relationship_parts.specs.declared.readings.Direction.TheVariants as directions
use Rattle.cmis_spec.specs.Repository.{Repository, is_a, object_at}
use Rattle.cmis_spec.specs.Access.{reads}
use Rattle.cmis_spec.specs.Removal.{ends_of, is_id_of}
use Rattle.cmis_spec.specs.Well.{HasNumbers}
use Rattle.cmis_laws.proofs.Lists.{by_test}
use Rattle.cmis_laws.proofs.Entries.{all_there}
use Rattle.cm_state.specs.Looks.{tied_to}
use Rattle.cm_relationships.specs.Found.{has_end, is_end, is_related, names, related_at, relationships_of}

-- the texts of a value name the object exactly where one of its scalars does
pub any_text : (n : Oid) (ss : List Scalar) → list_any (names n) ss ≡ list_any (is_id_of n) (filter_map text_of_scalar ss)
any_text n [] = refl
any_text n (s ∷ ss) = elim (text_of_scalar s) as (λ o. (unwrap_or (option_map (is_id_of n) o) false || list_any (names n) ss) ≡ list_any (is_id_of n) (cons_option o (filter_map text_of_scalar ss))) [
  | None ↦ any_text n ss
  | Some t ↦ ap (λ b. is_id_of n t || b) (any_text n ss)
]

-- what has the object at an end that is asked for names it among its ends
or_left : (a b : Bool) → a ≡ true → (a || b) ≡ true
or_left true b e = refl
or_left false b e = absurd (both_ways false refl e)

or_right : (a b : Bool) → b ≡ true → (a || b) ≡ true
or_right true b e = refl
or_right false b e = e

ends_apart : (n : Oid) (x : Object) → list_any (is_id_of n) (ends_of x) ≡ (is_end n (codes "cmis:sourceId") x || is_end n (codes "cmis:targetId") x)
ends_apart n x = list_any-append (is_id_of n) (texts_of (value_in x.values (codes "cmis:sourceId"))) (texts_of (value_in x.values (codes "cmis:targetId")))

named_as_end : (direction : Direction) (n : Oid) (x : Object) → has_end direction n x ≡ true → list_any (is_id_of n) (ends_of x) ≡ true
named_as_end directions.Source n x e = ends_apart n x ∙ or_left (is_end n (codes "cmis:sourceId") x) (is_end n (codes "cmis:targetId") x) e
named_as_end directions.Target n x e = ends_apart n x ∙ or_right (is_end n (codes "cmis:sourceId") x) (is_end n (codes "cmis:targetId") x) e
named_as_end directions.Either n x e = ends_apart n x ∙ e

-- of the numbers of what passes a test, the objects that pass a narrower one
narrowed : (r : Repository) (p q : Object → Bool) (xs : List Object) → ((x : Object) → p x ≡ true → q x ≡ true) → All (λ x. object_at r x.id ≡ Some x) xs
    → filter_map (λ m. option_and_then (λ x. if p x then Some x else None) (object_at r m)) (map (λ x. x.id) (filter q xs)) ≡ filter p xs
narrowed r p q [] h there = refl
narrowed r p q (x ∷ xs) h there =
    let at : object_at r x.id ≡ Some x = All-head (λ x. object_at r x.id ≡ Some x) x xs there in
    let rest = narrowed r p q xs h (All-tail (λ x. object_at r x.id ≡ Some x) x xs there) in
    by_test (p x)
    (λ e. rw (e, h x e, at, e) (ap (λ ys. x ∷ ys) rest))
    (λ e. by_test (q x)
    (λ d. rw (e, d, at, e) rest)
    (λ d. rw (e, d) rest))

pub related_found : (r : Repository) (u : List ℕ) (direction : Direction) (n : Oid) → HasNumbers r → filter_map (related_at r u direction n) (tied_to r n) ≡ relationships_of r u direction n
related_found r u direction n w = narrowed r (λ x. is_related r direction n x && reads r u x) (λ x. list_any (is_id_of n) (ends_of x)) r.objects
    (λ x e. named_as_end direction n x (and_parts (is_a r bases.Relationship x) (has_end direction n x) (and_parts (is_related r direction n x) (reads r u x) e).0).1)
    (all_there r.objects w.0)
