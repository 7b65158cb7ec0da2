-- The relationships that are seen alike in two repositories are the same.
use Rattle.std.specs.Prelude.{◌≡◌, ℕ, Bool, true, false, ◌&&◌, List, [], ◌∷◌, map, filter, Some}
use Rattle.std.proofs.Common.{refl, sym, ap, ◌∙◌}
use Rattle.std.proofs.lemmas.List.Elements.{All-weaker}
use Rattle.cm_base.specs.declared.number.Oid.{Oid}
use Rattle.cm_base.specs.declared.object.Object.{Object}
use Rattle.cm_types.specs.declared.definition.TypeDef.{TypeDef}
use Rattle.cm_types.specs.declared.definition.BaseType.TheVariants as bases
use Rattle.cm_types.specs.Types.{is_of_base}
use Rattle.relationship_parts.specs.declared.readings.Direction.{Direction}
use Rattle.cmis_spec.specs.Repository.{Repository, object_at}
use Rattle.cmis_spec.specs.Access.{reads}
use Rattle.cmis_spec.specs.Seen.{SeenObject, seen, seen_object}
use Rattle.cmis_spec.specs.Well.{HasNumbers}
use Rattle.cmis_laws.proofs.Entries.{all_there}
use Rattle.cm_see.proofs.SeenLists.{filter_seen}
use Rattle.cm_see.proofs.Worlds.{AreAlike, AreFound}
use Rattle.rd_lists.proofs.Among.{numbered_alike, passing_here}
use Rattle.cm_relationships.specs.Found.{has_end, is_related, relationships_of}

and_true : (b : Bool) → (b && true) ≡ b
and_true true = refl
and_true false = refl

and_false : (b : Bool) → (b && false) ≡ false
and_false true = refl
and_false false = refl

-- a relationship, by what is seen of it
abbrev shows : List TypeDef → Direction → Oid → SeenObject → Bool
shows types direction n o = is_of_base types bases.Relationship o.object.kind && has_end direction n o.object

sees_relationships : (r : Repository) (u : List ℕ) (direction : Direction) (n : Oid) → HasNumbers r
    → map (seen_object r u) (relationships_of r u direction n) ≡ filter (shows r.types direction n) (seen r u).objects
sees_relationships r u direction n w = filter_seen (seen_object r u) (reads r u) (λ x. is_related r direction n x && reads r u x) (shows r.types direction n) r.objects
    (λ x e. rw e (and_false (is_related r direction n x)))
    (All-weaker (λ x. object_at r x.id ≡ Some x) (λ x. reads r u x ≡ true → (is_related r direction n x && reads r u x) ≡ shows r.types direction n (seen_object r u x))
    (λ x there e. rw e (and_true (is_related r direction n x)))
    r.objects (all_there r.objects w.0))

numbers_of : (r : Repository) (u : List ℕ) (xs : List Object) → map (λ s. s.object.id) (map (seen_object r u) xs) ≡ map (λ x. x.id) xs
numbers_of r u [] = refl
numbers_of r u (x ∷ xs) = ap (λ ns. x.id ∷ ns) (numbers_of r u xs)

pub relationships_alike : (r other : Repository) (u : List ℕ) → AreAlike r other u → (direction : Direction) (n : Oid)
    → AreFound r other u (relationships_of r u direction n) (relationships_of other u direction n)
relationships_alike r other u a direction n =
    let e : map (seen_object r u) (relationships_of r u direction n) ≡ map (seen_object other u) (relationships_of other u direction n) =
    sees_relationships r u direction n a.well.numbers
    ∙ (ap (λ s. filter (shows s.types direction n) s.objects) (sym a.alike)
    ∙ sym (sees_relationships other u direction n a.other_well.numbers)) in
    numbered_alike r other u a (relationships_of r u direction n) (relationships_of other u direction n)
    (passing_here r u (is_related r direction n) a.well.numbers) (passing_here other u (is_related other direction n) a.other_well.numbers)
    (sym (numbers_of r u (relationships_of r u direction n)) ∙ (ap (map (λ s. s.object.id)) e ∙ numbers_of other u (relationships_of other u direction n)))
