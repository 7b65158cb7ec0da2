-- The relationships that go with an object.
use Rattle.std.specs.Prelude.{◌≡◌, Bool, false, ◌&&◌, map, filter, Some, unwrap_or, option_map}
use Rattle.std.specs.List.{list_any}
use Rattle.std.proofs.Common.{sym, ap, ◌∙◌, arith}
use Rattle.std.proofs.lemmas.List.Elements.{All-weaker}
use Rattle.cm_base.specs.declared.number.Oid.{Oid}
use Rattle.cm_base.specs.declared.object.Object.{Object}
use Rattle.cm_types.specs.declared.definition.BaseType.TheVariants as bases
use Rattle.cmis_spec.specs.Repository.{Repository, object_at, is_a}
use Rattle.cmis_spec.specs.Removal.{ends_of, is_id_of, is_tied}
use Rattle.cmis_spec.specs.Well.{IsWellFormed}
use Rattle.cmis_laws.proofs.Lists.{all_found}
use Rattle.cmis_laws.proofs.Left.{filter_map_swap}
use Rattle.cm_removal.specs.Steps.{is_tie}
use Rattle.cm_removal.proofs.Filters.{filter_twice, filter_same}

-- of the objects that name this one as an end, the relationships
pub ties_are : (r : Repository) → IsWellFormed r → (n : Oid) → filter (is_tie r) (map (λ x. x.id) (filter (λ x. list_any (is_id_of n) (ends_of x)) r.objects)) ≡ map (λ x. x.id) (filter (is_tied r n) r.objects)
ties_are r w n = sym (filter_map_swap (λ (x : Object). x.id) (is_tie r) (filter (λ x. list_any (is_id_of n) (ends_of x)) r.objects))
    ∙ ap (map (λ (x : Object). x.id)) (filter_twice (λ x. list_any (is_id_of n) (ends_of x)) (λ x. is_tie r x.id) r.objects
    ∙ filter_same (λ x. list_any (is_id_of n) (ends_of x) && is_tie r x.id) (is_tied r n) r.objects
    (All-weaker (λ x. object_at r x.id ≡ Some x) (λ x. (list_any (is_id_of n) (ends_of x) && is_tie r x.id) ≡ is_tied r n x)
    (λ x there. ap (λ o. list_any (is_id_of n) (ends_of x) && unwrap_or (option_map (is_a r bases.Relationship) o) false) there ∙ turned (list_any (is_id_of n) (ends_of x)) (is_a r bases.Relationship x))
    r.objects (all_found (λ x. x.id) r.objects w.numbers.0)))
  where
    turned : (a b : Bool) → (a && b) ≡ (b && a)
    turned a b = grind arith
