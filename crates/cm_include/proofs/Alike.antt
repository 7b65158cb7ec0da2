-- What is shown of an object that is seen alike in two repositories is the same.
use Rattle.std.specs.Prelude.{◌≡◌, ℕ, Bool, List, [], ◌∷◌, map, decimal, All, Some}
use Rattle.std.proofs.Common.{refl, sym, ap, ◌∙◌}
use Rattle.std.proofs.lemmas.List.Elements.{All-weaker}
use Rattle.cm_base.specs.declared.number.Oid.{Oid}
use Rattle.cm_base.specs.declared.object.Object.{Object}
use Rattle.call_parts.specs.declared.readings.PropertyFilter.{PropertyFilter}
use Rattle.call_parts.specs.declared.readings.PropertyFilter.TheVariants as properties
use Rattle.relationship_parts.specs.declared.readings.Direction.{Direction}
use Rattle.relationship_parts.specs.declared.readings.Direction.TheVariants as directions
use Rattle.rendition_parts.specs.declared.filter.RenditionFilter.{RenditionFilter}
use Rattle.include_parts.specs.declared.readings.IncludeRelationships.{IncludeRelationships}
use Rattle.include_parts.specs.declared.readings.IncludeRelationships.TheVariants as asks
use Rattle.include_parts.specs.declared.readings.Includes.{Includes}
use Rattle.cmis_spec.specs.Repository.{Repository}
use Rattle.cmis_spec.specs.Access.{policies_of}
use Rattle.rd_access.specs.ReadAcl.{acl_reply, shown_aces}
use Rattle.cm_actions.specs.Allowed.{actions_of}
use Rattle.rd_lists.proofs.Among.{all_shown_alike}
use Rattle.cm_relationships.specs.Found.{relationships_of}
use Rattle.cm_see.specs.Shown.{shown_object}
use Rattle.cm_actions.proofs.Alike.{actions_alike}
use Rattle.cm_renditions.proofs.Alike.{renditions_alike}
use Rattle.cm_include.proofs.Related.{relationships_alike}
use Rattle.cm_include.specs.Included.{asks_for_some, if_asked, included_object, policy_ids, relationships_asked, renditions_asked, shown_beside, shown_relationships}
use Rattle.cm_see.proofs.SeenLists.{map_same}
use Rattle.cm_see.proofs.SeenShown.{shown_alike}
use Rattle.cm_see.proofs.Worlds.{AreAlike, IsAlike}

ids_by_numbers : (xs : List Object) → map (λ p. decimal p.id.0) xs ≡ map (λ n. decimal n.0) (map (λ p. p.id) xs)
ids_by_numbers [] = refl
ids_by_numbers (x ∷ xs) = ap (λ ids. decimal x.id.0 ∷ ids) (ids_by_numbers xs)

module _ (r other : Repository) (u : List ℕ) (a : AreAlike r other u) (x : Object) (h : IsAlike r other u x) where
  policy_ids_alike : policy_ids r u x ≡ policy_ids other u x
  policy_ids_alike = ids_by_numbers (policies_of r u x.id) ∙ (ap (λ o. map (λ (n : Oid). decimal n.0) o.policies) h.alike ∙ sym (ids_by_numbers (policies_of other u x.id)))

  shown_relationships_alike : (succinct : Bool) (direction : Direction) → shown_relationships r u succinct direction x ≡ shown_relationships other u succinct direction x
  shown_relationships_alike succinct direction =
      let found = relationships_alike r other u a direction x.id in
      all_shown_alike r other u a properties.All succinct (relationships_of r u direction x.id) found.each
      ∙ ap (map (shown_object other u properties.All succinct)) found.same

  relationships_asked_alike : (succinct : Bool) (i : IncludeRelationships) → relationships_asked r u succinct i x ≡ relationships_asked other u succinct i x
  relationships_asked_alike succinct asks.Nothing = refl
  relationships_asked_alike succinct asks.Source = ap Some (shown_relationships_alike succinct directions.Source)
  relationships_asked_alike succinct asks.Target = ap Some (shown_relationships_alike succinct directions.Target)
  relationships_asked_alike succinct asks.Both = ap Some (shown_relationships_alike succinct directions.Either)

  renditions_asked_alike : (f : RenditionFilter) → renditions_asked r f x ≡ renditions_asked other f x
  renditions_asked_alike f = ap (if_asked (asks_for_some f)) (renditions_alike r other u f x h)

  pub beside_alike : (succinct : Bool) (i : Includes) → shown_beside r u succinct i x ≡ shown_beside other u succinct i x
  beside_alike succinct i =
      let actions : if_asked i.actions (actions_of r u x) ≡ if_asked i.actions (actions_of other u x) = ap (if_asked i.actions) (actions_alike r other u a x h) in
      let relationships = relationships_asked_alike succinct i.relationships in
      let renditions = renditions_asked_alike i.renditions in
      let policies : if_asked i.policy_ids (policy_ids r u x) ≡ if_asked i.policy_ids (policy_ids other u x) = ap (if_asked i.policy_ids) policy_ids_alike in
      let acl : if_asked i.acl (acl_reply r x) ≡ if_asked i.acl (acl_reply other x) = ap (λ o. if_asked i.acl (record { aces = shown_aces o.aces })) h.alike in
      (λ k. record {
        actions = actions k;
        relationships = relationships k;
        renditions = renditions k;
        policy_ids = policies k;
        acl = acl k;
      })

  pub included_alike : (f : PropertyFilter) (succinct : Bool) (i : Includes) → included_object r u f succinct i x ≡ included_object other u f succinct i x
  included_alike f succinct i =
      let object = shown_alike r other u a x h f succinct in
      let beside = beside_alike succinct i in
      (λ k. record { object = object k; beside = beside k })

-- objects that are seen alike are shown alike
pub all_included_alike : (r other : Repository) (u : List ℕ) (a : AreAlike r other u) (f : PropertyFilter) (succinct : Bool) (i : Includes) (xs : List Object) → All (IsAlike r other u) xs
    → map (included_object r u f succinct i) xs ≡ map (included_object other u f succinct i) xs
all_included_alike r other u a f succinct i xs each = map_same (included_object r u f succinct i) (included_object other u f succinct i) xs
    (All-weaker (IsAlike r other u) (λ x. included_object r u f succinct i x ≡ included_object other u f succinct i x) (λ x h. included_alike r other u a x h f succinct i) xs each)
