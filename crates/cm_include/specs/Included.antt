-- What is shown of an object: its properties, and of the rest what is asked for (CMIS 1.1, section 2.2.1.2).
use Rattle.std.specs.Prelude.{ℕ, Bool, true, false, if◌then◌else◌, List, map, decimal, Option, Some, None}
use Rattle.cm_base.specs.declared.object.Object.{Object}
use Rattle.call_parts.specs.declared.readings.PropertyFilter.{PropertyFilter}
use Rattle.call_parts.specs.declared.readings.PropertyFilter.TheVariants as properties
use Rattle.call_parts.specs.declared.replies.ShownObject.{ShownObject}
use Rattle.relationship_parts.specs.declared.readings.Direction.{Direction}
use Rattle.relationship_parts.specs.declared.readings.Direction.TheVariants as directions
use Rattle.rendition_parts.specs.declared.filter.RenditionFilter.{RenditionFilter}
use Rattle.rendition_parts.specs.declared.filter.RenditionFilter.TheVariants as filters
use Rattle.rendition_parts.specs.declared.replies.ShownRendition.{ShownRendition}
use Rattle.include_parts.specs.declared.readings.IncludeRelationships.{IncludeRelationships}
use Rattle.include_parts.specs.declared.readings.IncludeRelationships.TheVariants as asks
use Rattle.include_parts.specs.declared.readings.Includes.{Includes}
use Rattle.include_parts.specs.declared.replies.IncludedObject.{IncludedObject}
use Rattle.include_parts.specs.declared.replies.ShownBeside.{ShownBeside}
use Rattle.cmis_spec.specs.Repository.{Repository}
use Rattle.cmis_spec.specs.Access.{policies_of}
use Rattle.cm_see.specs.Shown.{shown_object}
use Rattle.cm_actions.specs.Allowed.{actions_of}
use Rattle.cm_relationships.specs.Found.{relationships_of}
use Rattle.cm_renditions.specs.Shown.{shown_renditions}
use Rattle.cm_include.specs.declared.included.View.{View}
use Rattle.rd_access.specs.ReadAcl.{acl_reply}

-- the ids of the policies that are applied to the object, of those that the caller reads, in the order of their numbers
abbrev pub policy_ids : Repository → List ℕ → Object → List (List ℕ)
policy_ids r u x = map (λ p. decimal p.id.0) (policies_of r u x.id)

-- what is asked for
abbrev pub if_asked : {A : Type 0} → Bool → A → Option A
if_asked asked x = if asked then Some x else None

-- relationships that the caller reads, each with all its properties and nothing else, in the form of the object itself
abbrev pub shown_relationships : Repository → List ℕ → Bool → Direction → Object → List ShownObject
shown_relationships r u succinct direction x = map (shown_object r u properties.All succinct) (relationships_of r u direction x.id)

-- those of which the object is the source, the target, or either
abbrev pub relationships_asked : Repository → List ℕ → Bool → IncludeRelationships → Object → Option (List ShownObject)
relationships_asked r u succinct asks.Nothing x = None
relationships_asked r u succinct asks.Source x = Some (shown_relationships r u succinct directions.Source x)
relationships_asked r u succinct asks.Target x = Some (shown_relationships r u succinct directions.Target x)
relationships_asked r u succinct asks.Both x = Some (shown_relationships r u succinct directions.Either x)

-- a filter that keeps none asks for nothing
abbrev pub asks_for_some : RenditionFilter → Bool
asks_for_some filters.None = false
asks_for_some filters.All = true
asks_for_some (filters.Listed items) = true

-- the renditions that a filter keeps
abbrev pub renditions_asked : Repository → RenditionFilter → Object → Option (List ShownRendition)
renditions_asked r f x = if_asked (asks_for_some f) (shown_renditions r f x)

-- what is asked for beside the properties
abbrev pub shown_beside : Repository → List ℕ → Bool → Includes → Object → ShownBeside
shown_beside r u succinct i x = record {
  actions = if_asked i.actions (actions_of r u x);
  relationships = relationships_asked r u succinct i.relationships x;
  renditions = renditions_asked r i.renditions x;
  policy_ids = if_asked i.policy_ids (policy_ids r u x);
  acl = if_asked i.acl (acl_reply r x);
}

abbrev pub included_object : Repository → List ℕ → PropertyFilter → Bool → Includes → Object → IncludedObject
included_object r u f succinct i x = record { object = shown_object r u f succinct x; beside = shown_beside r u succinct i x }

-- the object in a view of the repository
abbrev pub included_in : View → Object → IncludedObject
included_in v x = included_object v.state.now v.user.now v.filter.now v.succinct v.includes.now x
