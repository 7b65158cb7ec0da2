-- The texts of what is answered about objects and children with what is shown beside their properties.
use Rattle.std.specs.Prelude.{ℕ, Bool, true, false, ◌&&◌, not, List, [], ◌∷◌, Ok}
use Rattle.serde_json.specs.Written.{compact_text}
use Rattle.cm_base.specs.Judged.{Judged, ◌>>=◌}
use Rattle.order_parts.specs.declared.readings.SortSpecification.{SortSpecification}
use Rattle.rendition_parts.specs.declared.filter.RenditionFilter.{RenditionFilter}
use Rattle.rendition_parts.specs.declared.filter.RenditionFilter.TheVariants as filters
use Rattle.include_parts.specs.declared.readings.IncludeRelationships.{IncludeRelationships}
use Rattle.include_parts.specs.declared.readings.IncludeRelationships.TheVariants as asks
use Rattle.include_parts.specs.declared.readings.Includes.{Includes}
use Rattle.include_parts.specs.declared.readings.ReturnVersion.{ReturnVersion}
use Rattle.include_parts.specs.declared.readings.ReturnVersion.TheVariants as versions
use Rattle.include_parts.specs.declared.readings.ShowChildren.{ShowChildren}
use Rattle.include_parts.specs.declared.readings.ShowObject.{ShowObject}
use Rattle.include_parts.specs.declared.replies.IncludedChildrenReply.{IncludedChildrenReply}
use Rattle.include_parts.specs.declared.replies.IncludedReply.{IncludedReply}
use Rattle.include_json.specs.Pages.{children_data, reply_data}

-- the text of what is answered about an object
abbrev pub included_text : Judged IncludedReply → Judged (List ℕ)
included_text judged = judged >>= λ reply. Ok (compact_text (reply_data reply))

-- the text of what is answered about children
abbrev pub included_children_text : Judged IncludedChildrenReply → Judged (List ℕ)
included_children_text judged = judged >>= λ reply. Ok (compact_text (children_data reply))

-- ---- where nothing is asked for

abbrev pub no_relationships : IncludeRelationships → Bool
no_relationships asks.Nothing = true
no_relationships asks.Source = false
no_relationships asks.Target = false
no_relationships asks.Both = false

abbrev pub no_renditions : RenditionFilter → Bool
no_renditions filters.None = true
no_renditions filters.All = false
no_renditions (filters.Listed items) = false

-- properties alone are shown
abbrev pub is_bare : Includes → Bool
is_bare i = not i.actions && no_relationships i.relationships && no_renditions i.renditions && not i.policy_ids && not i.acl

abbrev pub is_this : ReturnVersion → Bool
is_this versions.This = true
is_this versions.Latest = false
is_this versions.LatestMajor = false

-- the addressed object itself, with its properties alone
abbrev pub is_bare_object : ShowObject → Bool
is_bare_object q = is_this q.version && is_bare q.includes

-- no order is asked for
abbrev pub no_order : List SortSpecification → Bool
no_order [] = true
no_order (s ∷ specifications) = false

-- children with their properties alone, without their names, and in the order of their numbers
abbrev pub are_bare_children : ShowChildren → Bool
are_bare_children q = no_order q.order && not q.segments && is_bare q.includes
