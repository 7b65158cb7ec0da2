-- What is seen alike of an object has the same renditions.
use Rattle.std.specs.Prelude.{◌≡◌, ℕ, List, map, filter}
use Rattle.std.proofs.Common.{ap}
use Rattle.cm_base.specs.declared.object.Object.{Object}
use Rattle.cmis_spec.specs.Repository.{Repository}
use Rattle.rendition_parts.specs.declared.filter.RenditionFilter.{RenditionFilter}
use Rattle.cm_see.proofs.Worlds.{IsAlike}
use Rattle.cm_renditions.specs.Shown.{is_kept, kept_renditions, shown_rendition, shown_renditions}

pub kept_alike : (r other : Repository) (u : List ℕ) (f : RenditionFilter) (x : Object) → IsAlike r other u x → kept_renditions r f x ≡ kept_renditions other f x
kept_alike r other u f x h = ap (λ o. filter (is_kept f) o.renditions) h.alike

pub renditions_alike : (r other : Repository) (u : List ℕ) (f : RenditionFilter) (x : Object) → IsAlike r other u x → shown_renditions r f x ≡ shown_renditions other f x
renditions_alike r other u f x h = ap (map shown_rendition) (kept_alike r other u f x h)
