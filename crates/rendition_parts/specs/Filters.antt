-- The rendition filter (CMIS 1.1, section 2.2.1.2.4.1).
use Rattle.std.specs.Prelude.{ℕ, ◌-◌, ◌==◌, List, length, take, codes, bytes_eq, Bool, true, false, ◌&&◌, ◌||◌}
use Rattle.std.specs.List.{list_any, starts_with, ends_with}
use Rattle.rendition_parts.specs.declared.filter.RenditionFilter.{RenditionFilter}
use Rattle.rendition_parts.specs.declared.filter.RenditionFilter.TheVariants as filters

-- `a/*` stands for every media type that begins with `a/`
abbrev pub is_in_range : List ℕ → List ℕ → Bool
is_in_range item media = ends_with ◌==◌ item (codes "/*") && starts_with ◌==◌ media (take (length item - 1) item)

-- an item is a kind, a media type, or a range of these
abbrev pub names : List ℕ → List ℕ → List ℕ → Bool
names kind media item = bytes_eq item kind || (bytes_eq item media || is_in_range item media)

-- a rendition of this kind and media type is shown
abbrev pub keeps : RenditionFilter → List ℕ → List ℕ → Bool
keeps filters.None kind media = false
keeps filters.All kind media = true
keeps (filters.Listed items) kind media = list_any (names kind media) items
