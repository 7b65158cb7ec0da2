-- The rendition filter, as a text (CMIS 1.1, section 2.2.1.2.4.1).
use Rattle.std.specs.Prelude.{ℕ, List, [], ◌∷◌, codes, bytes_eq, if◌then◌else◌, Option, Some, None}
use Rattle.form_args.specs.declared.pairs.Pair.{Pair}
use Rattle.form_args.specs.Pairs.{first_of}
use Rattle.form_args.specs.Filter.{commas}
use Rattle.rendition_parts.specs.declared.filter.RenditionFilter.{RenditionFilter}
use Rattle.rendition_parts.specs.declared.filter.RenditionFilter.TheVariants as filters

-- what stands between commas, blanks and all; an empty text names nothing
abbrev pub items_in : List ℕ → List (List ℕ)
items_in [] = []
items_in (b ∷ bs) = commas (b ∷ bs)

-- these two words alone; in a longer list they are a kind or a media type
abbrev pub filter_read : List ℕ → RenditionFilter
filter_read text =
    if bytes_eq text (codes "cmis:none") then filters.None
    else if bytes_eq text (codes "*") then filters.All
    else filters.Listed (items_in text)

abbrev pub filter_by : RenditionFilter → Option (List ℕ) → RenditionFilter
filter_by default None = default
filter_by default (Some text) = filter_read text

-- with an object no renditions are shown where nothing is said
abbrev pub included_filter : List Pair → RenditionFilter
included_filter pairs = filter_by filters.None (first_of pairs (codes "renditionFilter"))

-- the selector renditions shows all where nothing is said
abbrev pub listed_filter : List Pair → RenditionFilter
listed_filter pairs = filter_by filters.All (first_of pairs (codes "renditionFilter"))
