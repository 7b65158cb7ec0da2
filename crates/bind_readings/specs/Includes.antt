-- What is to be shown of objects beside their properties, and which version, judged in their order (CMIS 1.1, section 5.4.2).
use Rattle.std.specs.Prelude.{ℕ, List, codes, bytes_eq, false, if◌then◌else◌, Option, Some, None, Ok}
use Rattle.cm_base.specs.Judged.{Judged, ◌>>=◌}
use Rattle.form_args.specs.declared.pairs.Pair.{Pair}
use Rattle.form_args.specs.Single.{chosen, flag_of}
use Rattle.bind_readings.specs.Filters.{included_filter}
use Rattle.include_parts.specs.declared.readings.IncludeRelationships.{IncludeRelationships}
use Rattle.include_parts.specs.declared.readings.IncludeRelationships.TheVariants as asks
use Rattle.include_parts.specs.declared.readings.Includes.{Includes}
use Rattle.include_parts.specs.declared.readings.ReturnVersion.{ReturnVersion}
use Rattle.include_parts.specs.declared.readings.ReturnVersion.TheVariants as versions

-- which relationships a word names
abbrev pub relationships_named : List ℕ → Option IncludeRelationships
relationships_named word =
    if bytes_eq word (codes "none") then Some asks.Nothing
    else if bytes_eq word (codes "source") then Some asks.Source
    else if bytes_eq word (codes "target") then Some asks.Target
    else if bytes_eq word (codes "both") then Some asks.Both
    else None

-- none where nothing is said
abbrev pub relationships_of : List Pair → Judged IncludeRelationships
relationships_of pairs = chosen relationships_named pairs (codes "includeRelationships") asks.Nothing

-- which version a word names
abbrev pub version_named : List ℕ → Option ReturnVersion
version_named word =
    if bytes_eq word (codes "this") then Some versions.This
    else if bytes_eq word (codes "latest") then Some versions.Latest
    else if bytes_eq word (codes "latestmajor") then Some versions.LatestMajor
    else None

-- the one that is addressed where nothing is said
abbrev pub version_of : List Pair → Judged ReturnVersion
version_of pairs = chosen version_named pairs (codes "returnVersion") versions.This

-- nothing where nothing is said; a rendition filter has no causes
abbrev pub includes_of : List Pair → Judged Includes
includes_of pairs = do
  actions ← flag_of pairs (codes "includeAllowableActions") false
  relationships ← relationships_of pairs
  policy_ids ← flag_of pairs (codes "includePolicyIds") false
  acl ← flag_of pairs (codes "includeACL") false
  Ok (record { actions = actions; relationships = relationships; renditions = included_filter pairs; policy_ids = policy_ids; acl = acl })
