-- The arguments of relationships, judged in their order (CMIS 1.1, section 5.4.2).
use Rattle.std.specs.Prelude.{ℕ, false, if◌then◌else◌, List, Option, Some, None, Ok, bytes_eq, codes}
use Rattle.cm_base.specs.Judged.{Judged, ◌>>=◌}
use Rattle.relationship_parts.specs.declared.readings.Direction.{Direction}
use Rattle.relationship_parts.specs.declared.readings.Direction.TheVariants as directions
use Rattle.include_parts.specs.declared.readings.ShowRelationships.{ShowRelationships}
use Rattle.form_args.specs.declared.pairs.Pair.{Pair}
use Rattle.form_args.specs.Pairs.{first_of}
use Rattle.form_args.specs.Single.{chosen, flag_of, number_of}
use Rattle.form_args.specs.Filter.{filter_of}
use Rattle.bind_parts.specs.declared.asking.Asking.{Asking}
use Rattle.bind_parts.specs.Parts.{place_of}
use Rattle.bind_readings.specs.Includes.{includes_of}

-- at which end the object stands (section 2.2.8.1.1)
abbrev pub direction_named : List ℕ → Option Direction
direction_named word =
    if bytes_eq word (codes "source") then Some directions.Source
    else if bytes_eq word (codes "target") then Some directions.Target
    else if bytes_eq word (codes "either") then Some directions.Either
    else None

-- as the source where nothing is said
abbrev pub direction_of : List Pair → Judged Direction
direction_of pairs = chosen direction_named pairs (codes "relationshipDirection") directions.Source

-- 100 items where nothing is said; both segments, which mean something in other readings of lists, are judged alone
abbrev pub relationships_of : Asking → Judged ShowRelationships
relationships_of asking = do
  succinct ← flag_of asking.form.pairs (codes "succinct") false
  includes ← includes_of asking.form.pairs
  filter ← filter_of asking.form.pairs
  most ← number_of asking.form.pairs (codes "maxItems") 100
  skip ← number_of asking.form.pairs (codes "skipCount") 0
  segments ← flag_of asking.form.pairs (codes "includePathSegment") false
  relative_segments ← flag_of asking.form.pairs (codes "includeRelativePathSegment") false
  direction ← direction_of asking.form.pairs
  with_subtypes ← flag_of asking.form.pairs (codes "includeSubRelationshipTypes") false
  Ok (record {
    relationships = record {
      place = place_of asking;
      direction = direction;
      kind = first_of asking.form.pairs (codes "typeId");
      with_subtypes = with_subtypes;
      filter = filter;
      max_items = most;
      skip_count = skip;
      succinct = succinct;
    };
    includes = includes;
  })
