-- The arguments of a query, judged in their order (CMIS 1.1, section 5.4).
use Rattle.std.specs.Prelude.{ℕ, List, false, Option, Some, None, Ok, codes}
use Rattle.cm_base.specs.declared.cause.Cause.TheVariants as causes
use Rattle.cm_base.specs.Judged.{Judged, ◌>>=◌, find_or}
use Rattle.form_args.specs.declared.pairs.Pair.{Pair}
use Rattle.form_args.specs.Pairs.{first_of}
use Rattle.form_args.specs.Single.{flag_of, number_of}
use Rattle.bind_parts.specs.declared.asking.Asking.{Asking}
use Rattle.bind_readings.specs.Includes.{includes_of}
use Rattle.query_parts.specs.declared.readings.ReadQuery.{ReadQuery}

-- the first of two values that is given
abbrev pub first_given : Option (List ℕ) → Option (List ℕ) → Option (List ℕ)
first_given (Some a) b = Some a
first_given None b = b

-- the text of the query, under either of its names: of both the first counts
abbrev pub statement_given : List Pair → Option (List ℕ)
statement_given pairs = first_given (first_of pairs (codes "statement")) (first_of pairs (codes "q"))

-- it must be given
abbrev pub statement_of : List Pair → Judged (List ℕ)
statement_of pairs = find_or (causes.MissingArgument (codes "statement")) (statement_given pairs)

-- 100 rows where nothing is said; of each document the latest version alone. Both segments, which mean something in readings of lists,
-- are judged alone
abbrev pub query_of : Asking → Judged ReadQuery
query_of asking = do
  succinct ← flag_of asking.form.pairs (codes "succinct") false
  includes ← includes_of asking.form.pairs
  most ← number_of asking.form.pairs (codes "maxItems") 100
  skip ← number_of asking.form.pairs (codes "skipCount") 0
  segments ← flag_of asking.form.pairs (codes "includePathSegment") false
  relative_segments ← flag_of asking.form.pairs (codes "includeRelativePathSegment") false
  statement ← statement_of asking.form.pairs
  versions ← flag_of asking.form.pairs (codes "searchAllVersions") false
  Ok (record { statement = statement; all_versions = versions; max_items = most; skip_count = skip; succinct = succinct; includes = includes })
