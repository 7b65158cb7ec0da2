-- The arguments of addRendition, judged in their order.
use Rattle.std.specs.Prelude.{ℕ, List, not, false, Option, Some, None, Ok, codes}
use Rattle.cm_base.specs.declared.cause.Cause.TheVariants as causes
use Rattle.cm_base.specs.Names.{has_name_length}
use Rattle.cm_base.specs.Judged.{Judged, ◌>>=◌, ◌>>◌, refuse}
use Rattle.form_args.specs.declared.pairs.Pair.{Pair}
use Rattle.form_args.specs.Pairs.{first_of}
use Rattle.form_args.specs.Single.{flag_of, needed}
use Rattle.rendition_parts.specs.declared.writes.AddRendition.{AddRendition}
use Rattle.bind_parts.specs.declared.asking.Asking.{Asking}
use Rattle.bind_parts.specs.Parts.{place_of}
use Rattle.bind_writes.specs.Content.{stream_of}

-- a text that is as long as a name may be, from 1 to 255 bytes
abbrev pub fitting : List ℕ → List ℕ → Judged (List ℕ)
fitting name text = do
  refuse (causes.BadArgument name) (not (has_name_length text))
  Ok text

-- the kind, which must be given
abbrev pub kind_of : List Pair → Judged (List ℕ)
kind_of pairs = do
  kind ← needed pairs (codes "kind")
  fitting (codes "kind") kind

abbrev pub title_by : Option (List ℕ) → Judged (Option (List ℕ))
title_by None = Ok None
title_by (Some text) = do
  title ← fitting (codes "title") text
  Ok (Some title)

-- the title, where one is given
abbrev pub title_of : List Pair → Judged (Option (List ℕ))
title_of pairs = title_by (first_of pairs (codes "title"))

abbrev pub add_rendition_of : Asking → Judged AddRendition
add_rendition_of asking = do
  succinct ← flag_of asking.form.pairs (codes "succinct") false
  kind ← kind_of asking.form.pairs
  title ← title_of asking.form.pairs
  stream ← stream_of asking
  Ok (record { place = place_of asking; kind = kind; title = title; stream = stream; succinct = succinct })
