-- The argument orderBy: a comma list of query names, each with a direction perhaps (CMIS 1.1, section 2.2.1.2.7).
use Rattle.std.specs.Prelude.{ℕ, ◌==◌, ◌-◌, List, [], ◌∷◌, length, slice_get, Bool, true, false, ◌||◌, if◌then◌else◌, Option, Some, None, option_map, option_and_then, unwrap_or, Ok, codes}
use Rattle.cm_base.specs.declared.cause.Cause.TheVariants as causes
use Rattle.cm_base.specs.Judged.{Judged, ◌>>◌, find_or, refuse}
use Rattle.form_args.specs.declared.pairs.Pair.{Pair}
use Rattle.form_args.specs.Pairs.{first_of}
use Rattle.form_args.specs.Filter.{commas, words, each_onto}
use Rattle.ql_lex.specs.declared.word.Word.{Word}
use Rattle.ql_lex.specs.declared.word.Word.TheVariants as keywords
use Rattle.ql_lex.specs.Words.{keyword_of}
use Rattle.type_keys.specs.Words.{is_query_name}
use Rattle.order_parts.specs.declared.readings.SortSpecification.{SortSpecification}

-- spaces and tabs
abbrev pub is_blank : ℕ → Bool
is_blank b = b == 32 || b == 9

abbrev pub has_blank_at : List ℕ → ℕ → Bool
has_blank_at text place = unwrap_or (option_map is_blank (slice_get text place)) false

-- a blank at an end of the text is neither around a comma nor before a direction
abbrev pub has_blank_end : List ℕ → Bool
has_blank_end text = has_blank_at text 0 || has_blank_at text (length text - 1)

-- whether a keyword says that the order is a descending one
abbrev pub is_descending : Word → Option Bool
is_descending keywords.Asc = Some false
is_descending keywords.Desc = Some true
is_descending word = None

-- ASC or DESC in any case of their letters
abbrev pub direction_of : List ℕ → Option Bool
direction_of text = option_and_then is_descending (keyword_of text)

-- a query name, which is no keyword
abbrev pub named : List ℕ → Bool → Option SortSpecification
named name descending = if is_query_name name then Some (record { query_name = name; descending = descending }) else None

-- a name alone, or with a direction; without one the order is ascending
abbrev pub specification_in : List (List ℕ) → Option SortSpecification
specification_in (name ∷ []) = named name false
specification_in (name ∷ direction ∷ []) = option_and_then (named name) (direction_of direction)
specification_in _ = None

-- an item, with blanks around its words
abbrev pub read_specification : List ℕ → Judged SortSpecification
read_specification item = find_or (causes.BadArgument (codes "orderBy")) (specification_in (words item))

abbrev pub read_order : List ℕ → Judged (List SortSpecification)
read_order text = do
  refuse (causes.BadArgument (codes "orderBy")) (has_blank_end text)
  each_onto read_specification [] (commas text)

-- none where nothing is said; an empty text is one item without a name
abbrev pub order_by : Option (List ℕ) → Judged (List SortSpecification)
order_by None = Ok []
order_by (Some text) = read_order text

abbrev pub order_of : List Pair → Judged (List SortSpecification)
order_of pairs = order_by (first_of pairs (codes "orderBy"))
