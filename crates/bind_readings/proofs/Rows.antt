-- Worked rows: what some texts ask for.
use Rattle.std.proofs.Common.{◌≡◌, ℕ, List, [], ◌∷◌, Bool, true, false, refl}
use Rattle.std.specs.Prelude.{codes, Ok, Err, Some, None}
use Rattle.cm_base.specs.declared.cause.Cause.TheVariants as causes
use Rattle.order_parts.specs.declared.readings.SortSpecification.{SortSpecification}
use Rattle.ql_lex.specs.Words.{keyword_of}
use Rattle.bind_readings.specs.Order.{order_by}

abbrev by : List ℕ → Bool → SortSpecification
by name descending = record { query_name = name; descending = descending }

row_nothing : order_by None ≡ Ok []
row_nothing = refl

row_directions : order_by (Some (codes "cmis:name,k:size \t desc,cmis:objectId Asc")) ≡ Ok (by (codes "cmis:name") false ∷ by (codes "k:size") true ∷ by (codes "cmis:objectId") false ∷ [])
unfolding keyword_of
row_directions = refl

-- no name
row_empty : order_by (Some []) ≡ Err (causes.BadArgument (codes "orderBy"))
unfolding keyword_of
row_empty = refl

-- blanks around a comma, and none at an end
row_blanks : order_by (Some (codes "cmis:name \t,  k:size desc")) ≡ Ok (by (codes "cmis:name") false ∷ by (codes "k:size") true ∷ [])
unfolding keyword_of
row_blanks = refl

row_blank_before : order_by (Some (codes " cmis:name")) ≡ Err (causes.BadArgument (codes "orderBy"))
unfolding keyword_of
row_blank_before = refl

row_blank_behind : order_by (Some (codes "cmis:name ASC ")) ≡ Err (causes.BadArgument (codes "orderBy"))
unfolding keyword_of
row_blank_behind = refl

row_other_direction : order_by (Some (codes "cmis:name down")) ≡ Err (causes.BadArgument (codes "orderBy"))
unfolding keyword_of
row_other_direction = refl

-- a keyword of the query language is no name
row_keyword : order_by (Some (codes "asc")) ≡ Err (causes.BadArgument (codes "orderBy"))
unfolding keyword_of
row_keyword = refl
