-- The property filter (CMIS 1.1, section 2.2.1.2.1).
use Rattle.std.specs.Prelude.{ℕ, List, [], ◌∷◌, ◌++◌, ◌==◌, codes, bytes_eq, filter, Bool, true, false, if◌then◌else◌, Option, Some, None, Ok, Err}
use Rattle.std.specs.List.{slice_split, flat_map}
use Rattle.cm_base.specs.declared.cause.Cause.TheVariants as causes
use Rattle.cm_base.specs.Judged.{Judged, ◌>>=◌}
use Rattle.call_parts.specs.declared.readings.PropertyFilter.{PropertyFilter}
use Rattle.call_parts.specs.declared.readings.PropertyFilter.TheVariants as filters
use Rattle.form_args.specs.declared.pairs.Pair.{Pair}
use Rattle.form_args.specs.Pairs.{first_of}

-- what stands between commas, between spaces, between tabs
abbrev pub commas : List ℕ → List (List ℕ)
commas text = slice_split (λ b. b == 44) text

abbrev pub spaces : List ℕ → List (List ℕ)
spaces text = slice_split (λ b. b == 32) text

abbrev pub tabs : List ℕ → List (List ℕ)
tabs text = slice_split (λ b. b == 9) text

abbrev pub has_bytes : List ℕ → Bool
has_bytes [] = false
has_bytes (b ∷ bs) = true

-- the words of a text: what stands between its blanks, which are spaces and tabs
abbrev pub words : List ℕ → List (List ℕ)
words text = filter has_bytes (flat_map tabs (spaces text))

-- one word, with blanks around it; no word, or a blank inside, is no name
abbrev pub one_word : List (List ℕ) → Judged (List ℕ)
one_word (word ∷ []) = Ok word
one_word _ = Err causes.BadFilter

-- each item is read, in its order, and put behind those before; the first cause ends it
abbrev pub each_onto : {A B : Type 0} → (A → Judged B) → List B → List A → Judged (List B)
each_onto read done [] = Ok done
each_onto read done (x ∷ xs) = read x >>= λ y. each_onto read (done ++ y ∷ []) xs

abbrev pub name_in : List ℕ → Judged (List ℕ)
name_in piece = one_word (words piece)

abbrev pub is_star : List (List ℕ) → Bool
is_star (word ∷ []) = bytes_eq word (codes "*")
is_star _ = false

-- a star alone is all properties; else a comma list of query names
abbrev pub read_filter : List ℕ → Judged PropertyFilter
read_filter text = if is_star (words text) then Ok filters.All else (each_onto name_in [] (commas text) >>= λ names. Ok (filters.QueryNames names))

-- without a filter all properties are shown
abbrev pub filter_by : Option (List ℕ) → Judged PropertyFilter
filter_by None = Ok filters.All
filter_by (Some text) = read_filter text

abbrev pub filter_of : List Pair → Judged PropertyFilter
filter_of pairs = filter_by (first_of pairs (codes "filter"))
