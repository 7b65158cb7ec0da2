-- The words of type definitions, and the forms of ids and query names (CMIS 1.1, sections 2.1.3 and 5.2.9).
use Rattle.std.specs.Prelude.{ℕ, ◌==◌, nat_lt, nat_le, Bool, ◌&&◌, ◌||◌, List, [], ◌∷◌, length, find, Option, is_none, bytes_eq, codes, slice_index}
use Rattle.std.specs.List.{list_all}
use Rattle.ql_lex.specs.Words.{keyword_of}
use Rattle.ql_lex.specs.Lexes.{begins_name, is_name_byte}
use Rattle.cm_types.specs.declared.definition.ContentAllowed.{ContentAllowed}
use Rattle.cm_types.specs.declared.definition.ContentAllowed.TheVariants as contents
use Rattle.cm_types.specs.declared.property.PropertyKind.{PropertyKind}
use Rattle.cm_types.specs.declared.property.PropertyKind.TheVariants as kinds
use Rattle.cm_types.specs.declared.property.Cardinality.{Cardinality}
use Rattle.cm_types.specs.declared.property.Cardinality.TheVariants as cardinalities
use Rattle.cm_types.specs.declared.property.Updatability.{Updatability}
use Rattle.cm_types.specs.declared.property.Updatability.TheVariants as may

abbrev pub content_word : ContentAllowed → List ℕ
content_word contents.NotAllowed = codes "notallowed"
content_word contents.Allowed = codes "allowed"
content_word contents.Required = codes "required"

abbrev pub kind_word : PropertyKind → List ℕ
kind_word kinds.Boolean = codes "boolean"
kind_word kinds.Integer = codes "integer"
kind_word kinds.Datetime = codes "datetime"
kind_word kinds.String = codes "string"
kind_word kinds.Uri = codes "uri"
kind_word kinds.Id = codes "id"
kind_word kinds.Html = codes "html"

abbrev pub cardinality_word : Cardinality → List ℕ
cardinality_word cardinalities.Single = codes "single"
cardinality_word cardinalities.Multi = codes "multi"

abbrev pub updatability_word : Updatability → List ℕ
updatability_word may.ReadOnly = codes "readonly"
updatability_word may.ReadWrite = codes "readwrite"
updatability_word may.OnCreate = codes "oncreate"
updatability_word may.WhenCheckedOut = codes "whencheckedout"

-- what has the word, of these
abbrev pub worded : {A : Type 0} → (A → List ℕ) → List A → List ℕ → Option A
worded word all text = find (λ c. bytes_eq (word c) text) all

abbrev pub content_of : List ℕ → Option ContentAllowed
content_of = worded content_word (contents.NotAllowed ∷ contents.Allowed ∷ contents.Required ∷ [])

abbrev pub kind_of : List ℕ → Option PropertyKind
kind_of = worded kind_word (kinds.Boolean ∷ kinds.Integer ∷ kinds.Datetime ∷ kinds.String ∷ kinds.Uri ∷ kinds.Id ∷ kinds.Html ∷ [])

abbrev pub cardinality_of : List ℕ → Option Cardinality
cardinality_of = worded cardinality_word (cardinalities.Single ∷ cardinalities.Multi ∷ [])

abbrev pub updatability_of : List ℕ → Option Updatability
updatability_of = worded updatability_word (may.ReadOnly ∷ may.ReadWrite ∷ may.OnCreate ∷ may.WhenCheckedOut ∷ [])

-- ---- ids and query names

-- a letter, a digit, `_`, `:`, `-` or `.`
abbrev pub is_id_byte : ℕ → Bool
is_id_byte b = is_name_byte b || b == 45 || b == 46

-- 1 to 128 of these
abbrev pub is_id : List ℕ → Bool
is_id text = nat_lt 0 (length text) && nat_le (length text) 128 && list_all is_id_byte text

-- a letter or `_`, then letters, digits, `_` and `:`, at most 128 bytes, and no keyword of the query language
abbrev pub is_query_name : List ℕ → Bool
is_query_name text =
    begins_name (slice_index text 0)
    && nat_le (length text) 128
    && list_all is_name_byte text
    && is_none (keyword_of text)
