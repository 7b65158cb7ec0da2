-- The tokens of arrays and objects by those of their elements and members.
use Rattle.std.proofs.Common.{◌≡◌, ℕ, List, [], ◌∷◌, ◌++◌, refl, sym, ap, ◌∙◌, append_assoc}
use Rattle.json.specs.Token.{Token}
use Rattle.json.specs.Tree.{items_tokens, members_tokens}
use Rattle.serde_json.specs.Data.{Data, object}
use Rattle.serde_json.specs.View.{items_of}
use Rattle.serde_json.specs.Written.{items_outline, members_outline}
use Rattle.json_text.specs.Build.{list_data}
use Rattle.json_text.specs.Tokens.{tokens_of, each_tokens, field_tokens, fields_tokens, listed_members}

-- the elements, and then the bracket
pub items_listed : (ds : List Data) → items_tokens (items_outline (items_of ds)) ≡ each_tokens ds ++ Token.end_array ∷ []
items_listed [] = refl
items_listed (d ∷ ds) = ap (λ ts. tokens_of d ++ ts) (items_listed ds) ∙ sym (append_assoc (tokens_of d) (each_tokens ds) (Token.end_array ∷ []))

-- the members, and then the bracket
pub members_listed : (fs : List (List ℕ × Data)) → members_tokens (members_outline (listed_members fs)) ≡ fields_tokens fs ++ Token.end_object ∷ []
members_listed [] = refl
members_listed (f ∷ fs) = ap (λ ts. field_tokens f ++ ts) (members_listed fs) ∙ sym (append_assoc (field_tokens f) (fields_tokens fs) (Token.end_object ∷ []))

regrouped : (old middle : List Token) (b e : Token) → ((old ++ b ∷ []) ++ middle) ++ e ∷ [] ≡ old ++ b ∷ (middle ++ e ∷ [])
regrouped old middle b e = ap (λ ts. ts ++ e ∷ []) (append_assoc old (b ∷ []) middle) ∙ append_assoc old (b ∷ middle) (e ∷ [])

-- a bracket, the elements and the closing bracket are an array
pub array_written : (old begun middle new : List Token) (ds : List Data)
    → begun ≡ old ++ Token.begin_array ∷ [] → middle ≡ begun ++ each_tokens ds → new ≡ middle ++ Token.end_array ∷ []
    → new ≡ old ++ tokens_of (list_data ds)
array_written old begun middle new ds b m e =
    e ∙ ap (λ ts. ts ++ Token.end_array ∷ []) (m ∙ ap (λ ts. ts ++ each_tokens ds) b)
    ∙ regrouped old (each_tokens ds) Token.begin_array Token.end_array
    ∙ ap (λ ts. old ++ Token.begin_array ∷ ts) (sym (items_listed ds))

-- a bracket, the members and the closing bracket are an object
pub object_written : (old begun middle new : List Token) (fs : List (List ℕ × Data))
    → begun ≡ old ++ Token.begin_object ∷ [] → middle ≡ begun ++ fields_tokens fs → new ≡ middle ++ Token.end_object ∷ []
    → new ≡ old ++ tokens_of (object (listed_members fs))
object_written old begun middle new fs b m e =
    e ∙ ap (λ ts. ts ++ Token.end_object ∷ []) (m ∙ ap (λ ts. ts ++ fields_tokens fs) b)
    ∙ regrouped old (fields_tokens fs) Token.begin_object Token.end_object
    ∙ ap (λ ts. old ++ Token.begin_object ∷ ts) (sym (members_listed fs))
