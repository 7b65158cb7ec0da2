-- What is written one behind the other.
use Rattle.std.proofs.Common.{◌≡◌, ℕ, Bool, true, false, List, [], ◌∷◌, ◌++◌, sym, ap, ◌∙◌, append_assoc, append-nil, codes, map, length, take, drop, nat_lt, ◌+◌}
use Rattle.std.proofs.lemmas.List.{length-map, take-map, drop-map}
use denote.Ref.{Bor}
use Rattle.json.specs.Token.{Token}
use Rattle.serde_json.specs.Data.{Data, boolean, number, object, string, unsigned}
use Rattle.json_text.specs.Build.{list_data}
use Rattle.json_text.specs.Tokens.{tokens_of, field_tokens, fields_tokens, listed_members}
use Rattle.json_text.specs.TokenLaws.{object_written}
use Rattle.json_text.specs.Values.{value_data}
use Rattle.cm_base.specs.declared.object.Object.{Object}
use Rattle.cm_base.specs.declared.value.Value.{Value}
use Rattle.call_parts.specs.declared.readings.ReadChildren.{ReadChildren}
use Rattle.call_parts.specs.declared.replies.ShownObject.{ShownObject}
use Rattle.cm_map.specs.Parts.{pointee}
use Rattle.type_keys.specs.Words.{kind_word, cardinality_word}
use Rattle.cm_see.specs.Shown.{shown_object}
use Rattle.rd_nav.specs.ReadChildren.{has_more, page, page_size}
use Rattle.call_parts.specs.declared.replies.ChildrenReply.{ChildrenReply}
use Rattle.cm_types.specs.declared.property.PropDef.{PropDef}
use Rattle.cmis_spec.specs.Repository.{Repository}
use Rattle.object_json.specs.Objects.{property_data}
use Rattle.object_json.specs.Pages.{child_data, children_data}
use Rattle.show_json.specs.Columns.{child_by, counts_before, described, full_field, object_by, page_reply, properties_by, Sight, slot_field, texts_before}

-- members, and one more
fields_more : (fs : List (List ℕ × Data)) (f : List ℕ × Data) → fields_tokens (fs ++ f ∷ []) ≡ fields_tokens fs ++ field_tokens f
fields_more [] f = append-nil (field_tokens f)
fields_more (g ∷ fs) f = ap (λ ts. field_tokens g ++ ts) (fields_more fs f) ∙ sym (append_assoc (field_tokens g) (fields_tokens fs) (field_tokens f))

last_value : (begun front keyed valued : List Token) (fs : List (List ℕ × Data)) (name : List ℕ) (d : Data)
    → front ≡ begun ++ fields_tokens fs → keyed ≡ front ++ Token.key name ∷ [] → valued ≡ keyed ++ tokens_of d
    → valued ≡ begun ++ fields_tokens (fs ++ (name, d) ∷ [])
last_value begun front keyed valued fs name d f k v =
    v ∙ ap (λ ts. ts ++ tokens_of d) (k ∙ ap (λ ts. ts ++ Token.key name ∷ []) f)
    ∙ append_assoc (begun ++ fields_tokens fs) (Token.key name ∷ []) (tokens_of d)
    ∙ append_assoc begun (fields_tokens fs) (Token.key name ∷ tokens_of d)
    ∙ ap (λ ts. begun ++ ts) (sym (fields_more fs (name, d)))

-- an object whose last member's value is written by itself
last_written : (old begun front keyed valued new : List Token) (fs : List (List ℕ × Data)) (name : List ℕ) (d : Data)
    → begun ≡ old ++ Token.begin_object ∷ [] → front ≡ begun ++ fields_tokens fs → keyed ≡ front ++ Token.key name ∷ [] → valued ≡ keyed ++ tokens_of d → new ≡ valued ++ Token.end_object ∷ []
    → new ≡ old ++ tokens_of (object (listed_members (fs ++ (name, d) ∷ [])))
last_written old begun front keyed valued new fs name d b f k v e = object_written old begun valued new (fs ++ (name, d) ∷ []) b (last_value begun front keyed valued fs name d f k v) e

-- the texts one behind the other
pub texts_written : (old a b c d e f : List Token) (p : PropDef)
    → a ≡ old ++ field_tokens (codes "cardinality", string (cardinality_word p.cardinality)) → b ≡ a ++ field_tokens (codes "displayName", string (p.display_name)) → c ≡ b ++ field_tokens (codes "id", string (p.id)) → d ≡ c ++ field_tokens (codes "localName", string (p.local_name)) → e ≡ d ++ field_tokens (codes "queryName", string (p.query_name)) → f ≡ e ++ field_tokens (codes "type", string (kind_word p.kind))
    → f ≡ old ++ fields_tokens (texts_before p)
unfolding texts_before
texts_written old a b c d e f p h1 h2 h3 h4 h5 h6 =
    h6 ∙ ap (λ ts. ts ++ field_tokens (codes "type", string (kind_word p.kind))) five ∙ append_assoc old _ (field_tokens (codes "type", string (kind_word p.kind)))
  where
    two : b ≡ old ++ (field_tokens (codes "cardinality", string (cardinality_word p.cardinality)) ++ field_tokens (codes "displayName", string (p.display_name)))
    two = h2 ∙ ap (λ ts. ts ++ field_tokens (codes "displayName", string (p.display_name))) h1 ∙ append_assoc old (field_tokens (codes "cardinality", string (cardinality_word p.cardinality))) (field_tokens (codes "displayName", string (p.display_name)))

    three : c ≡ old ++ ((field_tokens (codes "cardinality", string (cardinality_word p.cardinality)) ++ field_tokens (codes "displayName", string (p.display_name))) ++ field_tokens (codes "id", string (p.id)))
    three = h3 ∙ ap (λ ts. ts ++ field_tokens (codes "id", string (p.id))) two ∙ append_assoc old _ (field_tokens (codes "id", string (p.id)))

    four : d ≡ old ++ (((field_tokens (codes "cardinality", string (cardinality_word p.cardinality)) ++ field_tokens (codes "displayName", string (p.display_name))) ++ field_tokens (codes "id", string (p.id))) ++ field_tokens (codes "localName", string (p.local_name)))
    four = h4 ∙ ap (λ ts. ts ++ field_tokens (codes "localName", string (p.local_name))) three ∙ append_assoc old _ (field_tokens (codes "localName", string (p.local_name)))

    five : e ≡ old ++ ((((field_tokens (codes "cardinality", string (cardinality_word p.cardinality)) ++ field_tokens (codes "displayName", string (p.display_name))) ++ field_tokens (codes "id", string (p.id))) ++ field_tokens (codes "localName", string (p.local_name))) ++ field_tokens (codes "queryName", string (p.query_name)))
    five = h5 ∙ ap (λ ts. ts ++ field_tokens (codes "queryName", string (p.query_name))) four ∙ append_assoc old _ (field_tokens (codes "queryName", string (p.query_name)))

-- a property in full
pub described_written : (old begun front keyed valued new : List Token) (d : PropDef) (v : Value)
    → begun ≡ old ++ Token.begin_object ∷ [] → front ≡ begun ++ fields_tokens (texts_before d) → keyed ≡ front ++ Token.key (codes "value") ∷ [] → valued ≡ keyed ++ tokens_of (value_data v) → new ≡ valued ++ Token.end_object ∷ []
    → new ≡ old ++ tokens_of (property_data (described d v))
unfolding property_data texts_before
described_written old begun front keyed valued new d v b f k w e = last_written old begun front keyed valued new (texts_before d) (codes "value") (value_data v) b f k w e

abbrev record_of : List ShownObject → Bool → ℕ → ChildrenReply
record_of os more count = record { objects = os; has_more_items = more; num_items = count }

-- two members
pub counts_written : (old middle new : List Token) (more : Bool) (count : ℕ)
    → middle ≡ old ++ field_tokens (codes "hasMoreItems", boolean more) → new ≡ middle ++ field_tokens (codes "numItems", number (unsigned count))
    → new ≡ old ++ fields_tokens (counts_before more count)
unfolding counts_before
counts_written old middle new more count m n = n ∙ ap (λ ts. ts ++ field_tokens (codes "numItems", number (unsigned count))) m ∙ append_assoc old (field_tokens (codes "hasMoreItems", boolean more)) (field_tokens (codes "numItems", number (unsigned count)))

-- a page
pub page_written : (old begun front keyed valued new : List Token) (r : Repository) (u : List ℕ) (q : ReadChildren) (children shown : List (Bor Object)) (more : Bool)
    → shown ≡ page q.skip_count q.max_items children → more ≡ has_more q.skip_count q.max_items children
    → begun ≡ old ++ Token.begin_object ∷ [] → front ≡ begun ++ fields_tokens (counts_before more (length children)) → keyed ≡ front ++ Token.key (codes "objects") ∷ []
    → valued ≡ keyed ++ tokens_of (list_data (map child_data (map (shown_object r u q.filter q.succinct) (map pointee shown)))) → new ≡ valued ++ Token.end_object ∷ []
    → new ≡ old ++ tokens_of (children_data (page_reply r u q (map pointee children)))
unfolding children_data counts_before
page_written old begun front keyed valued new r u q children shown more s m b f k w e =
    last_written old begun front keyed valued new (counts_before more (length children)) (codes "objects") (list_data (map child_data (map (shown_object r u q.filter q.succinct) (map pointee shown)))) b f k w e
    ∙ ap (λ d. old ++ tokens_of (children_data d)) reply
  where
    show : List Object → List ShownObject
    show = map (shown_object r u q.filter q.succinct)

    objects : show (map pointee shown) ≡ show (page q.skip_count q.max_items (map pointee children))
    objects = ap (λ xs. show (map pointee xs)) s ∙ ap show (sym (take-map pointee (page_size q.max_items) (drop q.skip_count children)) ∙ ap (take (page_size q.max_items)) (sym (drop-map pointee q.skip_count children)))

    count : length children ≡ length (map pointee children)
    count = sym (length-map children pointee)

    later : more ≡ has_more q.skip_count q.max_items (map pointee children)
    later = m ∙ ap (nat_lt (q.skip_count + page_size q.max_items)) count

    reply : record_of (show (map pointee shown)) more (length children) ≡ page_reply r u q (map pointee children)
    reply = ap (λ os. record_of os more (length children)) objects ∙ ap (λ b. record_of (show (page q.skip_count q.max_items (map pointee children))) b (length children)) later
        ∙ ap (λ n. record_of (show (page q.skip_count q.max_items (map pointee children))) (has_more q.skip_count q.max_items (map pointee children)) n) count

-- an object of one member
one_written : (old begun middle new : List Token) (f : List ℕ × Data)
    → begun ≡ old ++ Token.begin_object ∷ [] → middle ≡ begun ++ field_tokens f → new ≡ middle ++ Token.end_object ∷ []
    → new ≡ old ++ tokens_of (object (listed_members (f ∷ [])))
one_written old begun middle new f b m e = object_written old begun middle new (f ∷ []) b (m ∙ ap (λ ts. begun ++ ts) (sym (append-nil (field_tokens f)))) e

pub object_by_written : (old begun middle new : List Token) (s : Sight) (succinct : Bool) (ds : List PropDef)
    → begun ≡ old ++ Token.begin_object ∷ [] → middle ≡ begun ++ field_tokens (properties_by s succinct ds) → new ≡ middle ++ Token.end_object ∷ []
    → new ≡ old ++ tokens_of (object_by s succinct ds)
unfolding object_by
object_by_written old begun middle new s succinct ds b m e = one_written old begun middle new (properties_by s succinct ds) b m e

pub child_by_written : (old begun middle new : List Token) (s : Sight) (succinct : Bool) (ds : List PropDef)
    → begun ≡ old ++ Token.begin_object ∷ [] → middle ≡ begun ++ field_tokens (codes "object", object_by s succinct ds) → new ≡ middle ++ Token.end_object ∷ []
    → new ≡ old ++ tokens_of (child_by s succinct ds)
unfolding child_by
child_by_written old begun middle new s succinct ds b m e = one_written old begun middle new (codes "object", object_by s succinct ds) b m e

-- properties in succinct form
pub succinct_written : (old keyed new : List Token) (s : Sight) (ds : List PropDef)
    → keyed ≡ old ++ Token.key (codes "succinctProperties") ∷ [] → new ≡ keyed ++ tokens_of (object (listed_members (map (slot_field s) ds)))
    → new ≡ old ++ field_tokens (properties_by s true ds)
unfolding properties_by
succinct_written old keyed new s ds k n = n ∙ ap (λ ts. ts ++ tokens_of (object (listed_members (map (slot_field s) ds)))) k ∙ append_assoc old (Token.key (codes "succinctProperties") ∷ []) (tokens_of (object (listed_members (map (slot_field s) ds))))

-- properties in full
pub full_written : (old keyed new : List Token) (s : Sight) (ds : List PropDef)
    → keyed ≡ old ++ Token.key (codes "properties") ∷ [] → new ≡ keyed ++ tokens_of (object (listed_members (map (full_field s) ds)))
    → new ≡ old ++ field_tokens (properties_by s false ds)
unfolding properties_by
full_written old keyed new s ds k n = n ∙ ap (λ ts. ts ++ tokens_of (object (listed_members (map (full_field s) ds)))) k ∙ append_assoc old (Token.key (codes "properties") ∷ []) (tokens_of (object (listed_members (map (full_field s) ds))))
