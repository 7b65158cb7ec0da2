-- A property definition that is shown is read back.
use Rattle.std.proofs.Common.{◌≡◌, ◌∙◌, ℕ, List, [], ◌∷◌, Bool, true, false, ◌&&◌, ◌||◌, not, map, refl, ap}
use Rattle.std.specs.Prelude.{ℤ, if◌then◌else◌, Option, Some, is_some, is_none, option_map, option_and_then, unwrap_or, codes, filter_map}
use Rattle.std.specs.List.{list_all, list_any}
use Rattle.serde_json.specs.Data.{Data, boolean, string, object, no_members}
use Rattle.serde_json.specs.Find.{get, as_bool, as_str, as_array}
use Rattle.json_text.specs.Keys.{null_is_none, value_at, as_whole}
use Rattle.json_text.specs.Build.{list_data}
use Rattle.cm_base.specs.declared.value.Value.{Value}
use Rattle.cm_base.specs.declared.value.Value.TheVariants.{Unset, One, Many}
use Rattle.cm_types.specs.declared.property.PropDef.{PropDef}
use Rattle.cm_types.specs.declared.property.Choice.{Choice}
use Rattle.cm_types.specs.declared.property.PropertyKind.{PropertyKind}
use Rattle.cm_types.specs.declared.property.PropertyKind.TheVariants as kinds
use Rattle.cm_types.specs.declared.property.Cardinality.{Cardinality}
use Rattle.cm_types.specs.declared.property.Cardinality.TheVariants.{Single, Multi}
use Rattle.cm_types.specs.Properties.{scalars_of, is_of_kind, value_fault, has_other_cardinality}
use Rattle.cm_types.specs.Changes.{of_kind, default_of, made_prop, has_wrong_value, is_wrong_choice, is_many_for, gives_many}
use Rattle.type_keys.specs.Words.{kind_word, kind_of, cardinality_word, cardinality_of, updatability_word, updatability_of, is_id, is_query_name}
use Rattle.type_keys.specs.declared.kind.KeyKind.TheVariants as keys
use Rattle.type_keys.specs.Keys.{is_object, is_text, is_flag, is_item, is_choice, is_list, is_word, has_kind, wrong_at, has_wrong_key, prop_keys, list_of}
use Rattle.type_json.specs.Reading.{text_in, id_in, flag_in, whole_in, scalar_of, scalars_in, choice_of, choices_in, prop_kind, prop_request, lacks, lacks_prop_key, has_wrong_name}
use Rattle.json_text.specs.Values.{scalar_data}
use Rattle.type_show.specs.Showing.{with_fields, prop_names, prop_words, prop_flags, prop_values, limit_fields, limit_data, choice_data, prop_data}
use Rattle.cm_types.specs.Sound.{is_no_empty_list}
use Rattle.type_show.specs.ReadBack.{asked_prop, IsSoundProp, limit_fits, scalar_fits}
use Rattle.type_show.proofs.Putting.{both, first, second}
use Rattle.type_show.proofs.ShownValues.{kind_again, cardinality_again, updatability_again, is_list_again, all_again, map_same, item_again, is_kept, scalar_again, choice_again, is_choice_again, limit_again, limit_kind}

-- ---- what stands at each key

record AtProp (kind : PropertyKind) (d : PropDef) (m : Data) : Type 0 where
  is_object : is_object m ≡ true
  id : get (codes "id") m ≡ Some (string d.id)
  local_name : get (codes "localName") m ≡ Some (string d.local_name)
  local_namespace : get (codes "localNamespace") m ≡ Some (string d.local_namespace)
  display_name : get (codes "displayName") m ≡ Some (string d.display_name)
  query_name : get (codes "queryName") m ≡ Some (string d.query_name)
  description : get (codes "description") m ≡ Some (string d.description)
  kind_is : get (codes "propertyType") m ≡ Some (string (kind_word d.kind))
  cardinality : get (codes "cardinality") m ≡ Some (string (cardinality_word d.cardinality))
  updatability : get (codes "updatability") m ≡ Some (string (updatability_word d.updatability))
  inherited : get (codes "inherited") m ≡ Some (boolean false)
  required : get (codes "required") m ≡ Some (boolean d.required)
  queryable : get (codes "queryable") m ≡ Some (boolean d.queryable)
  orderable : get (codes "orderable") m ≡ Some (boolean d.orderable)
  open_choice : get (codes "openChoice") m ≡ Some (boolean d.open_choice)
  choices : get (codes "choice") m ≡ Some (list_data (map choice_data d.choices))
  default : get (codes "defaultValue") m ≡ Some (list_data (map scalar_data (scalars_of d.default)))
  max_length : value_at (codes "maxLength") m ≡ null_is_none (limit_data (of_kind kinds.String kind d.max_length))
  min_value : value_at (codes "minValue") m ≡ null_is_none (limit_data (of_kind kinds.Integer kind d.min_value))
  max_value : value_at (codes "maxValue") m ≡ null_is_none (limit_data (of_kind kinds.Integer kind d.max_value))
  resolution : wrong_at (has_kind keys.TimeWord) (codes "resolution") m ≡ false

-- its JSON, with the limits of this kind
abbrev with_limits : PropertyKind → PropDef → Data
with_limits kind d = object
    (with_fields (limit_fields kind d)
    (with_fields (prop_values d)
    (with_fields (prop_flags d)
    (with_fields (prop_words d)
    (with_fields (prop_names d) no_members)))))

at_limits : (kind : PropertyKind) (d : PropDef) → AtProp kind d (with_limits kind d)
at_limits kinds.Boolean d = record { is_object = refl; id = refl; local_name = refl; local_namespace = refl; display_name = refl; query_name = refl; description = refl; kind_is = refl; cardinality = refl; updatability = refl; inherited = refl; required = refl; queryable = refl; orderable = refl; open_choice = refl; choices = refl; default = refl; max_length = refl; min_value = refl; max_value = refl; resolution = refl }
at_limits kinds.Integer d = record { is_object = refl; id = refl; local_name = refl; local_namespace = refl; display_name = refl; query_name = refl; description = refl; kind_is = refl; cardinality = refl; updatability = refl; inherited = refl; required = refl; queryable = refl; orderable = refl; open_choice = refl; choices = refl; default = refl; max_length = refl; min_value = refl; max_value = refl; resolution = refl }
at_limits kinds.Datetime d = record { is_object = refl; id = refl; local_name = refl; local_namespace = refl; display_name = refl; query_name = refl; description = refl; kind_is = refl; cardinality = refl; updatability = refl; inherited = refl; required = refl; queryable = refl; orderable = refl; open_choice = refl; choices = refl; default = refl; max_length = refl; min_value = refl; max_value = refl; resolution = refl }
at_limits kinds.String d = record { is_object = refl; id = refl; local_name = refl; local_namespace = refl; display_name = refl; query_name = refl; description = refl; kind_is = refl; cardinality = refl; updatability = refl; inherited = refl; required = refl; queryable = refl; orderable = refl; open_choice = refl; choices = refl; default = refl; max_length = refl; min_value = refl; max_value = refl; resolution = refl }
at_limits kinds.Uri d = record { is_object = refl; id = refl; local_name = refl; local_namespace = refl; display_name = refl; query_name = refl; description = refl; kind_is = refl; cardinality = refl; updatability = refl; inherited = refl; required = refl; queryable = refl; orderable = refl; open_choice = refl; choices = refl; default = refl; max_length = refl; min_value = refl; max_value = refl; resolution = refl }
at_limits kinds.Id d = record { is_object = refl; id = refl; local_name = refl; local_namespace = refl; display_name = refl; query_name = refl; description = refl; kind_is = refl; cardinality = refl; updatability = refl; inherited = refl; required = refl; queryable = refl; orderable = refl; open_choice = refl; choices = refl; default = refl; max_length = refl; min_value = refl; max_value = refl; resolution = refl }
at_limits kinds.Html d = record { is_object = refl; id = refl; local_name = refl; local_namespace = refl; display_name = refl; query_name = refl; description = refl; kind_is = refl; cardinality = refl; updatability = refl; inherited = refl; required = refl; queryable = refl; orderable = refl; open_choice = refl; choices = refl; default = refl; max_length = refl; min_value = refl; max_value = refl; resolution = refl }

at_prop : (d : PropDef) → AtProp d.kind d (prop_data d)
unfolding prop_data
at_prop d = at_limits d.kind d

-- ---- what is read there

pub text_at : (k : List ℕ) (m : Data) (s : List ℕ) → get k m ≡ Some (string s) → text_in k m ≡ Some s
text_at k m s h = ap (λ o. option_and_then as_str (option_and_then null_is_none o)) h

pub flag_at : (k : List ℕ) (m : Data) (b : Bool) → get k m ≡ Some (boolean b) → flag_in k m ≡ Some b
flag_at k m b h = ap (λ o. option_and_then as_bool (option_and_then null_is_none o)) h

pub word_at : {A : Type 0} (words : List ℕ → Option A) (k : List ℕ) (m : Data) (s : List ℕ) (a : A) → get k m ≡ Some (string s) → words s ≡ Some a → option_and_then words (text_in k m) ≡ Some a
word_at words k m s a h again = ap (option_and_then words) (text_at k m s h) ∙ again

kind_at : (d : PropDef) (m : Data) → AtProp d.kind d m → prop_kind m ≡ d.kind
kind_at d m at = ap (λ o. unwrap_or o kinds.String) (word_at kind_of (codes "propertyType") m (kind_word d.kind) d.kind at.kind_is (kind_again d.kind))

limit_at : (k : List ℕ) (m : Data) (own limit : Option ℤ) → value_at k m ≡ null_is_none (limit_data own) → own ≡ limit → limit_fits limit ≡ true → whole_in k m ≡ own
limit_at k m own limit h e fit = ap (option_and_then as_whole) h ∙ limit_again own (ap limit_fits e ∙ fit)

-- ---- no fault of its values

none_before : {A : Type 0} (b : Bool) (x : A) (rest : Option A) → not (is_none (if b then Some x else rest)) ≡ false → b ≡ false
none_before true x rest h = absurd cc
none_before false x rest h = refl

none_after : {A : Type 0} (b : Bool) (x : A) (rest : Option A) → not (is_none (if b then Some x else rest)) ≡ false → not (is_none rest) ≡ false
none_after true x rest h = absurd cc
none_after false x rest h = h

not_false : (b : Bool) → not b ≡ false → b ≡ true
not_false true h = refl
not_false false h = absurd cc

left_false : (a b : Bool) → (a || b) ≡ false → a ≡ false
left_false true b h = h
left_false false b h = refl

right_false : (a b : Bool) → (a || b) ≡ false → b ≡ false
right_false true b h = absurd cc
right_false false b h = h

default_faultless : (d : PropDef) → IsSoundProp d → not (is_none (value_fault d d.default)) ≡ false
default_faultless d s = left_false _ _ s.def.has_no_fault

has_own_cardinality : (d : PropDef) → IsSoundProp d → has_other_cardinality d.cardinality d.default ≡ false
has_own_cardinality d s = none_before _ _ _ (default_faultless d s)

is_of_own_kind : (d : PropDef) → IsSoundProp d → list_all (is_of_kind d.kind) (scalars_of d.default) ≡ true
is_of_own_kind d s = not_false _ (none_before _ _ _ (none_after _ _ _ (default_faultless d s)))

-- both tests hold of each
each_both : {A : Type 0} (p q : A → Bool) (xs : List A) → list_all p xs ≡ true → list_all q xs ≡ true → list_all (λ x. p x && q x) xs ≡ true
each_both p q [] hp hq = refl
each_both p q (x ∷ xs) hp hq =
    both (p x && q x) _
    (both (p x) (q x) (first (p x) _ hp) (first (q x) _ hq))
    (each_both p q xs (second (p x) _ hp) (second (q x) _ hq))

kept_scalars : (d : PropDef) → IsSoundProp d → list_all (is_kept d.kind) (scalars_of d.default) ≡ true
kept_scalars d s = each_both (is_of_kind d.kind) scalar_fits (scalars_of d.default) (is_of_own_kind d s) s.default_fits

-- a choice with no fault is of the kind
choice_kinds : (d : PropDef) (cs : List Choice) → list_any (is_wrong_choice d) cs ≡ false → list_all (λ c. is_of_kind d.kind c.value) cs ≡ true
choice_kinds d [] h = refl
choice_kinds d (c ∷ cs) h =
    both _ _
    (not_false _ (left_false _ _ (left_false _ _ (left_false _ _ h))))
    (choice_kinds d cs (right_false (is_wrong_choice d c) _ h))

kept_choices : (d : PropDef) → IsSoundProp d → list_all (λ c. is_kept d.kind c.value) d.choices ≡ true
kept_choices d s =
    each_both (λ c. is_of_kind d.kind c.value) (λ c. scalar_fits c.value) d.choices
    (choice_kinds d d.choices (right_false (not (is_none (value_fault d d.default))) _ s.def.has_no_fault))
    s.choices_fit

-- ---- the request

choices_at : (d : PropDef) (m : Data) → AtProp d.kind d m → IsSoundProp d → choices_in (prop_kind m) (codes "choice") m ≡ Some d.choices
choices_at d m at s =
    ap (λ k. choices_in k (codes "choice") m) (kind_at d m at)
    ∙ ap (λ o. option_map (filter_map (choice_of d.kind)) (option_map list_of (option_and_then as_array (option_and_then null_is_none o)))) at.choices
    ∙ ap Some (all_again (choice_of d.kind) choice_data (λ c. c) (λ c. is_kept d.kind c.value) d.choices (λ c h. choice_again d.kind c h) (kept_choices d s) ∙ map_same d.choices)

default_at : (d : PropDef) (m : Data) → AtProp d.kind d m → IsSoundProp d → scalars_in (prop_kind m) (codes "defaultValue") m ≡ Some (scalars_of d.default)
default_at d m at s =
    ap (λ k. scalars_in k (codes "defaultValue") m) (kind_at d m at)
    ∙ ap (λ o. option_map (filter_map (scalar_of d.kind)) (option_map list_of (option_and_then as_array (option_and_then null_is_none o)))) at.default
    ∙ ap Some (all_again (scalar_of d.kind) scalar_data (λ x. x) (is_kept d.kind) (scalars_of d.default) (scalar_again d.kind) (kept_scalars d s) ∙ map_same (scalars_of d.default))

request_at : (d : PropDef) (m : Data) → AtProp d.kind d m → IsSoundProp d → prop_request m ≡ asked_prop d
request_at d m at s = λ i. record {
  id = ap (λ o. unwrap_or o []) (text_at (codes "id") m d.id at.id) i;
  local_name = text_at (codes "localName") m d.local_name at.local_name i;
  local_namespace = text_at (codes "localNamespace") m d.local_namespace at.local_namespace i;
  display_name = text_at (codes "displayName") m d.display_name at.display_name i;
  query_name = text_at (codes "queryName") m d.query_name at.query_name i;
  description = text_at (codes "description") m d.description at.description i;
  kind = kind_at d m at i;
  cardinality = word_at cardinality_of (codes "cardinality") m _ d.cardinality at.cardinality (cardinality_again d.cardinality) i;
  updatability = word_at updatability_of (codes "updatability") m _ d.updatability at.updatability (updatability_again d.updatability) i;
  required = flag_at (codes "required") m d.required at.required i;
  queryable = flag_at (codes "queryable") m d.queryable at.queryable i;
  orderable = flag_at (codes "orderable") m d.orderable at.orderable i;
  open_choice = flag_at (codes "openChoice") m d.open_choice at.open_choice i;
  choices = choices_at d m at s i;
  default = default_at d m at s i;
  max_length = limit_at (codes "maxLength") m _ d.max_length at.max_length s.def.max_length_of_kind s.max_length_fits i;
  min_value = limit_at (codes "minValue") m _ d.min_value at.min_value s.def.min_value_of_kind s.min_value_fits i;
  max_value = limit_at (codes "maxValue") m _ d.max_value at.max_value s.def.max_value_of_kind s.max_value_fits i;
}

pub asked_again : (d : PropDef) → IsSoundProp d → prop_request (prop_data d) ≡ asked_prop d
asked_again d s = request_at d (prop_data d) (at_prop d) s

-- ---- each key has its kind

pub either : (a b : Bool) → a ≡ false → b ≡ false → (a || b) ≡ false
either false b p q = q
either true b p q = p

pub right_text : (k : List ℕ) (m : Data) (s : List ℕ) → get k m ≡ Some (string s) → wrong_at (has_kind keys.Text) k m ≡ false
right_text k m s h = ap (λ o. unwrap_or (option_map (λ v. not (is_text v)) (option_and_then null_is_none o)) false) h

pub right_flag : (k : List ℕ) (m : Data) (b : Bool) → get k m ≡ Some (boolean b) → wrong_at (has_kind keys.Flag) k m ≡ false
right_flag k m b h = ap (λ o. unwrap_or (option_map (λ v. not (is_flag v)) (option_and_then null_is_none o)) false) h

pub right_word : {A : Type 0} (words : List ℕ → Option A) (k : List ℕ) (m : Data) (s : List ℕ) (a : A) → get k m ≡ Some (string s) → words s ≡ Some a → wrong_at (is_word words) k m ≡ false
right_word words k m s a h again =
    ap (λ o. unwrap_or (option_map (λ v. not (is_word words v)) (option_and_then null_is_none o)) false) h
    ∙ ap (λ o. not (is_some o)) again

pub right_list : {A : Type 0} (test : Data → Bool) (f : A → Data) (xs : List A) (k : List ℕ) (m : Data) → get k m ≡ Some (list_data (map f xs)) → list_all (λ x. test (f x)) xs ≡ true → wrong_at (is_list test) k m ≡ false
right_list test f xs k m h ok =
    ap (λ o. unwrap_or (option_map (λ v. not (is_list test v)) (option_and_then null_is_none o)) false) h
    ∙ ap not (is_list_again test f xs ok)

right_limit : (k : List ℕ) (m : Data) (own limit : Option ℤ) → value_at k m ≡ null_is_none (limit_data own) → own ≡ limit → limit_fits limit ≡ true → wrong_at (has_kind keys.Whole) k m ≡ false
right_limit k m own limit h e fit =
    ap (λ o. unwrap_or (option_map (λ v. not (has_kind keys.Whole v)) o) false) h
    ∙ limit_kind own (ap limit_fits e ∙ fit)

-- a test that follows from another holds of each
each_from : {A : Type 0} (p q : A → Bool) (xs : List A) → ((x : A) → p x ≡ true → q x ≡ true) → list_all p xs ≡ true → list_all q xs ≡ true
each_from p q [] f h = refl
each_from p q (x ∷ xs) f h = both _ _ (f x (first _ _ h)) (each_from p q xs f (second (p x) _ h))

keys_at : (d : PropDef) (m : Data) → AtProp d.kind d m → IsSoundProp d → has_wrong_key prop_keys m ≡ false
keys_at d m at s =
    either _ _ (right_text (codes "id") m _ at.id)
    (either _ _ (right_text (codes "localName") m _ at.local_name)
    (either _ _ (right_text (codes "localNamespace") m _ at.local_namespace)
    (either _ _ (right_text (codes "displayName") m _ at.display_name)
    (either _ _ (right_text (codes "queryName") m _ at.query_name)
    (either _ _ (right_text (codes "description") m _ at.description)
    (either _ _ (right_word kind_of (codes "propertyType") m _ _ at.kind_is (kind_again d.kind))
    (either _ _ (right_word cardinality_of (codes "cardinality") m _ _ at.cardinality (cardinality_again d.cardinality))
    (either _ _ (right_word updatability_of (codes "updatability") m _ _ at.updatability (updatability_again d.updatability))
    (either _ _ (right_flag (codes "inherited") m _ at.inherited)
    (either _ _ (right_flag (codes "required") m _ at.required)
    (either _ _ (right_flag (codes "queryable") m _ at.queryable)
    (either _ _ (right_flag (codes "orderable") m _ at.orderable)
    (either _ _ (right_flag (codes "openChoice") m _ at.open_choice)
    (either _ _ (right_list is_choice choice_data d.choices (codes "choice") m at.choices (each_from _ _ d.choices is_choice_again s.choices_fit))
    (either _ _ (right_list is_item scalar_data (scalars_of d.default) (codes "defaultValue") m at.default (each_from _ _ (scalars_of d.default) item_again s.default_fits))
    (either _ _ (right_limit (codes "maxLength") m _ _ at.max_length s.def.max_length_of_kind s.max_length_fits)
    (either _ _ (right_limit (codes "minValue") m _ _ at.min_value s.def.min_value_of_kind s.min_value_fits)
    (either _ _ (right_limit (codes "maxValue") m _ _ at.max_value s.def.max_value_of_kind s.max_value_fits)
    (either _ _ at.resolution refl)))))))))))))))))))

pub keys_again : (d : PropDef) → IsSoundProp d → has_wrong_key prop_keys (prop_data d) ≡ false
keys_again d s = keys_at d (prop_data d) (at_prop d) s

-- ---- what it needs, and its names

pub lacks_at : (k : List ℕ) (m : Data) (s : List ℕ) → get k m ≡ Some (string s) → lacks k m ≡ false
lacks_at k m s h = ap (λ o. is_none (option_and_then null_is_none o)) h

pub is_object_again : (d : PropDef) → is_object (prop_data d) ≡ true
is_object_again d = (at_prop d).is_object

pub needed_again : (d : PropDef) → lacks_prop_key (prop_data d) ≡ false
needed_again d =
    let at = at_prop d in
    either _ _ (lacks_at (codes "id") (prop_data d) _ at.id) (lacks_at (codes "propertyType") (prop_data d) _ at.kind_is)

pub id_again : (d : PropDef) → id_in (prop_data d) ≡ d.id
id_again d = ap (λ o. unwrap_or o []) (text_at (codes "id") (prop_data d) d.id (at_prop d).id)

pub names_at : (m : Data) (id query_name : List ℕ) → id_in m ≡ id → text_in (codes "queryName") m ≡ Some query_name → is_id id ≡ true → is_query_name query_name ≡ true → has_wrong_name m ≡ false
names_at m id query_name i q hi hq =
    either _ _
    (ap (λ x. not (is_id x)) i ∙ ap not hi)
    (ap (λ o. not (is_query_name (unwrap_or o (id_in m)))) q ∙ ap not hq)

pub names_again : (d : PropDef) → IsSoundProp d → has_wrong_name (prop_data d) ≡ false
names_again d s = names_at (prop_data d) d.id d.query_name (id_again d) (text_at (codes "queryName") (prop_data d) d.query_name (at_prop d).query_name) s.id s.query_name

-- ---- the definition that its request makes

default_again : (c : Cardinality) (v : Value) → has_other_cardinality c v ≡ false → is_no_empty_list v ≡ true → default_of c (scalars_of v) ≡ v
default_again Single Unset h n = refl
default_again Single (One x) h n = refl
default_again Single (Many xs) h n = absurd cc
default_again Multi Unset h n = refl
default_again Multi (One x) h n = absurd cc
default_again Multi (Many []) h n = absurd cc
default_again Multi (Many (x ∷ xs)) h n = refl

again_of : (kind own : PropertyKind) (limit : Option ℤ) → of_kind kind own limit ≡ limit → of_kind kind own (of_kind kind own limit) ≡ limit
again_of kind own limit e = ap (of_kind kind own) e ∙ e

pub made_again : (d : PropDef) → IsSoundProp d → made_prop (asked_prop d) ≡ d
made_again d s = λ i. record d {
  default = default_again d.cardinality d.default (has_own_cardinality d s) s.def.default_is_no_empty_list i;
  max_length = again_of kinds.String d.kind d.max_length s.def.max_length_of_kind i;
  min_value = again_of kinds.Integer d.kind d.min_value s.def.min_value_of_kind i;
  max_value = again_of kinds.Integer d.kind d.max_value s.def.max_value_of_kind i;
}

-- a single property has no list of values
many_for : (c : Cardinality) (v : Value) → has_other_cardinality c v ≡ false → is_many_for c (scalars_of v) ≡ false
many_for Single Unset h = refl
many_for Single (One x) h = refl
many_for Single (Many xs) h = absurd cc
many_for Multi v h = refl

pub many_again : (d : PropDef) → IsSoundProp d → gives_many (asked_prop d) ≡ false
many_again d s = many_for d.cardinality d.default (has_own_cardinality d s)

pub faultless_again : (d : PropDef) → IsSoundProp d → has_wrong_value d ≡ false
faultless_again d s = s.def.has_no_fault
