-- A type definition that is shown is read back.
use Rattle.std.proofs.Common.{◌≡◌, ◌∙◌, ℕ, List, [], ◌∷◌, Bool, true, false, ◌&&◌, ◌||◌, not, map, refl, sym, ap}
use Rattle.std.specs.Prelude.{Option, Some, None, Ok, is_some, is_none, option_map, option_and_then, unwrap_or, codes, filter_map, bytes_eq, All}
use Rattle.std.specs.List.{list_all, list_any}
use Rattle.std.proofs.lemmas.List.Elements.{All-head, All-tail}
use Rattle.std.proofs.lemmas.Slice.Eq.{bytes_eq-Decides}
use Rattle.serde_json.specs.Data.{Data, boolean, string, object, no_members}
use Rattle.serde_json.specs.Find.{get, as_bool, as_str, as_array, as_object}
use Rattle.json_text.specs.Keys.{null_is_none, value_at}
use Rattle.cm_base.specs.declared.cause.Cause.TheVariants as causes
use Rattle.cm_base.specs.Judged.{Judged, refuse, ◌>>◌}
use Rattle.cm_types.specs.declared.property.PropDef.{PropDef}
use Rattle.cm_types.specs.declared.definition.BaseType.{BaseType}
use Rattle.cm_types.specs.declared.definition.BaseType.TheVariants as bases
use Rattle.cm_types.specs.declared.definition.TypeMutability.{TypeMutability}
use Rattle.cm_types.specs.declared.definition.TypeDef.{TypeDef}
use Rattle.cm_types.specs.Changes.{is_before, made_props, has_wrong_value, gives_many, if_kept, is_document, is_relationship, base_id}
use Rattle.type_keys.specs.Words.{content_word, content_of}
use Rattle.type_keys.specs.declared.kind.KeyKind.TheVariants as keys
use Rattle.type_keys.specs.Keys.{pairs_of, is_object, is_text, is_objects, is_mutability, has_kind, wrong_at, has_wrong_key, type_keys, prop_keys, list_of}
use Rattle.type_json.specs.Reading.{text_in, id_in, base_in, flag_in, texts_in, props_in, prop_request, prop_requests, mutability_request, type_request, lacks, lacks_parent, lacks_prop_key, lacks_key, has_other_key, has_wrong_kind, has_wrong_name, has_wrong_names, have_wrong_values, judge_type}
use Rattle.type_show.specs.Showing.{with_fields, prop_data, prop_field, props_data, mutability_data, type_names, type_values, type_flags, base_fields, parent_fields, props_fields, texts_data, type_data}
use Rattle.type_show.specs.ReadBack.{asked_prop, asked_type, IsSoundProp, IsSoundType, ascend}
use Rattle.type_show.proofs.Putting.{both, first, second, ascending, put_ascending}
use Rattle.type_show.proofs.ShownValues.{content_again, all_again, map_same}
use Rattle.type_show.proofs.AskedProps.{text_at, flag_at, word_at, either, right_text, right_flag, right_word, right_list, lacks_at, names_at, asked_again, keys_again, is_object_again, needed_again, id_again, names_again, made_again, many_again, faultless_again}

-- ---- the property definitions

fields_ascend : (d : PropDef) (ds : List PropDef) → list_all (λ e. is_before d.id e.id) ds ≡ true → list_all (λ g. is_before d.id g.0) (map prop_field ds) ≡ true
fields_ascend d [] h = refl
fields_ascend d (e ∷ ds) h = both _ _ (first _ _ h) (fields_ascend d ds (second (is_before d.id e.id) _ h))

names_ascend : (ds : List PropDef) → ascend ds ≡ true → ascending (map prop_field ds) ≡ true
names_ascend [] h = refl
names_ascend (d ∷ ds) h = both _ _ (fields_ascend d ds (first _ _ h)) (names_ascend ds (second (list_all (λ e. is_before d.id e.id) ds) _ h))

-- the members of the definitions, in order
members_again : (ds : List PropDef) → ascend ds ≡ true → pairs_of (with_fields (map prop_field ds) no_members) ≡ map prop_field ds
members_again ds h = put_ascending (map prop_field ds) (names_ascend ds h)

-- what no sound definition has, none of them has
none_has : {A : Type 0} (p : A → Bool) (f : PropDef → A) (ds : List PropDef) → ((d : PropDef) → IsSoundProp d → p (f d) ≡ false) → All IsSoundProp ds → list_any p (map f ds) ≡ false
none_has p f [] never h = refl
none_has p f (d ∷ ds) never h = either _ _ (never d (All-head IsSoundProp d ds h)) (none_has p f ds never (All-tail IsSoundProp d ds h))

each_is : {A : Type 0} (g : A → Bool) (f : PropDef → A) (ds : List PropDef) → ((d : PropDef) → g (f d) ≡ true) → list_all g (map f ds) ≡ true
each_is g f [] is = refl
each_is g f (d ∷ ds) is = both _ _ (is d) (each_is g f ds is)

requests_again : (ds : List PropDef) → All IsSoundProp ds → map (λ p. prop_request p.1) (map prop_field ds) ≡ map asked_prop ds
requests_again [] h = refl
requests_again (d ∷ ds) h = λ i. asked_again d (All-head IsSoundProp d ds h) i ∷ requests_again ds (All-tail IsSoundProp d ds h) i

pub props_made : (ds : List PropDef) → All IsSoundProp ds → made_props (map asked_prop ds) ≡ ds
props_made [] h = refl
props_made (d ∷ ds) h = λ i. made_again d (All-head IsSoundProp d ds h) i ∷ props_made ds (All-tail IsSoundProp d ds h) i

same_bytes : (xs : List ℕ) → bytes_eq xs xs ≡ true
same_bytes xs = (bytes_eq-Decides xs xs).1 refl

id_is_key : (d : PropDef) → not (bytes_eq (id_in (prop_data d)) d.id) ≡ false
id_is_key d = ap (λ x. not (bytes_eq x d.id)) (id_again d) ∙ ap not (same_bytes d.id)

map_id : (ds : List PropDef) → map (λ d. d) ds ≡ ds
map_id = map_same

values_again : (ds : List PropDef) → All IsSoundProp ds → have_wrong_values (map asked_prop ds) ≡ false
values_again ds h =
    either _ _
    (none_has gives_many asked_prop ds many_again h)
    (ap (list_any has_wrong_value) (props_made ds h ∙ sym (map_same ds)) ∙ none_has has_wrong_value (λ d. d) ds faultless_again h)

-- ---- what stands at each key

record AtType (base : BaseType) (parent : Option (List ℕ)) (t : TypeDef) (m : Data) : Type 0 where
  is_object : is_object m ≡ true
  id : get (codes "id") m ≡ Some (string t.id)
  local_name : get (codes "localName") m ≡ Some (string t.local_name)
  local_namespace : get (codes "localNamespace") m ≡ Some (string t.local_namespace)
  display_name : get (codes "displayName") m ≡ Some (string t.display_name)
  query_name : get (codes "queryName") m ≡ Some (string t.query_name)
  description : get (codes "description") m ≡ Some (string t.description)
  base_is : get (codes "baseId") m ≡ Some (string (base_id t.base))
  parent_is : get (codes "parentId") m ≡ option_map string parent
  creatable : get (codes "creatable") m ≡ Some (boolean t.creatable)
  fileable : get (codes "fileable") m ≡ Some (boolean t.fileable)
  queryable : get (codes "queryable") m ≡ Some (boolean t.queryable)
  fulltext_indexed : get (codes "fulltextIndexed") m ≡ Some (boolean t.fulltext_indexed)
  included_in_supertype_query : get (codes "includedInSupertypeQuery") m ≡ Some (boolean t.included_in_supertype_query)
  controllable_policy : get (codes "controllablePolicy") m ≡ Some (boolean t.controllable_policy)
  controllable_acl : get (codes "controllableACL") m ≡ Some (boolean t.controllable_acl)
  mutability : get (codes "typeMutability") m ≡ Some (mutability_data t.mutability)
  versionable : get (codes "versionable") m ≡ if_kept (is_document base) (Some (boolean t.versionable))
  content_allowed : get (codes "contentStreamAllowed") m ≡ if_kept (is_document base) (Some (string (content_word t.content_allowed)))
  source_types : get (codes "allowedSourceTypes") m ≡ if_kept (is_relationship base) (Some (texts_data t.allowed_source_types))
  target_types : get (codes "allowedTargetTypes") m ≡ if_kept (is_relationship base) (Some (texts_data t.allowed_target_types))
  properties : get (codes "propertyDefinitions") m ≡ Some (props_data t.properties)

-- its JSON, with what types of this base have, and this parent
abbrev with_base : BaseType → Option (List ℕ) → TypeDef → Data
with_base base parent t = object
    (with_fields (props_fields true t.properties)
    (with_fields (parent_fields parent)
    (with_fields (base_fields base t)
    (with_fields (type_flags t)
    (with_fields (type_values t)
    (with_fields (type_names t) no_members))))))

at_base : (base : BaseType) (parent : Option (List ℕ)) (t : TypeDef) → AtType base parent t (with_base base parent t)
at_base bases.Document None t = record { is_object = refl; id = refl; local_name = refl; local_namespace = refl; display_name = refl; query_name = refl; description = refl; base_is = refl; parent_is = refl; creatable = refl; fileable = refl; queryable = refl; fulltext_indexed = refl; included_in_supertype_query = refl; controllable_policy = refl; controllable_acl = refl; mutability = refl; versionable = refl; content_allowed = refl; source_types = refl; target_types = refl; properties = refl }
at_base bases.Document (Some p) t = record { is_object = refl; id = refl; local_name = refl; local_namespace = refl; display_name = refl; query_name = refl; description = refl; base_is = refl; parent_is = refl; creatable = refl; fileable = refl; queryable = refl; fulltext_indexed = refl; included_in_supertype_query = refl; controllable_policy = refl; controllable_acl = refl; mutability = refl; versionable = refl; content_allowed = refl; source_types = refl; target_types = refl; properties = refl }
at_base bases.Folder None t = record { is_object = refl; id = refl; local_name = refl; local_namespace = refl; display_name = refl; query_name = refl; description = refl; base_is = refl; parent_is = refl; creatable = refl; fileable = refl; queryable = refl; fulltext_indexed = refl; included_in_supertype_query = refl; controllable_policy = refl; controllable_acl = refl; mutability = refl; versionable = refl; content_allowed = refl; source_types = refl; target_types = refl; properties = refl }
at_base bases.Folder (Some p) t = record { is_object = refl; id = refl; local_name = refl; local_namespace = refl; display_name = refl; query_name = refl; description = refl; base_is = refl; parent_is = refl; creatable = refl; fileable = refl; queryable = refl; fulltext_indexed = refl; included_in_supertype_query = refl; controllable_policy = refl; controllable_acl = refl; mutability = refl; versionable = refl; content_allowed = refl; source_types = refl; target_types = refl; properties = refl }
at_base bases.Relationship None t = record { is_object = refl; id = refl; local_name = refl; local_namespace = refl; display_name = refl; query_name = refl; description = refl; base_is = refl; parent_is = refl; creatable = refl; fileable = refl; queryable = refl; fulltext_indexed = refl; included_in_supertype_query = refl; controllable_policy = refl; controllable_acl = refl; mutability = refl; versionable = refl; content_allowed = refl; source_types = refl; target_types = refl; properties = refl }
at_base bases.Relationship (Some p) t = record { is_object = refl; id = refl; local_name = refl; local_namespace = refl; display_name = refl; query_name = refl; description = refl; base_is = refl; parent_is = refl; creatable = refl; fileable = refl; queryable = refl; fulltext_indexed = refl; included_in_supertype_query = refl; controllable_policy = refl; controllable_acl = refl; mutability = refl; versionable = refl; content_allowed = refl; source_types = refl; target_types = refl; properties = refl }
at_base bases.Policy None t = record { is_object = refl; id = refl; local_name = refl; local_namespace = refl; display_name = refl; query_name = refl; description = refl; base_is = refl; parent_is = refl; creatable = refl; fileable = refl; queryable = refl; fulltext_indexed = refl; included_in_supertype_query = refl; controllable_policy = refl; controllable_acl = refl; mutability = refl; versionable = refl; content_allowed = refl; source_types = refl; target_types = refl; properties = refl }
at_base bases.Policy (Some p) t = record { is_object = refl; id = refl; local_name = refl; local_namespace = refl; display_name = refl; query_name = refl; description = refl; base_is = refl; parent_is = refl; creatable = refl; fileable = refl; queryable = refl; fulltext_indexed = refl; included_in_supertype_query = refl; controllable_policy = refl; controllable_acl = refl; mutability = refl; versionable = refl; content_allowed = refl; source_types = refl; target_types = refl; properties = refl }
at_base bases.Item None t = record { is_object = refl; id = refl; local_name = refl; local_namespace = refl; display_name = refl; query_name = refl; description = refl; base_is = refl; parent_is = refl; creatable = refl; fileable = refl; queryable = refl; fulltext_indexed = refl; included_in_supertype_query = refl; controllable_policy = refl; controllable_acl = refl; mutability = refl; versionable = refl; content_allowed = refl; source_types = refl; target_types = refl; properties = refl }
at_base bases.Item (Some p) t = record { is_object = refl; id = refl; local_name = refl; local_namespace = refl; display_name = refl; query_name = refl; description = refl; base_is = refl; parent_is = refl; creatable = refl; fileable = refl; queryable = refl; fulltext_indexed = refl; included_in_supertype_query = refl; controllable_policy = refl; controllable_acl = refl; mutability = refl; versionable = refl; content_allowed = refl; source_types = refl; target_types = refl; properties = refl }
at_base bases.Secondary None t = record { is_object = refl; id = refl; local_name = refl; local_namespace = refl; display_name = refl; query_name = refl; description = refl; base_is = refl; parent_is = refl; creatable = refl; fileable = refl; queryable = refl; fulltext_indexed = refl; included_in_supertype_query = refl; controllable_policy = refl; controllable_acl = refl; mutability = refl; versionable = refl; content_allowed = refl; source_types = refl; target_types = refl; properties = refl }
at_base bases.Secondary (Some p) t = record { is_object = refl; id = refl; local_name = refl; local_namespace = refl; display_name = refl; query_name = refl; description = refl; base_is = refl; parent_is = refl; creatable = refl; fileable = refl; queryable = refl; fulltext_indexed = refl; included_in_supertype_query = refl; controllable_policy = refl; controllable_acl = refl; mutability = refl; versionable = refl; content_allowed = refl; source_types = refl; target_types = refl; properties = refl }

at_type : (t : TypeDef) → AtType t.base t.parent t (type_data true t)
unfolding type_data
at_type t = at_base t.base t.parent t

-- ---- attributes of one base

kept_flag : (k : List ℕ) (m : Data) (kept : Bool) (b : Bool) → get k m ≡ if_kept kept (Some (boolean b)) → flag_in k m ≡ if_kept kept (Some b)
kept_flag k m true b h = flag_at k m b h
kept_flag k m false b h = ap (λ o. option_and_then as_bool (option_and_then null_is_none o)) h

kept_word : {A : Type 0} (words : List ℕ → Option A) (k : List ℕ) (m : Data) (kept : Bool) (s : List ℕ) (a : A) → get k m ≡ if_kept kept (Some (string s)) → words s ≡ Some a → option_and_then words (text_in k m) ≡ if_kept kept (Some a)
kept_word words k m true s a h again = word_at words k m s a h again
kept_word words k m false s a h again = ap (λ o. option_and_then words (option_and_then as_str (option_and_then null_is_none o))) h

texts_at : (k : List ℕ) (m : Data) (ts : List (List ℕ)) → get k m ≡ Some (texts_data ts) → texts_in k m ≡ Some ts
texts_at k m ts h =
    ap (λ o. option_map (filter_map as_str) (option_map list_of (option_and_then as_array (option_and_then null_is_none o)))) h
    ∙ ap Some (all_again as_str string (λ t. t) (λ t. true) ts (λ t e. refl) (each_true ts) ∙ map_same ts)
  where
    each_true : (ts : List (List ℕ)) → list_all (λ t. true) ts ≡ true
    each_true [] = refl
    each_true (t ∷ ts) = each_true ts

kept_texts : (k : List ℕ) (m : Data) (kept : Bool) (ts : List (List ℕ)) → get k m ≡ if_kept kept (Some (texts_data ts)) → texts_in k m ≡ if_kept kept (Some ts)
kept_texts k m true ts h = texts_at k m ts h
kept_texts k m false ts h = ap (λ o. option_map (filter_map as_str) (option_map list_of (option_and_then as_array (option_and_then null_is_none o)))) h

parent_at : (k : List ℕ) (m : Data) (parent : Option (List ℕ)) → get k m ≡ option_map string parent → text_in k m ≡ parent
parent_at k m None h = ap (λ o. option_and_then as_str (option_and_then null_is_none o)) h
parent_at k m (Some p) h = text_at k m p h

-- ---- the request

mutability_at : (m : Data) (u : TypeMutability) → get (codes "typeMutability") m ≡ Some (mutability_data u)
    → mutability_request (value_at (codes "typeMutability") m) ≡ record { create = Some u.create; update = Some u.update; delete = Some u.delete }
unfolding mutability_data
mutability_at m u h = ap (λ o. mutability_request (option_and_then null_is_none o)) h

props_at : (m : Data) (ds : List PropDef) → get (codes "propertyDefinitions") m ≡ Some (props_data ds) → ascend ds ≡ true → props_in m ≡ map prop_field ds
props_at m ds h a = ap (λ o. unwrap_or (option_map pairs_of (option_and_then as_object (option_and_then null_is_none o))) []) h ∙ members_again ds a

request_at : (t : TypeDef) (m : Data) → AtType t.base t.parent t m → IsSoundType t → type_request m ≡ asked_type t
request_at t m at s = λ i. record {
  id = ap (λ o. unwrap_or o []) (text_at (codes "id") m t.id at.id) i;
  base = ap (λ o. unwrap_or o []) (text_at (codes "baseId") m (base_id t.base) at.base_is) i;
  parent = parent_at (codes "parentId") m t.parent at.parent_is i;
  local_name = text_at (codes "localName") m t.local_name at.local_name i;
  local_namespace = text_at (codes "localNamespace") m t.local_namespace at.local_namespace i;
  display_name = text_at (codes "displayName") m t.display_name at.display_name i;
  query_name = text_at (codes "queryName") m t.query_name at.query_name i;
  description = text_at (codes "description") m t.description at.description i;
  creatable = flag_at (codes "creatable") m t.creatable at.creatable i;
  fileable = flag_at (codes "fileable") m t.fileable at.fileable i;
  queryable = flag_at (codes "queryable") m t.queryable at.queryable i;
  fulltext_indexed = flag_at (codes "fulltextIndexed") m t.fulltext_indexed at.fulltext_indexed i;
  included_in_supertype_query = flag_at (codes "includedInSupertypeQuery") m t.included_in_supertype_query at.included_in_supertype_query i;
  controllable_policy = flag_at (codes "controllablePolicy") m t.controllable_policy at.controllable_policy i;
  controllable_acl = flag_at (codes "controllableACL") m t.controllable_acl at.controllable_acl i;
  mutability = mutability_at m t.mutability at.mutability i;
  versionable = kept_flag (codes "versionable") m (is_document t.base) t.versionable at.versionable i;
  content_allowed = kept_word content_of (codes "contentStreamAllowed") m (is_document t.base) _ t.content_allowed at.content_allowed (content_again t.content_allowed) i;
  allowed_source_types = kept_texts (codes "allowedSourceTypes") m (is_relationship t.base) t.allowed_source_types at.source_types i;
  allowed_target_types = kept_texts (codes "allowedTargetTypes") m (is_relationship t.base) t.allowed_target_types at.target_types i;
  properties = (ap (map (λ p. prop_request p.1)) (props_at m t.properties at.properties s.in_order) ∙ requests_again t.properties s.properties) i;
}

-- ---- each key has its kind

right_kept_flag : (k : List ℕ) (m : Data) (kept : Bool) (b : Bool) → get k m ≡ if_kept kept (Some (boolean b)) → wrong_at (has_kind keys.Flag) k m ≡ false
right_kept_flag k m true b h = right_flag k m b h
right_kept_flag k m false b h = ap (λ o. unwrap_or (option_map (λ v. not (has_kind keys.Flag v)) (option_and_then null_is_none o)) false) h

right_kept_word : (k : List ℕ) (m : Data) (kept : Bool) (t : TypeDef) → get k m ≡ if_kept kept (Some (string (content_word t.content_allowed))) → wrong_at (has_kind keys.ContentWord) k m ≡ false
right_kept_word k m true t h = right_word content_of k m _ t.content_allowed h (content_again t.content_allowed)
right_kept_word k m false t h = ap (λ o. unwrap_or (option_map (λ v. not (has_kind keys.ContentWord v)) (option_and_then null_is_none o)) false) h

all_texts : (ts : List (List ℕ)) → list_all (λ t. is_text (string t)) ts ≡ true
all_texts [] = refl
all_texts (t ∷ ts) = all_texts ts

right_kept_texts : (k : List ℕ) (m : Data) (kept : Bool) (ts : List (List ℕ)) → get k m ≡ if_kept kept (Some (texts_data ts)) → wrong_at (has_kind keys.Texts) k m ≡ false
right_kept_texts k m true ts h = right_list is_text string ts k m h (all_texts ts)
right_kept_texts k m false ts h = ap (λ o. unwrap_or (option_map (λ v. not (has_kind keys.Texts v)) (option_and_then null_is_none o)) false) h

right_parent : (k : List ℕ) (m : Data) (parent : Option (List ℕ)) → get k m ≡ option_map string parent → wrong_at (has_kind keys.Text) k m ≡ false
right_parent k m None h = ap (λ o. unwrap_or (option_map (λ v. not (is_text v)) (option_and_then null_is_none o)) false) h
right_parent k m (Some p) h = right_text k m p h

right_mutability : (m : Data) (u : TypeMutability) → get (codes "typeMutability") m ≡ Some (mutability_data u) → wrong_at (has_kind keys.Mutability) (codes "typeMutability") m ≡ false
unfolding mutability_data
right_mutability m u h = ap (λ o. unwrap_or (option_map (λ v. not (is_mutability v)) (option_and_then null_is_none o)) false) h

right_props : (m : Data) (ds : List PropDef) → get (codes "propertyDefinitions") m ≡ Some (props_data ds) → ascend ds ≡ true → wrong_at (has_kind keys.Objects) (codes "propertyDefinitions") m ≡ false
right_props m ds h a =
    ap (λ o. unwrap_or (option_map (λ v. not (is_objects v)) (option_and_then null_is_none o)) false) h
    ∙ ap (λ ps. not (list_all (λ p. is_object p.1) ps)) (members_again ds a)
    ∙ ap not (each_is (λ p. is_object p.1) prop_field ds is_object_again)

keys_at : (t : TypeDef) (m : Data) → AtType t.base t.parent t m → IsSoundType t → has_wrong_key type_keys m ≡ false
keys_at t m at s =
    either _ _ (right_text (codes "id") m _ at.id)
    (either _ _ (right_text (codes "localName") m _ at.local_name)
    (either _ _ (right_text (codes "localNamespace") m _ at.local_namespace)
    (either _ _ (right_text (codes "displayName") m _ at.display_name)
    (either _ _ (right_text (codes "queryName") m _ at.query_name)
    (either _ _ (right_text (codes "description") m _ at.description)
    (either _ _ (right_text (codes "baseId") m _ at.base_is)
    (either _ _ (right_parent (codes "parentId") m t.parent at.parent_is)
    (either _ _ (right_flag (codes "creatable") m _ at.creatable)
    (either _ _ (right_flag (codes "fileable") m _ at.fileable)
    (either _ _ (right_flag (codes "queryable") m _ at.queryable)
    (either _ _ (right_flag (codes "fulltextIndexed") m _ at.fulltext_indexed)
    (either _ _ (right_flag (codes "includedInSupertypeQuery") m _ at.included_in_supertype_query)
    (either _ _ (right_flag (codes "controllablePolicy") m _ at.controllable_policy)
    (either _ _ (right_flag (codes "controllableACL") m _ at.controllable_acl)
    (either _ _ (right_mutability m t.mutability at.mutability)
    (either _ _ (right_kept_flag (codes "versionable") m (is_document t.base) _ at.versionable)
    (either _ _ (right_kept_word (codes "contentStreamAllowed") m (is_document t.base) t at.content_allowed)
    (either _ _ (right_kept_texts (codes "allowedSourceTypes") m (is_relationship t.base) _ at.source_types)
    (either _ _ (right_kept_texts (codes "allowedTargetTypes") m (is_relationship t.base) _ at.target_types)
    (either _ _ (right_props m t.properties at.properties s.in_order) refl))))))))))))))))))))

-- ---- no condition holds

-- what no sound definition has, none of those that are shown has
none_shown : (p : List ℕ × Data → Bool) (m : Data) (ds : List PropDef) → props_in m ≡ map prop_field ds → ((d : PropDef) → IsSoundProp d → p (prop_field d) ≡ false) → All IsSoundProp ds → list_any p (props_in m) ≡ false
none_shown p m ds e never h = ap (list_any p) e ∙ none_has p prop_field ds never h

kinds_at : (t : TypeDef) (m : Data) → AtType t.base t.parent t m → IsSoundType t → has_wrong_kind m ≡ false
kinds_at t m at s =
    either _ _ (keys_at t m at s)
    (none_shown (λ p. has_wrong_key prop_keys p.1) m t.properties (props_at m t.properties at.properties s.in_order) keys_again s.properties)

id_at : (t : TypeDef) (m : Data) → AtType t.base t.parent t m → id_in m ≡ t.id
id_at t m at = ap (λ o. unwrap_or o []) (text_at (codes "id") m t.id at.id)

base_at : (t : TypeDef) (m : Data) → AtType t.base t.parent t m → base_in m ≡ base_id t.base
base_at t m at = ap (λ o. unwrap_or o []) (text_at (codes "baseId") m (base_id t.base) at.base_is)

and_false : (a b : Bool) → b ≡ false → (a && b) ≡ false
and_false true b h = h
and_false false b h = refl

parent_needed : (m : Data) (parent : Option (List ℕ)) (id base : List ℕ) → get (codes "parentId") m ≡ option_map string parent → id_in m ≡ id → base_in m ≡ base → (is_some parent || bytes_eq id base) ≡ true → lacks_parent m ≡ false
parent_needed m None id base h i b ok =
    ap (λ x. lacks (codes "parentId") m && not (bytes_eq x (base_in m))) i
    ∙ ap (λ x. lacks (codes "parentId") m && not (bytes_eq id x)) b
    ∙ and_false (lacks (codes "parentId") m) _ (ap not ok)
parent_needed m (Some p) id base h i b ok = ap (λ o. is_none (option_and_then null_is_none o) && not (bytes_eq (id_in m) (base_in m))) h

needs_at : (t : TypeDef) (m : Data) → AtType t.base t.parent t m → IsSoundType t → lacks_key m ≡ false
needs_at t m at s =
    either _ _ (either _ _ (either _ _ (lacks_at (codes "id") m _ at.id) (lacks_at (codes "baseId") m _ at.base_is))
    (parent_needed m t.parent t.id (base_id t.base) at.parent_is (id_at t m at) (base_at t m at) s.parent))
    (none_shown (λ p. lacks_prop_key p.1) m t.properties (props_at m t.properties at.properties s.in_order) (λ d h. needed_again d) s.properties)

other_at : (t : TypeDef) (m : Data) → AtType t.base t.parent t m → IsSoundType t → has_other_key m ≡ false
other_at t m at s = none_shown (λ p. not (bytes_eq (id_in p.1) p.0)) m t.properties (props_at m t.properties at.properties s.in_order) (λ d h. id_is_key d) s.properties

wrong_names_at : (t : TypeDef) (m : Data) → AtType t.base t.parent t m → IsSoundType t → has_wrong_names m ≡ false
wrong_names_at t m at s =
    either _ _
    (names_at m t.id t.query_name (id_at t m at) (text_at (codes "queryName") m t.query_name at.query_name) s.id s.query_name)
    (none_shown (λ p. has_wrong_name p.1) m t.properties (props_at m t.properties at.properties s.in_order) names_again s.properties)

wrong_values_at : (t : TypeDef) (m : Data) → AtType t.base t.parent t m → IsSoundType t → have_wrong_values (prop_requests m) ≡ false
wrong_values_at t m at s =
    ap have_wrong_values (ap (map (λ p. prop_request p.1)) (props_at m t.properties at.properties s.in_order) ∙ requests_again t.properties s.properties)
    ∙ values_again t.properties s.properties

-- ---- the whole

passes : {A : Type 0} (b : Bool) (rest : Judged A) → b ≡ false → (refuse causes.BadTypeText b >> rest) ≡ rest
passes false rest h = refl
passes true rest h = absurd cc

judged_at : (t : TypeDef) (m : Data) → AtType t.base t.parent t m → IsSoundType t → judge_type m ≡ Ok (asked_type t)
judged_at t m at s =
    passes _ _ (ap not at.is_object)
    ∙ passes _ _ (kinds_at t m at s)
    ∙ passes _ _ (needs_at t m at s)
    ∙ passes _ _ (other_at t m at s)
    ∙ passes _ _ (wrong_names_at t m at s)
    ∙ passes _ _ (wrong_values_at t m at s)
    ∙ ap Ok (request_at t m at s)

-- a sound type that is shown with its property definitions is asked for by its JSON
pub judged_again : (t : TypeDef) → IsSoundType t → judge_type (type_data true t) ≡ Ok (asked_type t)
judged_again t s = judged_at t (type_data true t) (at_type t) s
