-- Values that are shown have their kinds, and are read back.
use Rattle.std.proofs.Common.{◌≡◌, ◌∙◌, ◌^◌, List, [], ◌∷◌, Bool, true, false, ◌&&◌, ◌||◌, not, map, refl, ap}
use Rattle.std.specs.Prelude.{ℤ, pos, negsuc, nat_lt, if◌then◌else◌, Option, Some, None, is_some, option_map, option_and_then, unwrap_or, filter_map}
use Rattle.std.specs.List.{list_all, cons_option}
use Rattle.serde_json.specs.Data.{Data, number}
use Rattle.serde_json.specs.View.{items_of}
use Rattle.serde_json.specs.Find.{as_i64, of_integer}
use Rattle.json_text.specs.Keys.{null_is_none, as_whole}
use Rattle.json_text.specs.Build.{list_data}
use Rattle.cm_base.specs.declared.value.Scalar.{Scalar}
use Rattle.cm_base.specs.declared.value.Scalar.TheVariants.{Flag, Whole, Time, Words}
use Rattle.cm_types.specs.declared.property.Choice.{Choice}
use Rattle.cm_types.specs.declared.property.PropertyKind.{PropertyKind}
use Rattle.cm_types.specs.declared.property.PropertyKind.TheVariants as kinds
use Rattle.cm_types.specs.declared.property.Cardinality.{Cardinality}
use Rattle.cm_types.specs.declared.property.Cardinality.TheVariants as cardinalities
use Rattle.cm_types.specs.declared.property.Updatability.{Updatability}
use Rattle.cm_types.specs.declared.property.Updatability.TheVariants as may
use Rattle.cm_types.specs.declared.definition.ContentAllowed.{ContentAllowed}
use Rattle.cm_types.specs.declared.definition.ContentAllowed.TheVariants as contents
use Rattle.cm_types.specs.Properties.{is_of_kind}
use Rattle.type_keys.specs.Words.{content_word, content_of, kind_word, kind_of, cardinality_word, cardinality_of, updatability_word, updatability_of}
use Rattle.type_keys.specs.Keys.{list_of, is_item, is_whole, is_list, is_choice}
use Rattle.type_json.specs.Reading.{scalar_of, choice_of}
use Rattle.json_text.specs.Values.{scalar_data}
use Rattle.type_show.specs.Showing.{choice_data, limit_data}
use Rattle.type_show.specs.ReadBack.{fits, limit_fits, scalar_fits}
use Rattle.type_show.proofs.Putting.{both, first, second}

-- ---- words

pub kind_again : (k : PropertyKind) → kind_of (kind_word k) ≡ Some k
kind_again kinds.Boolean = refl
kind_again kinds.Integer = refl
kind_again kinds.Datetime = refl
kind_again kinds.String = refl
kind_again kinds.Uri = refl
kind_again kinds.Id = refl
kind_again kinds.Html = refl

pub cardinality_again : (c : Cardinality) → cardinality_of (cardinality_word c) ≡ Some c
cardinality_again cardinalities.Single = refl
cardinality_again cardinalities.Multi = refl

pub updatability_again : (u : Updatability) → updatability_of (updatability_word u) ≡ Some u
updatability_again may.ReadOnly = refl
updatability_again may.ReadWrite = refl
updatability_again may.OnCreate = refl
updatability_again may.WhenCheckedOut = refl

pub content_again : (c : ContentAllowed) → content_of (content_word c) ≡ Some c
content_again contents.NotAllowed = refl
content_again contents.Allowed = refl
content_again contents.Required = refl

-- ---- integers

chosen : {A : Type 0} (b : Bool) (x : A) → is_some (if b then Some x else None) ≡ true → (if b then Some x else None) ≡ Some x
chosen true x h = refl
chosen false x h = absurd cc

pub fit_again : (n : ℤ) → fits n ≡ true → as_i64 (of_integer n) ≡ Some n
fit_again (pos n) h = chosen (nat_lt n (2 ^ 63)) (pos n) h
fit_again (negsuc n) h = refl

-- ---- arrays

pub list_again : (ds : List Data) → list_of (items_of ds) ≡ ds
list_again [] = refl
list_again (d ∷ ds) = ap (λ l. d ∷ l) (list_again ds)

-- each element has the kind
pub is_list_again : {A : Type 0} (test : Data → Bool) (f : A → Data) (xs : List A) → list_all (λ x. test (f x)) xs ≡ true → is_list test (list_data (map f xs)) ≡ true
is_list_again {A = A} test f xs h = ap (list_all test) (list_again (map f xs)) ∙ each xs h
  where
    each : (xs : List A) → list_all (λ x. test (f x)) xs ≡ true → list_all test (map f xs) ≡ true
    each [] h = refl
    each (x ∷ xs) h = both _ _ (first _ _ h) (each xs (second (test (f x)) _ h))

-- each element is read back
pub all_again : {A B : Type 0} (g : Data → Option B) (f : A → Data) (h : A → B) (test : A → Bool) (xs : List A)
    → ((x : A) → test x ≡ true → g (f x) ≡ Some (h x)) → list_all test xs ≡ true → filter_map g (list_of (items_of (map f xs))) ≡ map h xs
all_again {A = A} {B = B} g f h test xs again ok = ap (filter_map g) (list_again (map f xs)) ∙ each xs ok
  where
    each : (xs : List A) → list_all test xs ≡ true → filter_map g (map f xs) ≡ map h xs
    each [] ok = refl
    each (x ∷ xs) ok =
        ap (λ o. cons_option o (filter_map g (map f xs))) (again x (first _ _ ok))
        ∙ ap (λ l. h x ∷ l) (each xs (second (test x) _ ok))

pub map_same : {A : Type 0} (xs : List A) → map (λ x. x) xs ≡ xs
map_same [] = refl
map_same (x ∷ xs) = ap (λ l. x ∷ l) (map_same xs)

-- ---- scalars

pub item_again : (s : Scalar) → scalar_fits s ≡ true → is_item (scalar_data s) ≡ true
item_again (Flag b) h = refl
item_again (Whole n) h = ap (λ o. is_some o || false) (fit_again n h)
item_again (Time n) h = ap (λ o. is_some o || false) (fit_again n h)
item_again (Words t) h = refl

-- a scalar of the kind that fits
abbrev pub is_kept : PropertyKind → Scalar → Bool
is_kept kind s = is_of_kind kind s && scalar_fits s

whole_again : (kind : PropertyKind) (n : ℤ) → is_of_kind kind (Whole n) ≡ true → as_i64 (of_integer n) ≡ Some n → scalar_of kind (number (of_integer n)) ≡ Some (Whole n)
whole_again kinds.Integer n h e = ap (option_map Whole) e
whole_again kinds.Boolean n h e = absurd cc
whole_again kinds.Datetime n h e = absurd cc
whole_again kinds.String n h e = absurd cc
whole_again kinds.Uri n h e = absurd cc
whole_again kinds.Id n h e = absurd cc
whole_again kinds.Html n h e = absurd cc

time_again : (kind : PropertyKind) (n : ℤ) → is_of_kind kind (Time n) ≡ true → as_i64 (of_integer n) ≡ Some n → scalar_of kind (number (of_integer n)) ≡ Some (Time n)
time_again kinds.Datetime n h e = ap (option_map Time) e
time_again kinds.Boolean n h e = absurd cc
time_again kinds.Integer n h e = absurd cc
time_again kinds.String n h e = absurd cc
time_again kinds.Uri n h e = absurd cc
time_again kinds.Id n h e = absurd cc
time_again kinds.Html n h e = absurd cc

pub scalar_again : (kind : PropertyKind) (s : Scalar) → is_kept kind s ≡ true → scalar_of kind (scalar_data s) ≡ Some s
scalar_again kind (Flag b) h = refl
scalar_again kind (Whole n) h = whole_again kind n (first _ _ h) (fit_again n (second (is_of_kind kind (Whole n)) _ h))
scalar_again kind (Time n) h = time_again kind n (first _ _ h) (fit_again n (second (is_of_kind kind (Time n)) _ h))
scalar_again kind (Words t) h = refl

-- it is not null
pub shown_value : (s : Scalar) → null_is_none (scalar_data s) ≡ Some (scalar_data s)
shown_value (Flag b) = refl
shown_value (Whole n) = refl
shown_value (Time n) = refl
shown_value (Words t) = refl

-- ---- choices

pub choice_again : (kind : PropertyKind) (c : Choice) → is_kept kind c.value ≡ true → choice_of kind (choice_data c) ≡ Some c
choice_again kind c h =
    ap (λ o. option_map (λ s. record { display_name = c.display_name; value = s }) (option_and_then (scalar_of kind) o)) (shown_value c.value)
    ∙ ap (option_map (λ s. record { display_name = c.display_name; value = s })) (scalar_again kind c.value h)

pub is_choice_again : (c : Choice) → scalar_fits c.value ≡ true → is_choice (choice_data c) ≡ true
is_choice_again c h = ap (λ o. unwrap_or (option_map is_item o) false) (shown_value c.value) ∙ item_again c.value h

-- ---- limits

pub limit_again : (l : Option ℤ) → limit_fits l ≡ true → option_and_then as_whole (null_is_none (limit_data l)) ≡ l
limit_again None h = refl
limit_again (Some n) h = fit_again n h

pub limit_kind : (l : Option ℤ) → limit_fits l ≡ true → unwrap_or (option_map (λ v. not (is_whole v)) (null_is_none (limit_data l))) false ≡ false
limit_kind None h = refl
limit_kind (Some n) h = ap (λ o. not (is_some o)) (fit_again n h)
