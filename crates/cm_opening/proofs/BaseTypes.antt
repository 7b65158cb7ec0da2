-- A repository may begin with the base types and those of retention and holds.
use Rattle.std.specs.Prelude.{◌≡◌, ◌≤◌, ℕ, Bool, true, false, ◌&&◌, ◌||◌, not, List, [], ◌∷◌, ◌++◌, map, find, All, Option, Some, option_map, bytes_eq, codes}
use Rattle.std.specs.List.{list_all, list_any}
use Rattle.core.specs.declared.cmp.Ordering.{Ordering}
use Rattle.core.specs.declared.cmp.Ordering.TheVariants.{Less, Equal, Greater}
use Rattle.core.specs.Ordering.{nat_cmp, is_lt}
use Rattle.core.specs.Cmp.Lexicographic.{slice_cmp}
use Rattle.std.proofs.Common.{refl, sym, ap, subst, ◌∙◌}
use Rattle.std.proofs.lemmas.Bool.{both_ways}
use Rattle.cmis_laws.proofs.Kept.{bytes_true}
use Rattle.std.proofs.lemmas.List.Elements.{All-nil, All-cons, All-weaker}
use Rattle.cm_base.specs.declared.limits.Start.{Start}
use Rattle.cm_base.specs.Limits.{greatest_limit, AreLimits}
use Rattle.cm_base.specs.declared.user.User.{User}
use Rattle.cm_base.specs.declared.user.Group.{Group}
use Rattle.cm_base.specs.declared.value.Scalar.TheVariants.{Words}
use Rattle.cm_base.specs.declared.value.Value.TheVariants.{Unset}
use Rattle.cm_types.specs.declared.definition.TypeDef.{TypeDef}
use Rattle.cm_types.specs.declared.property.PropDef.{PropDef}
use Rattle.cm_types.specs.declared.property.PropertyKind.TheVariants.{String, Id}
use Rattle.cm_types.specs.declared.property.Cardinality.TheVariants.{Single, Multi}
use Rattle.cm_types.specs.declared.property.Updatability.TheVariants.{ReadOnly, ReadWrite, OnCreate}
use Rattle.cm_types.specs.Types.{type_in, chain, props_of, longest_chain}
use Rattle.cm_types.specs.Changes.{base_id}
use Rattle.cm_types.specs.Sound.{IsSoundDef}
use Rattle.cm_types.proofs.Sound.{row_is_sound}
use Rattle.cm_types.specs.Properties.{is_faulty, is_of_kind, is_too_long, is_no_choice}
use Rattle.cm_types.specs.BaseTypes.{prop, common_props, version_props, content_props, folder_props, relationship_props, policy_props, retention_props, hold_props, base_types}
use Rattle.cmis_spec.specs.Values.{words, texts}
use Rattle.cmis_spec.specs.Repository.{opening, last_of}
use Rattle.cmis_spec.specs.Well.{Apart, MayOpen, IsWellFormed, root_value, ends_at_base, HasBases, IsRooted, Agrees, TakesTexts, IsDef, HasDefs, HasGroups, define_apart}
use Rattle.cmis_laws.proofs.Opening.{opening_is}
use Rattle.cmis_laws.proofs.Lists.{by_test, some_eq, all_zip, apart_weaker}

-- ---- lists

all_by_map : {A B : Type 0} (f g : A → B) (xs : List A) → map f xs ≡ map g xs → All (λ x. f x ≡ g x) xs
all_by_map f g [] h = All-nil (λ x. f x ≡ g x)
all_by_map f g (x ∷ xs) h =
    All-cons (λ x. f x ≡ g x) x xs
    (ap (λ ys. elim ys [ [] ↦ f x | y ∷ zs ↦ y ]) h)
    (all_by_map f g xs (ap (λ ys. elim ys [ [] ↦ [] | y ∷ zs ↦ zs ]) h))

-- the same of the lists of a list
all_by_maps : {A B T : Type 0} (of : T → List A) (f g : A → B) (ts : List T) → map (λ t. map f (of t)) ts ≡ map (λ t. map g (of t)) ts
    → All (λ t. All (λ x. f x ≡ g x) (of t)) ts
all_by_maps of f g [] h = All-nil (λ t. All (λ x. f x ≡ g x) (of t))
all_by_maps of f g (t ∷ ts) h =
    All-cons (λ t. All (λ x. f x ≡ g x) (of t)) t ts
    (all_by_map f g (of t) (ap (λ ys. elim ys [ [] ↦ map f (of t) | y ∷ zs ↦ y ]) h))
    (all_by_maps of f g ts (ap (λ ys. elim ys [ [] ↦ [] | y ∷ zs ↦ zs ]) h))

-- no element stands so to one after it
abbrev apart_test : {A : Type 0} → (A → A → Bool) → List A → Bool
apart_test f [] = true
apart_test f (x ∷ xs) = list_all (λ y. not (f x y)) xs && apart_test f xs

first_holds : (a b : Bool) → (a && b) ≡ true → a ≡ true
first_holds true b h = refl
first_holds false b h = h

second_holds : (a b : Bool) → (a && b) ≡ true → b ≡ true
second_holds true b h = h
second_holds false b h = absurd (both_ways false refl h)

not_so : (a : Bool) → not a ≡ true → a ≡ false
not_so true h = sym h
not_so false h = refl

all_not : {A : Type 0} (p : A → Bool) (xs : List A) → list_all (λ y. not (p y)) xs ≡ true → All (λ y. p y ≡ false) xs
all_not p [] h = All-nil (λ y. p y ≡ false)
all_not p (x ∷ xs) h =
    All-cons (λ y. p y ≡ false) x xs (not_so (p x) (first_holds (not (p x)) (list_all (λ y. not (p y)) xs) h))
    (all_not p xs (second_holds (not (p x)) (list_all (λ y. not (p y)) xs) h))

apart_by_test : {A : Type 0} (f : A → A → Bool) (xs : List A) → apart_test f xs ≡ true → Apart (λ x y. f x y ≡ false) xs
apart_by_test f [] h = tt
apart_by_test f (x ∷ xs) h = (
  all_not (f x) xs (first_holds (list_all (λ y. not (f x y)) xs) (apart_test f xs) h),
  apart_by_test f xs (second_holds (list_all (λ y. not (f x y)) xs) (apart_test f xs) h),
)

-- ---- the table of properties

abbrev all_props : List PropDef
all_props = common_props ++ (version_props ++ (content_props ++ (folder_props ++ (relationship_props ++ (policy_props ++ (retention_props ++ hold_props))))))

abbrev in_table : List ℕ → Option PropDef
in_table id = find (λ p. bytes_eq p.id id) all_props

found : All (λ t. All (λ d. in_table d.id ≡ Some d) t.properties) base_types
found = all_by_maps (λ t. t.properties) (λ d. in_table d.id) Some base_types refl

named : All (λ t. All (λ d. d.query_name ≡ d.id) t.properties) base_types
named = all_by_maps (λ t. t.properties) (λ d. d.query_name) (λ d. d.id) base_types refl

-- each is a row as `prop` makes it
made : All (λ t. All (λ d. d ≡ prop d.id d.kind d.cardinality d.updatability d.required d.queryable) t.properties) base_types
made = all_by_maps (λ t. t.properties) (λ d. d) (λ d. prop d.id d.kind d.cardinality d.updatability d.required d.queryable) base_types refl

sound : All (λ t. All IsSoundDef t.properties) base_types
sound = All-weaker (λ t. All (λ d. d ≡ prop d.id d.kind d.cardinality d.updatability d.required d.queryable) t.properties) (λ t. All IsSoundDef t.properties)
    (λ t. All-weaker (λ d. d ≡ prop d.id d.kind d.cardinality d.updatability d.required d.queryable) IsSoundDef
    (λ d e. subst IsSoundDef (sym e) (row_is_sound d.id d.kind d.cardinality d.updatability d.required d.queryable)) t.properties) base_types made

types_differ : Apart (λ s t. bytes_eq s.id t.id ≡ false) base_types
types_differ = apart_by_test (λ s t. bytes_eq s.id t.id) base_types refl

query_names_differ : Apart (λ s t. bytes_eq s.query_name t.query_name ≡ false) base_types
query_names_differ = apart_by_test (λ s t. bytes_eq s.query_name t.query_name) base_types refl

end_at_base : All (λ t. ends_at_base longest_chain base_types t.id ≡ true) base_types
unfolding longest_chain
end_at_base = all_by_map (λ t. ends_at_base longest_chain base_types t.id) (λ t. true) base_types refl

-- each row is found under its id
rows_found : HasBases base_types
unfolding HasBases
rows_found = all_by_map (λ b. type_in base_types b.id) Some base_types refl

rooted : All (IsRooted base_types) base_types
unfolding longest_chain
rooted = all_by_map (λ t. option_map (λ b. b.id) (last_of (chain base_types t.id))) (λ t. Some (base_id t.base)) base_types refl

less : (o : Ordering) → not (is_lt o) ≡ false → o ≡ Less
less Less h = refl
less Equal h = absurd (both_ways true h refl)
less Greater h = absurd (both_ways true h refl)

abbrev later : List ℕ → List ℕ → Bool
later s t = not (is_lt (slice_cmp nat_cmp s t))

-- types and their properties stand in byte order
types_rise : Apart (λ s t. slice_cmp nat_cmp s.id t.id ≡ Less) base_types
types_rise = apart_weaker (IsRooted base_types) (λ s t. later s.id t.id ≡ false) (λ s t. slice_cmp nat_cmp s.id t.id ≡ Less) base_types
    (λ s t a b h. less (slice_cmp nat_cmp s.id t.id) h) rooted (apart_by_test (λ s t. later s.id t.id) base_types refl)

props_rise : All (λ t. Apart (λ d e. slice_cmp nat_cmp d.id e.id ≡ Less) t.properties) base_types
props_rise = all_zip (λ t. All (λ d. in_table d.id ≡ Some d) t.properties) (λ t. apart_test (λ d e. later d.id e.id) t.properties ≡ true) (λ t. Apart (λ d e. slice_cmp nat_cmp d.id e.id ≡ Less) t.properties) base_types
    (λ t f h. apart_weaker (λ d. in_table d.id ≡ Some d) (λ d e. later d.id e.id ≡ false) (λ d e. slice_cmp nat_cmp d.id e.id ≡ Less) t.properties
    (λ d e a b k. less (slice_cmp nat_cmp d.id e.id) k) f (apart_by_test (λ d e. later d.id e.id) t.properties h))
    found (all_by_map (λ t. apart_test (λ d e. later d.id e.id) t.properties) (λ t. true) base_types refl)

-- base types share properties, and there are no others yet
define_apart_all : All (λ s. All (λ t. define_apart s t ≡ true) base_types) base_types
define_apart_all = All-weaker (λ s. map (define_apart s) base_types ≡ map (λ t. true) base_types) (λ s. All (λ t. define_apart s t ≡ true) base_types) (λ s. all_by_map (define_apart s) (λ t. true) base_types) base_types
    (all_by_map (λ s. map (define_apart s) base_types) (λ s. map (λ t. true) base_types) base_types refl)

root_fits : All (λ d. is_faulty d (root_value d.id) ≡ false) (props_of base_types (codes "cmis:folder") [])
unfolding longest_chain
root_fits = all_by_map (λ d. is_faulty d (root_value d.id)) (λ d. false) (props_of base_types (codes "cmis:folder") []) refl

-- ---- definitions

same_id : (a b : Bool) → (a || b) ≡ true → a ≡ b → a ≡ true
same_id true b h e = refl
same_id false b h e = e ∙ h

-- two rows of the table with one id are one
one_row : (d e : PropDef) → in_table d.id ≡ Some d → in_table e.id ≡ Some e → d.id ≡ e.id → d ≡ e
one_row d e f g h = some_eq d e (sym f ∙ (ap in_table h ∙ g))

agrees : (d e : PropDef) → in_table d.id ≡ Some d → d.query_name ≡ d.id → in_table e.id ≡ Some e → e.query_name ≡ e.id
    → (bytes_eq d.id e.id || bytes_eq d.query_name e.query_name) ≡ true → d ≡ e
agrees d e f n g m h =
    let same : bytes_eq d.id e.id ≡ bytes_eq d.query_name e.query_name = rw n (rw m refl) in
    one_row d e f g (bytes_true d.id e.id (same_id (bytes_eq d.id e.id) (bytes_eq d.query_name e.query_name) h same))

agrees_all : (d : PropDef) → in_table d.id ≡ Some d → d.query_name ≡ d.id → (es : List PropDef)
    → All (λ e. in_table e.id ≡ Some e) es → All (λ e. e.query_name ≡ e.id) es → Agrees d es
agrees_all d f n es fs ns = all_zip (λ e. in_table e.id ≡ Some e) (λ e. e.query_name ≡ e.id) (λ e. (bytes_eq d.id e.id || bytes_eq d.query_name e.query_name) ≡ true → d ≡ e) es (λ e g m. agrees d e f n g m) fs ns

-- each text is a value of the two properties that have any text
takes_word : (d : PropDef) → in_table d.id ≡ Some d → (bytes_eq d.id (codes "cmis:name") || bytes_eq d.id (codes "cmis:objectTypeId")) ≡ true → (t : List ℕ) → is_faulty d (words t) ≡ false
takes_word d f h t = by_test (bytes_eq d.id (codes "cmis:name"))
    (λ e. subst (λ p. is_faulty p (words t) ≡ false) (one_row (prop (codes "cmis:name") String Single ReadWrite true true) d refl f (sym (bytes_true d.id (codes "cmis:name") e))) refl)
    (λ e. subst (λ p. is_faulty p (words t) ≡ false) (one_row (prop (codes "cmis:objectTypeId") Id Single OnCreate true true) d refl f (sym (bytes_true d.id (codes "cmis:objectTypeId") (rw e at h)))) refl)

abbrev secondary : PropDef
secondary = prop (codes "cmis:secondaryObjectTypeIds") Id Multi ReadWrite false true

are_ids : (ts : List (List ℕ)) → list_all (is_of_kind Id) (map Words ts) ≡ true
are_ids [] = refl
are_ids (t ∷ ts) = are_ids ts

are_short : (ts : List (List ℕ)) → list_any (is_too_long secondary) (map Words ts) ≡ false
are_short [] = refl
are_short (t ∷ ts) = are_short ts

are_choices : (ts : List (List ℕ)) → list_any (is_no_choice secondary) (map Words ts) ≡ false
are_choices [] = refl
are_choices (t ∷ ts) = are_choices ts

takes_texts : (ts : List (List ℕ)) → is_faulty secondary (texts ts) ≡ false
takes_texts [] = refl
takes_texts (t ∷ ts) = rw (are_ids ts) (rw (are_short ts) (rw (are_choices ts) refl))

-- the comment of a check-in is any text or none
takes_comment : (d : PropDef) → in_table d.id ≡ Some d → bytes_eq d.id (codes "cmis:checkinComment") ≡ true → (is_faulty d Unset ≡ false) × ((t : List ℕ) → is_faulty d (words t) ≡ false)
takes_comment d f h = subst (λ p. (is_faulty p Unset ≡ false) × ((t : List ℕ) → is_faulty p (words t) ≡ false))
    (one_row (prop (codes "cmis:checkinComment") String Single ReadOnly false true) d refl f (sym (bytes_true d.id (codes "cmis:checkinComment") h))) (refl, λ t. refl)

takes : (d : PropDef) → in_table d.id ≡ Some d → TakesTexts d
takes d f = (takes_word d f, λ h ts. subst (λ p. is_faulty p (texts ts) ≡ false) (one_row secondary d refl f (sym (bytes_true d.id (codes "cmis:secondaryObjectTypeIds") h))) (takes_texts ts), takes_comment d f)

is_def : (d : PropDef) → in_table d.id ≡ Some d → d.query_name ≡ d.id → IsSoundDef d → IsDef base_types d
is_def d f n v = (
  all_zip (λ t. All (λ e. in_table e.id ≡ Some e) t.properties) (λ t. All (λ e. e.query_name ≡ e.id) t.properties) (λ t. Agrees d t.properties) base_types (λ t. agrees_all d f n t.properties) found named,
  v,
  takes d f,
)

-- ---- all

abbrev IsRow : PropDef → Type 0
IsRow d = (in_table d.id ≡ Some d) × (d.query_name ≡ d.id)

are_rows : All (λ t. All IsRow t.properties) base_types
are_rows = all_zip (λ t. All (λ d. in_table d.id ≡ Some d) t.properties) (λ t. All (λ d. d.query_name ≡ d.id) t.properties) (λ t. All IsRow t.properties) base_types
    (λ t. all_zip (λ d. in_table d.id ≡ Some d) (λ d. d.query_name ≡ d.id) IsRow t.properties (λ d f n. (f, n)))
    found named

have_defs : HasDefs base_types
have_defs = all_zip (λ t. All IsRow t.properties) (λ t. All IsSoundDef t.properties) (λ t. All (IsDef base_types) t.properties) base_types
    (λ t. all_zip IsRow IsSoundDef (IsDef base_types) t.properties (λ d f v. is_def d f.0 f.1 v))
    are_rows sound

pub base_types_may_open : MayOpen base_types
base_types_may_open = record {
  well = (types_differ, query_names_differ, end_at_base, rows_found, rooted, types_rise, props_rise, define_apart_all);
  defs = have_defs;
  folder = refl;
  root = root_fits;
}

pub opens : (types : List TypeDef) (users : List User) (groups : List Group) (start : Start) → types ≡ base_types → HasGroups (map (λ u. u.name) users) groups
    → start.first_step ≤ greatest_limit → AreLimits start.limits → IsWellFormed (opening types users groups start)
opens types users groups start e g bound within = opening_is types users groups start (subst MayOpen (sym e) base_types_may_open) g bound within
