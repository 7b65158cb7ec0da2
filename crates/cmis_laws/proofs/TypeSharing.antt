-- A change of the types that its rules let pass keeps each property with one type, or with several base types.
use Rattle.std.specs.Prelude.{◌≡◌, ℕ, Bool, true, false, not, ◌&&◌, ◌||◌, List, [], ◌∷◌, ◌++◌, filter, fold, is_none, All, Some, bytes_eq}
use Rattle.std.specs.List.{list_any}
use Rattle.std.proofs.Common.{refl, sym}
use Rattle.std.proofs.lemmas.Bool.{both_ways}
use Rattle.std.proofs.lemmas.List.Elements.{All-nil, All-cons, All-head, All-tail, All-append, All-filter, All-weaker}
use Rattle.cm_types.specs.declared.definition.TypeDef.{TypeDef}
use Rattle.cm_types.specs.declared.property.PropDef.{PropDef}
use Rattle.cm_types.specs.declared.request.PropRequest.{PropRequest}
use Rattle.cm_types.specs.declared.request.TypeRequest.{TypeRequest}
use Rattle.cm_types.specs.Types.{type_in}
use Rattle.cm_types.specs.Changes.{is_before, placed, placed_type, sorted_props, made_props, made_type, has_clash, has_wrong_value, gives_many, is_wrongly_ordered, breaks_def_rule, breaks_prop_rule, new_props, changed_type, clashes, is_taken_prop, without_type}
use Rattle.cmis_spec.specs.Well.{define_one, define_apart}
use Rattle.cmis_laws.proofs.Lists.{all_from_any, all_zip, found_holds, bytes_turned}
use Rattle.cmis_laws.proofs.Kept.{bytes_true, bytes_same}
use Rattle.cmis_laws.proofs.Passed.{or_left, or_right}

-- ---- lists

any_none : {A : Type 0} (p : A → Bool) (xs : List A) → All (λ x. p x ≡ false) xs → list_any p xs ≡ false
any_none p [] all = refl
any_none p (x ∷ xs) all = rw (All-head (λ x. p x ≡ false) x xs all) (any_none p xs (All-tail (λ x. p x ≡ false) x xs all))

-- the rows of a table, and its columns
turned_all : {A B : Type 0} (R : A → B → Type 0) (xs : List A) (ys : List B) → All (λ x. All (R x) ys) xs → All (λ y. All (λ x. R x y) xs) ys
turned_all R xs [] all = All-nil (λ y. All (λ x. R x y) xs)
turned_all R xs (y ∷ ys) all = All-cons (λ y. All (λ x. R x y) xs) y ys
    (All-weaker (λ x. All (R x) (y ∷ ys)) (λ x. R x y) (λ x h. All-head (R x) y ys h) xs all)
    (turned_all R xs ys (All-weaker (λ x. All (R x) (y ∷ ys)) (λ x. All (R x) ys) (λ x h. All-tail (R x) y ys h) xs all))

placed_all : {A : Type 0} (P : A → Type 0) (name : A → List ℕ) (x : A) (xs : List A) → P x → All P xs → All P (placed name x xs)
placed_all P name x xs h all = All-append P (filter (λ y. is_before (name y) (name x)) xs) (x ∷ filter (λ y. is_before (name x) (name y)) xs)
    (All-filter (λ y. is_before (name y) (name x)) P xs all) (All-cons P x (filter (λ y. is_before (name x) (name y)) xs) h (All-filter (λ y. is_before (name x) (name y)) P xs all))

-- what holds of each holds of each in its order
sorted_all : (P : PropDef → Type 0) (ds : List PropDef) → All P ds → All P (sorted_props ds)
sorted_all P ds all = onto [] ds (All-nil P) all
  where
    onto : (es ds : List PropDef) → All P es → All P ds → All P (fold (λ all d. placed (λ e. e.id) d all) es ds)
    onto es [] before all = before
    onto es (d ∷ ds) before all = onto (placed (λ e. e.id) d es) ds (placed_all P (λ e. e.id) d es (All-head P d ds all) before) (All-tail P d ds all)

-- ---- what two types define

-- no property of one is one of the other, from either side
one_turned : (s t : TypeDef) → define_one s t ≡ false → define_one t s ≡ false
one_turned s t h = any_none (λ (e : PropDef). list_any (λ (d : PropDef). bytes_eq e.id d.id) s.properties) t.properties
    (All-weaker (λ (e : PropDef). All (λ (d : PropDef). bytes_eq d.id e.id ≡ false) s.properties) (λ (e : PropDef). list_any (λ (d : PropDef). bytes_eq e.id d.id) s.properties ≡ false)
    (λ e k. any_none (λ (d : PropDef). bytes_eq e.id d.id) s.properties (All-weaker (λ (d : PropDef). bytes_eq d.id e.id ≡ false) (λ (d : PropDef). bytes_eq e.id d.id ≡ false) (λ d. bytes_turned d.id e.id) s.properties k)) t.properties
    (turned_all (λ (d e : PropDef). bytes_eq d.id e.id ≡ false) s.properties t.properties
    (All-weaker (λ (d : PropDef). list_any (λ (e : PropDef). bytes_eq d.id e.id) t.properties ≡ false) (λ (d : PropDef). All (λ (e : PropDef). bytes_eq d.id e.id ≡ false) t.properties)
    (λ d. all_from_any (λ (e : PropDef). bytes_eq d.id e.id) t.properties) s.properties
    (all_from_any (λ (d : PropDef). list_any (λ (e : PropDef). bytes_eq d.id e.id) t.properties) s.properties h))))

-- definitions that no type takes
abbrev AreFree : List TypeDef → List PropDef → Type 0
AreFree types ds = All (λ d. is_taken_prop types d ≡ false) ds

free_of : (types : List TypeDef) (ds : List PropDef) → AreFree types ds → All (λ (s : TypeDef). All (λ (d : PropDef). list_any (λ (e : PropDef). bytes_eq d.id e.id) s.properties ≡ false) ds) types
free_of types ds free = turned_all (λ (d : PropDef) (s : TypeDef). list_any (λ (e : PropDef). bytes_eq d.id e.id) s.properties ≡ false) ds types
    (All-weaker (λ d. is_taken_prop types d ≡ false) (λ (d : PropDef). All (λ (s : TypeDef). list_any (λ (e : PropDef). bytes_eq d.id e.id) s.properties ≡ false) types)
    (λ d h. All-weaker (λ (s : TypeDef). list_any (clashes d) s.properties ≡ false) (λ (s : TypeDef). list_any (λ (e : PropDef). bytes_eq d.id e.id) s.properties ≡ false)
    (λ s k. any_none (λ (e : PropDef). bytes_eq d.id e.id) s.properties (All-weaker (λ e. clashes d e ≡ false) (λ (e : PropDef). bytes_eq d.id e.id ≡ false)
    (λ e. or_left (bytes_eq d.id e.id) (bytes_eq d.query_name e.query_name)) s.properties (all_from_any (clashes d) s.properties k))) types
    (all_from_any (λ (s : TypeDef). list_any (clashes d) s.properties) types h)) ds free)

-- ---- the list of types

abbrev AllApart : List TypeDef → Type 0
AllApart types = All (λ s. All (λ t. define_apart s t ≡ true) types) types

apart_turned : (s t : TypeDef) → define_apart s t ≡ true → define_apart t s ≡ true
apart_turned s t h = by (bytes_eq s.id t.id) (is_none s.parent) (is_none t.parent) (define_one s t) (define_one t s) (bytes_eq t.id s.id)
    (λ e. bytes_same t.id s.id (sym (bytes_true s.id t.id e))) (one_turned s t) h
  where
    by : (a b c d e f : Bool) → (a ≡ true → f ≡ true) → (d ≡ false → e ≡ false) → a || (b && c) || not d ≡ true → f || (c && b) || not e ≡ true
    by a b c d e true k g h = refl
    by true b c d e false k g h = absurd (both_ways false refl (k refl))
    by false true true d e false k g h = refl
    by false true false true e false k g h = absurd (both_ways false refl h)
    by false true false false e false k g h = rw (g refl) refl
    by false false true true e false k g h = absurd (both_ways false refl h)
    by false false true false e false k g h = rw (g refl) refl
    by false false false true e false k g h = absurd (both_ways false refl h)
    by false false false false e false k g h = rw (g refl) refl

-- with a type that stands so to each
with_one : (t : TypeDef) (types : List TypeDef) → AllApart types → All (λ s. define_apart t s ≡ true) types → AllApart (placed_type t types)
with_one t types all h =
    let self : define_apart t t ≡ true = rw (bytes_same t.id t.id refl) refl in
    placed_all (λ s. All (λ u. define_apart s u ≡ true) (placed_type t types)) (λ s. s.id) t types
    (placed_all (λ u. define_apart t u ≡ true) (λ s. s.id) t types self h)
    (all_zip (λ s. All (λ u. define_apart s u ≡ true) types) (λ s. define_apart t s ≡ true) (λ s. All (λ u. define_apart s u ≡ true) (placed_type t types)) types
    (λ s a k. placed_all (λ u. define_apart s u ≡ true) (λ s. s.id) t types (apart_turned t s k) a) all h)

last_true : (a b c : Bool) → c ≡ false → a || b || not c ≡ true
last_true true b false h = refl
last_true false true false h = refl
last_true false false false h = refl
last_true a b true h = absurd (both_ways true h refl)

-- what the rule of property definitions lets pass is free
free_by_rule : (types : List TypeDef) (ps : List PropRequest) → breaks_prop_rule types ps ≡ false → AreFree types (made_props ps)
free_by_rule types ps h =
    let ds = made_props ps in
    let rule : breaks_def_rule types ds ≡ false = or_right (list_any gives_many ps) (breaks_def_rule types ds) h in
    let taken : list_any has_wrong_value ds || list_any is_wrongly_ordered ds || list_any (is_taken_prop types) ds ≡ false =
    or_left (list_any has_wrong_value ds || list_any is_wrongly_ordered ds || list_any (is_taken_prop types) ds) (has_clash ds) rule in
    all_from_any (is_taken_prop types) ds (or_right (list_any has_wrong_value ds || list_any is_wrongly_ordered ds) (list_any (is_taken_prop types) ds) taken)

-- createType
pub apart_with : (types : List TypeDef) (parent : TypeDef) (q : TypeRequest) → AllApart types → breaks_prop_rule types q.properties ≡ false → AllApart (placed_type (made_type parent q) types)
apart_with types parent q all h =
    let t = made_type parent q in
    let free : AreFree types t.properties = sorted_all (λ d. is_taken_prop types d ≡ false) (made_props q.properties) (free_by_rule types q.properties h) in
    with_one t types all
    (All-weaker (λ (s : TypeDef). All (λ (d : PropDef). list_any (λ (e : PropDef). bytes_eq d.id e.id) s.properties ≡ false) t.properties) (λ s. define_apart t s ≡ true)
    (λ s k. last_true (bytes_eq t.id s.id) (is_none t.parent && is_none s.parent) (define_one t s) (any_none (λ (d : PropDef). list_any (λ (e : PropDef). bytes_eq d.id e.id) s.properties) t.properties k)) types (free_of types t.properties free))

-- updateType
pub apart_changed : (types : List TypeDef) (t : TypeDef) (q : TypeRequest) → AllApart types → type_in types q.id ≡ Some t → breaks_prop_rule types (new_props t.properties q.properties) ≡ false
    → AllApart (placed_type (changed_type t q) types)
apart_changed types t q all there h =
    let ds = made_props (new_props t.properties q.properties) in
    let was : All (λ s. define_apart t s ≡ true) types = found_holds (λ s. All (λ u. define_apart s u ≡ true) types) (λ s. bytes_eq s.id q.id) types t all there in
    let new : All (λ (s : TypeDef). All (λ (d : PropDef). list_any (λ (e : PropDef). bytes_eq d.id e.id) s.properties ≡ false) ds) types = free_of types ds (free_by_rule types (new_props t.properties q.properties) h) in
    with_one (changed_type t q) types all
    (all_zip (λ s. define_apart t s ≡ true) (λ (s : TypeDef). All (λ (d : PropDef). list_any (λ (e : PropDef). bytes_eq d.id e.id) s.properties ≡ false) ds) (λ s. define_apart (changed_type t q) s ≡ true) types
    (λ s a k. by s (bytes_eq t.id s.id) (is_none t.parent && is_none s.parent) (define_one t s) refl k a) was new)
  where
    by : (s : TypeDef) (a b c : Bool) → define_one t s ≡ c → All (λ (d : PropDef). list_any (λ (e : PropDef). bytes_eq d.id e.id) s.properties ≡ false) (made_props (new_props t.properties q.properties))
        → a || b || not c ≡ true → a || b || not (define_one (changed_type t q) s) ≡ true
    by s true b c e k h = refl
    by s false true c e k h = refl
    by s false false true e k h = absurd (both_ways false refl h)
    by s false false false e k h = last_true false false (define_one (changed_type t q) s)
        (any_none (λ (d : PropDef). list_any (λ (e : PropDef). bytes_eq d.id e.id) s.properties) (changed_type t q).properties
        (sorted_all (λ (d : PropDef). list_any (λ (e : PropDef). bytes_eq d.id e.id) s.properties ≡ false) (t.properties ++ made_props (new_props t.properties q.properties))
        (All-append (λ (d : PropDef). list_any (λ (e : PropDef). bytes_eq d.id e.id) s.properties ≡ false) t.properties (made_props (new_props t.properties q.properties))
        (all_from_any (λ (d : PropDef). list_any (λ (e : PropDef). bytes_eq d.id e.id) s.properties) t.properties e) k)))

-- deleteType
pub apart_without : (types : List TypeDef) (id : List ℕ) → AllApart types → AllApart (without_type types id)
apart_without types id all = All-filter (λ t. not (bytes_eq t.id id)) (λ s. All (λ t. define_apart s t ≡ true) (without_type types id)) types
    (All-weaker (λ s. All (λ t. define_apart s t ≡ true) types) (λ s. All (λ t. define_apart s t ≡ true) (without_type types id))
    (λ s. All-filter (λ t. not (bytes_eq t.id id)) (λ t. define_apart s t ≡ true) types) types all)
