-- The values that a create keeps have no fault.
use Rattle.std.specs.Prelude.{◌≡◌, ℕ, zero, suc, Bool, true, false, not, ◌&&◌, ◌||◌, if◌then◌else◌, List, [], ◌∷◌, map, filter, find, is_some, is_none, reverse, All, Contains, Option, Some, None, Ok, option_map, unwrap_or, bytes_eq, codes}
use Rattle.std.specs.List.{list_any, flat_map}
use mathlib.Core.List.{reverse_aux}
use Rattle.std.proofs.Common.{refl, sym, ap, subst, ◌∙◌}
use Rattle.std.proofs.lemmas.Bool.{both_ways}
use Rattle.std.proofs.lemmas.List.Elements.{All-nil, All-cons, All-head, All-tail, All-append, All-filter, All-map, All-weaker, All-contains, All-contains_itself}
use Rattle.std.proofs.lemmas.Slice.Eq.{bytes_eq-Decides}
use Rattle.cm_base.specs.declared.object.Object.{Object}
use Rattle.cm_base.specs.declared.value.Slot.{Slot}
use Rattle.cm_base.specs.declared.value.Value.{Value}
use Rattle.cm_base.specs.declared.value.Value.TheVariants.{Unset, One, Many}
use Rattle.cm_base.specs.declared.cause.Cause.TheVariants as causes
use Rattle.cm_base.specs.declared.cause.PropertyFault.{PropertyFault}
use Rattle.cm_base.specs.declared.cause.PropertyFault.TheVariants as faults
use Rattle.cm_base.specs.Judged.{first_cause}
use Rattle.cm_types.specs.declared.definition.TypeDef.{TypeDef}
use Rattle.cm_types.specs.declared.property.PropDef.{PropDef}
use Rattle.cm_types.specs.declared.given.Given.{Given}
use Rattle.cm_types.specs.declared.given.PropertyCall.{PropertyCall}
use Rattle.cm_types.specs.declared.given.PropertyCall.TheVariants as calls
use Rattle.cm_types.specs.Types.{type_in, chain_of, chain, longest_chain, first_of_each, types_of, props_of}
use Rattle.cm_types.specs.Properties.{value_in, is_set, value_fault, is_faulty, may_give, breaks_cardinality, breaks_form, stated, fault_by, def_of, property_fault, given_cause, given_of, value_before, kept_value, kept_values, is_missing, missing_cause, judge_properties}
use Rattle.cm_types.specs.Changes.{is_wrong_choice}
use Rattle.cm_types.specs.Sound.{IsSoundDef}
use Rattle.cmis_spec.specs.Repository.{Repository, name_of}
use Rattle.cmis_spec.specs.Values.{words, texts, is_apart, kept_beside, form_value}
use Rattle.cmis_spec.specs.Well.{IsDef, Agrees, HasDefs, TakesTexts, IsKept, IsOwn}
use Rattle.cmis_laws.proofs.Lists.{by_test, find_yes, find_no, found_holds, found_passes, none_some, all_zip}
use Rattle.cmis_laws.proofs.Passed.{first_none, then_ok, some_none, or_left}

-- ---- what holds of each property of the types holds of an object's

above_all : (Q : TypeDef → Type 0) (f : List ℕ → List TypeDef) (o : Option (List ℕ)) → ((id : List ℕ) → All Q (f id)) → All Q (unwrap_or (option_map f o) [])
above_all Q f None h = All-nil Q
above_all Q f (Some id) h = h id

pub chain_all : (Q : TypeDef → Type 0) (n : ℕ) (types : List TypeDef) (id : List ℕ) → All Q types → All Q (chain_of n types id)
chain_all Q zero types id all = All-nil Q
chain_all Q (suc n) types id all = elim (type_in types id) as (λ o. type_in types id ≡ o → All Q (unwrap_or (option_map (λ t. t ∷ unwrap_or (option_map (chain_of n types) t.parent) []) o) [])) [
  | None ↦ λ e. All-nil Q
  | Some t ↦ λ e. All-cons Q t (unwrap_or (option_map (chain_of n types) t.parent) []) (found_holds Q (λ t. bytes_eq t.id id) types t all e)
      (above_all Q (chain_of n types) t.parent (λ above. chain_all Q n types above all))
] refl

onto_all : {A : Type 0} (Q : A → Type 0) (xs ys : List A) → All Q xs → All Q ys → All Q (reverse_aux xs ys)
onto_all Q [] ys all more = more
onto_all Q (x ∷ xs) ys all more = onto_all Q xs (x ∷ ys) (All-tail Q x xs all) (All-cons Q x ys (All-head Q x xs all) more)

pub reverse_all : {A : Type 0} (Q : A → Type 0) (xs : List A) → All Q xs → All Q (reverse xs)
reverse_all Q xs all = onto_all Q xs [] all (All-nil Q)

pub flat_all : {A B : Type 0} (Q : B → Type 0) (f : A → List B) (xs : List A) → All (λ x. All Q (f x)) xs → All Q (flat_map f xs)
flat_all Q f [] all = All-nil Q
flat_all Q f (x ∷ xs) all = All-append Q (f x) (flat_map f xs) (All-head (λ x. All Q (f x)) x xs all) (flat_all Q f xs (All-tail (λ x. All Q (f x)) x xs all))

pub every : {A : Type 0} (Q : A → Type 0) (xs : List A) → ((x : A) → Q x) → All Q xs
every Q [] h = All-nil Q
every Q (x ∷ xs) h = All-cons Q x xs (h x) (every Q xs h)

pub first_all : (Q : TypeDef → Type 0) (ts : List TypeDef) → All Q ts → All Q (first_of_each ts)
first_all Q [] all = All-nil Q
first_all Q (t ∷ ts) all = All-cons Q t (filter (λ s. not (bytes_eq s.id t.id)) (first_of_each ts)) (All-head Q t ts all)
    (All-filter (λ s. not (bytes_eq s.id t.id)) Q (first_of_each ts) (first_all Q ts (All-tail Q t ts all)))

pub types_all : (Q : TypeDef → Type 0) (types : List TypeDef) (kind : List ℕ) (secondary : List (List ℕ)) → All Q types → All Q (types_of types kind secondary)
types_all Q types kind secondary all = first_all Q (flat_map (λ s. reverse (chain types s)) (kind ∷ secondary))
    (flat_all Q (λ s. reverse (chain types s)) (kind ∷ secondary)
    (every (λ s. All Q (reverse (chain types s))) (kind ∷ secondary)
    (λ s. reverse_all Q (chain types s) (chain_all Q longest_chain types s all))))

pub props_all : (P : PropDef → Type 0) (types : List TypeDef) (kind : List ℕ) (secondary : List (List ℕ)) → All (λ t. All P t.properties) types → All P (props_of types kind secondary)
props_all P types kind secondary all = flat_all P (λ t. t.properties) (types_of types kind secondary) (types_all (λ t. All P t.properties) types kind secondary all)

-- ---- bytes

pub bytes_true : (xs ys : List ℕ) → bytes_eq xs ys ≡ true → xs ≡ ys
bytes_true xs ys h = (bytes_eq-Decides xs ys).0 h

pub bytes_same : (xs ys : List ℕ) → xs ≡ ys → bytes_eq xs ys ≡ true
bytes_same xs ys h = (bytes_eq-Decides xs ys).1 h

-- ---- look-ups

pub find_mapped : {A B : Type 0} (f : A → B) (p : B → Bool) (xs : List A) → find p (map f xs) ≡ option_map f (find (λ x. p (f x)) xs)
find_mapped f p [] = refl
find_mapped f p (x ∷ xs) = by_test (p (f x))
    (λ e. find_yes p (f x) (map f xs) e ∙ sym (ap (option_map f) (find_yes (λ y. p (f y)) x xs e)))
    (λ e. find_no p (f x) (map f xs) e ∙ (find_mapped f p xs ∙ sym (ap (option_map f) (find_no (λ y. p (f y)) x xs e))))

pub all_unfound : {A : Type 0} (p : A → Bool) (xs : List A) → find p xs ≡ None → All (λ x. p x ≡ false) xs
all_unfound p [] h = All-nil (λ x. p x ≡ false)
all_unfound p (x ∷ xs) h = by_test (p x)
    (λ e. absurd (none_some x (sym h ∙ find_yes p x xs e)))
    (λ e. All-cons (λ x. p x ≡ false) x xs e (all_unfound p xs (sym (find_no p x xs e) ∙ h)))

-- of one that is found: in the part that is kept it is found too, or nothing is
pub find_left : {A : Type 0} (p q : A → Bool) (x : A) (xs : List A) → All (λ y. p y ≡ true → y ≡ x) xs → q x ≡ false → find p (filter q xs) ≡ None
find_left p q x [] same h = refl
find_left p q x (y ∷ ys) same h = by_test (q y)
    (λ e. rw e (find_no p y (filter q ys) (by_test (p y) (λ d. absurd (both_ways (q x) h (subst (λ z. q z ≡ true) (All-head (λ y. p y ≡ true → y ≡ x) y ys same d) e))) (λ d. d))
    ∙ find_left p q x ys (All-tail (λ y. p y ≡ true → y ≡ x) y ys same) h))
    (λ e. rw e (find_left p q x ys (All-tail (λ y. p y ≡ true → y ≡ x) y ys same) h))

pub find_kept : {A : Type 0} (p q : A → Bool) (x : A) (xs : List A) → All (λ y. p y ≡ true → y ≡ x) xs → q x ≡ true → find p xs ≡ Some x → find p (filter q xs) ≡ Some x
find_kept p q x [] same h e = e
find_kept p q x (y ∷ ys) same h e = by_test (p y)
    (λ d. let at : y ≡ x = All-head (λ y. p y ≡ true → y ≡ x) y ys same d in
    rw (subst (λ z. q z ≡ true) (sym at) h) (find_yes p y (filter q ys) d ∙ ap Some at))
    (λ d. let rest : find p (filter q ys) ≡ Some x = find_kept p q x ys (All-tail (λ y. p y ≡ true → y ≡ x) y ys same) h (sym (find_no p y ys d) ∙ e) in
    by_test (q y) (λ k. rw k (find_no p y (filter q ys) d ∙ rest)) (λ k. rw k rest))

-- a definition is the one that its id finds
pub find_first : (defs : List PropDef) (d : PropDef) → Agrees d defs → Contains defs d → find (λ e. bytes_eq e.id d.id) defs ≡ Some d
find_first defs d agree there = elim (find (λ e. bytes_eq e.id d.id) defs) as (λ o. find (λ e. bytes_eq e.id d.id) defs ≡ o → o ≡ Some d) [
  | None ↦ λ h. absurd (both_ways (bytes_eq d.id d.id) (All-contains (λ e. bytes_eq e.id d.id ≡ false) defs d (all_unfound (λ e. bytes_eq e.id d.id) defs h) there) (bytes_same d.id d.id refl))
  | Some e ↦ λ h. ap Some (sym (found_holds (λ e. (bytes_eq d.id e.id || bytes_eq d.query_name e.query_name) ≡ true → d ≡ e) (λ e. bytes_eq e.id d.id) defs e agree h
      (ap (λ b. b || bytes_eq d.query_name e.query_name) (bytes_same d.id e.id (sym (bytes_true e.id d.id (found_passes (λ e. bytes_eq e.id d.id) defs e h)))))))
] refl

-- ---- a kept value has no fault

-- of what is given: the last of its tests is that of the value
no_fault : (a b c : Bool) (o : Option PropertyFault) → (if a then Some faults.Readonly else if b then Some faults.Cardinality else if c then Some faults.Form else o) ≡ None → o ≡ None
no_fault true b c o h = absurd (some_none faults.Readonly h)
no_fault false true c o h = absurd (some_none faults.Cardinality h)
no_fault false false true o h = absurd (some_none faults.Form h)
no_fault false false false o h = h

map_none : {A B : Type 0} (f : A → B) (o : Option A) → option_map f o ≡ None → o ≡ None
map_none f None h = refl
map_none f (Some x) h = absurd (some_none (f x) h)

pub kept_right : (call : PropertyCall) (old : List Slot) (defs : List PropDef) (given : List Given) (d : PropDef) → All (λ g. given_cause call defs g ≡ None) given → find (λ e. bytes_eq e.id d.id) defs ≡ Some d
    → value_fault d (value_before call old d) ≡ None → value_fault d (kept_value call old given d) ≡ None
kept_right call old defs given d ok first before = elim (given_of given d.id) as (λ o. given_of given d.id ≡ o → value_fault d (unwrap_or (option_map (stated d) o) (value_before call old d)) ≡ None) [
  | None ↦ λ e. before
  | Some g ↦ λ e.
      let at : g.id ≡ d.id = bytes_true g.id d.id (found_passes (λ g. bytes_eq g.id d.id) given g e) in
      let defined : def_of defs g.id ≡ Some d = subst (λ i. find (λ e. bytes_eq e.id i) defs ≡ Some d) (sym at) first in
      let none : property_fault call defs g ≡ None = map_none (causes.Property g.id) (property_fault call defs g) (found_holds (λ g. given_cause call defs g ≡ None) (λ g. bytes_eq g.id d.id) given g ok e) in
      let by_def : fault_by call d g ≡ None = sym (ap (λ o. unwrap_or (option_map (λ d. fault_by call d g) o) (Some faults.Unknown)) defined) ∙ none in
      no_fault (not (may_give call d.updatability)) (breaks_cardinality d g) (breaks_form d g) (value_fault d (stated d g)) by_def
] refl

pub missing_not : (call : PropertyCall) (old : List Slot) (given : List Given) (d : PropDef) → missing_cause call old given d ≡ None → is_missing call old given d ≡ false
missing_not call old given d h = flip (is_missing call old given d) h
  where
    flip : (b : Bool) → if b then Some (causes.Property d.id faults.Required) else None ≡ None → b ≡ false
    flip true h = absurd (some_none (causes.Property d.id faults.Required) h)
    flip false h = refl

pub faultless : (d : PropDef) (v : Value) → value_fault d v ≡ None → d.required && not (is_set v) ≡ false → is_faulty d v ≡ false
faultless d v a b = ap (λ o. unwrap_or (option_map (λ f. true) o) (d.required && not (is_set v))) a ∙ b

-- ---- the values beside

-- a kept value is found by its id; what is unset is not kept
pub beside_value : (defs : List PropDef) (value : PropDef → Value) (d : PropDef) → Agrees d defs → find (λ e. bytes_eq e.id d.id) defs ≡ Some d → is_apart d.id ≡ false
    → value_in (kept_beside (map (λ e. record { id = e.id; value = value e }) defs)) d.id ≡ value d
beside_value defs value d agree first other =
    let slots : List Slot = map (λ (e : PropDef). record { id = e.id; value = value e }) defs in
    let own : Slot = record { id = d.id; value = value d } in
    let keep : Slot → Bool = λ s. not (is_apart s.id) && is_set s.value in
    let found : find (λ s. bytes_eq s.id d.id) slots ≡ Some own = find_mapped {B = Slot} (λ (e : PropDef). record { id = e.id; value = value e }) (λ s. bytes_eq s.id d.id) defs ∙ ap (option_map (λ (e : PropDef). record { id = e.id; value = value e })) first in
    let one : All (λ (s : Slot). bytes_eq s.id d.id ≡ true → s ≡ own) slots = mapped defs agree in
    by_test (is_set (value d))
    (λ e. ap (λ o. unwrap_or (option_map (λ s. s.value) o) Unset) (find_kept (λ s. bytes_eq s.id d.id) keep own slots one (kept_is (is_apart d.id) (is_set (value d)) true other e) found))
    (λ e. ap (λ o. unwrap_or (option_map (λ s. s.value) o) Unset) (find_left (λ s. bytes_eq s.id d.id) keep own slots one (kept_is (is_apart d.id) (is_set (value d)) false other e)) ∙ sym (unset (value d) e))
  where
    kept_is : (a b c : Bool) → a ≡ false → b ≡ c → not a && b ≡ c
    kept_is true b c h k = absurd (both_ways true h refl)
    kept_is false b c h k = k

    unset : (v : Value) → is_set v ≡ false → v ≡ Unset
    unset Unset h = refl
    unset (One s) h = absurd (both_ways true h refl)
    unset (Many ss) h = absurd (both_ways true h refl)

    mapped : (es : List PropDef) → Agrees d es → All (λ (s : Slot). bytes_eq s.id d.id ≡ true → s ≡ record { id = d.id; value = value d }) (map (λ (e : PropDef). record { id = e.id; value = value e }) es)
    mapped [] a = All-nil (λ (s : Slot). bytes_eq s.id d.id ≡ true → s ≡ record { id = d.id; value = value d })
    mapped (e ∷ es) a = All-cons (λ (s : Slot). bytes_eq s.id d.id ≡ true → s ≡ record { id = d.id; value = value d }) (record { id = e.id; value = value e }) (map (λ (e : PropDef). record { id = e.id; value = value e }) es)
        (λ t. let at : d ≡ e = All-head (λ e. (bytes_eq d.id e.id || bytes_eq d.query_name e.query_name) ≡ true → d ≡ e) e es a (ap (λ b. b || bytes_eq d.query_name e.query_name) (bytes_same d.id e.id (sym (bytes_true e.id d.id t)))) in
        ap (λ (e : PropDef). record { id = e.id; value = value e }) (sym at))
        (mapped es (All-tail (λ e. (bytes_eq d.id e.id || bytes_eq d.query_name e.query_name) ≡ true → d ≡ e) e es a))

-- ---- all

-- by the three that are kept apart, and then the others
pub form_is : (r : Repository) (x : Object) (d : PropDef) → TakesTexts d → (is_apart d.id ≡ false → is_faulty d (value_in x.values d.id) ≡ false) → is_faulty d (form_value r x d.id) ≡ false
form_is r x d takes other = by_cases (bytes_eq d.id (codes "cmis:name")) (bytes_eq d.id (codes "cmis:objectTypeId")) (bytes_eq d.id (codes "cmis:secondaryObjectTypeIds")) takes.0 takes.1 other
  where
    by_cases : (a b c : Bool) → (a || b ≡ true → (t : List ℕ) → is_faulty d (words t) ≡ false) → (c ≡ true → (ts : List (List ℕ)) → is_faulty d (texts ts) ≡ false)
        → (a || b || c ≡ false → is_faulty d (value_in x.values d.id) ≡ false)
        → is_faulty d (if a then words (name_of r x) else if b then words x.kind else if c then texts x.secondary else value_in x.values d.id) ≡ false
    by_cases true b c f g h = f refl (name_of r x)
    by_cases false true c f g h = f refl x.kind
    by_cases false false true f g h = g refl x.secondary
    by_cases false false false f g h = h refl

-- what is kept neither with the name nor with the types has its value from the values alone
pub apart_value : (r : Repository) (x : Object) (id : List ℕ) → is_apart id ≡ false → form_value r x id ≡ value_in x.values id
apart_value r x id h = by_cases (bytes_eq id (codes "cmis:name")) (bytes_eq id (codes "cmis:objectTypeId")) (bytes_eq id (codes "cmis:secondaryObjectTypeIds")) h
  where
    by_cases : (a b c : Bool) → a || b || c ≡ false → (if a then words (name_of r x) else if b then words x.kind else if c then texts x.secondary else value_in x.values id) ≡ value_in x.values id
    by_cases true b c h = absurd (both_ways true h refl)
    by_cases false true c h = absurd (both_ways true h refl)
    by_cases false false true h = absurd (both_ways true h refl)
    by_cases false false false h = refl

-- values without a fault have none under another name, or in another repository with the same types
pub kept_anywhere : (r r' : Repository) (x y : Object) → HasDefs r.types → y.values ≡ x.values → IsKept r (props_of r.types x.kind x.secondary) x → IsKept r' (props_of r.types x.kind x.secondary) y
kept_anywhere r r' x y types values k = all_zip (IsDef r.types) (λ d. is_faulty d (form_value r x d.id) ≡ false) (λ d. is_faulty d (form_value r' y d.id) ≡ false) (props_of r.types x.kind x.secondary)
    (λ d i h. form_is r' y d i.2 (λ other. ap (λ vs. is_faulty d (value_in vs d.id)) values ∙ (ap (is_faulty d) (sym (apart_value r x d.id other)) ∙ h)))
    (props_all (IsDef r.types) r.types x.kind x.secondary types) k

-- a default value has no fault
default_right : (d : PropDef) → IsSoundDef d → value_fault d d.default ≡ None
default_right d s = by (value_fault d d.default) (or_left (not (is_none (value_fault d d.default))) (list_any (is_wrong_choice d) d.choices) s.has_no_fault)
  where
    by : (o : Option PropertyFault) → not (is_none o) ≡ false → o ≡ None
    by None h = refl
    by (Some f) h = absurd (both_ways true h refl)

-- the values of a new object, once its properties are judged
pub kept_new : (r : Repository) (kind : List ℕ) (secondary : List (List ℕ)) (given : List Given) (x : Object) → HasDefs r.types → judge_properties calls.Create (props_of r.types kind secondary) [] given ≡ Ok tt
    → x.values ≡ kept_beside (kept_values calls.Create (props_of r.types kind secondary) [] given) → IsKept r (props_of r.types kind secondary) x
kept_new r kind secondary given x types h values =
    let defs = props_of r.types kind secondary in
    let parts = then_ok (first_cause (given_cause calls.Create defs) given) (first_cause (missing_cause calls.Create [] given) defs) h in
    let given_ok = first_none (given_cause calls.Create defs) given parts.0 in
    let is_def : All (IsDef r.types) defs = props_all (IsDef r.types) r.types kind secondary types in
    all_zip (λ d. IsDef r.types d × Contains defs d) (λ d. missing_cause calls.Create [] given d ≡ None) (λ d. is_faulty d (form_value r x d.id) ≡ false) defs
    (λ d i m.
    let agree : Agrees d defs = props_all (λ e. (bytes_eq d.id e.id || bytes_eq d.query_name e.query_name) ≡ true → d ≡ e) r.types kind secondary i.0.0 in
    let first = find_first defs d agree i.1 in
    form_is r x d i.0.2 (λ other.
    let v : value_in x.values d.id ≡ kept_value calls.Create [] given d = ap (λ vs. value_in vs d.id) values ∙ beside_value defs (kept_value calls.Create [] given) d agree first other in
    ap (is_faulty d) v ∙ faultless d (kept_value calls.Create [] given d) (kept_right calls.Create [] defs given d given_ok first (default_right d i.0.1)) (missing_not calls.Create [] given d m)))
    (all_zip (IsDef r.types) (Contains defs) (λ d. IsDef r.types d × Contains defs d) defs (λ d a b. (a, b)) is_def (All-contains_itself defs))
    (first_none (missing_cause calls.Create [] given) defs parts.1)

-- what is kept of an object's properties is of its own properties
pub owns_kept : (types : List TypeDef) (call : PropertyCall) (old : List Slot) (given : List Given) (x : Object) → All (IsOwn types x) (kept_beside (kept_values call (props_of types x.kind x.secondary) old given))
owns_kept types call old given x = All-filter (λ s. not (is_apart s.id) && is_set s.value) (IsOwn types x) (kept_values call (props_of types x.kind x.secondary) old given)
    (All-map (IsOwn types x) (λ d. record { id = d.id; value = kept_value call old given d }) (props_of types x.kind x.secondary)
    (All-weaker (Contains (props_of types x.kind x.secondary)) (λ d. is_some (def_of (props_of types x.kind x.secondary) d.id) ≡ true) (λ d. there (props_of types x.kind x.secondary) d)
    (props_of types x.kind x.secondary) (All-contains_itself (props_of types x.kind x.secondary))))
  where
    there : (defs : List PropDef) (d : PropDef) → Contains defs d → is_some (def_of defs d.id) ≡ true
    there defs d h = elim (def_of defs d.id) as (λ o. def_of defs d.id ≡ o → is_some o ≡ true) [
      | None ↦ λ e. absurd (both_ways (bytes_eq d.id d.id) (All-contains (λ e. bytes_eq e.id d.id ≡ false) defs d (all_unfound (λ e. bytes_eq e.id d.id) defs e) h) (bytes_same d.id d.id refl))
      | Some e ↦ λ k. refl
    ] refl
