-- The ends that a new relationship keeps are the objects that its properties name first.
use Rattle.std.specs.Prelude.{◌≡◌, ℕ, Bool, true, false, nat_lt, ◌&&◌, ◌||◌, not, if◌then◌else◌, List, [], ◌∷◌, find, length, slice_get, All, Option, Some, None, option_map, unwrap_or, bytes_eq, codes}
use Rattle.std.proofs.Common.{refl, sym, ap, subst, ◌∙◌, arith}
use Rattle.std.proofs.lemmas.Bool.{both_ways, lt-ltb}
use Rattle.std.proofs.lemmas.List.Elements.{All-nil, All-cons, All-weaker, All-filter, All-map}
use Rattle.cm_base.specs.declared.value.Slot.{Slot}
use Rattle.cm_base.specs.declared.value.Value.{Value}
use Rattle.cm_base.specs.declared.value.Value.TheVariants.{Unset}
use Rattle.cm_base.specs.declared.cause.Cause.TheVariants as causes
use Rattle.cm_base.specs.declared.cause.PropertyFault.{PropertyFault}
use Rattle.cm_base.specs.declared.cause.PropertyFault.TheVariants as faults
use Rattle.cm_types.specs.declared.definition.TypeDef.{TypeDef}
use Rattle.cm_types.specs.declared.definition.BaseType.TheVariants as bases
use Rattle.cm_types.specs.declared.property.PropDef.{PropDef}
use Rattle.cm_types.specs.declared.property.PropertyKind.TheVariants.{Id}
use Rattle.cm_types.specs.declared.property.Cardinality.TheVariants.{Single}
use Rattle.cm_types.specs.declared.property.Updatability.TheVariants.{OnCreate}
use Rattle.cm_types.specs.declared.given.Given.{Given}
use Rattle.cm_types.specs.declared.given.PropertyCall.TheVariants as calls
use Rattle.cm_types.specs.Types.{type_in, props_of}
use Rattle.cm_types.specs.BaseTypes.{base_types, base_row, prop}
use Rattle.cm_types.specs.Properties.{value_in, texts_of, is_set, breaks_form, value_fault, stated, fault_by, def_of, property_fault, given_cause, given_of, kept_value, kept_values}
use Rattle.cmis_spec.specs.Values.{is_apart, kept_beside}
use Rattle.cmis_spec.specs.Well.{HasTypes, HasBases, HasDefs, IsDef}
use Rattle.cmis_laws.proofs.Lists.{found_holds, found_passes}
use Rattle.cmis_laws.proofs.Kept.{props_all, bytes_true, bytes_same}
use Rattle.cmis_laws.proofs.Passed.{some_none}
use Rattle.wr_relationship.specs.CreateRelationship.{first_given}

-- ---- the definitions of the ends

-- as the base type of relationships has them
abbrev pub end_prop : List ℕ → PropDef
end_prop id = prop id Id Single OnCreate true true

relationship_there : (types : List TypeDef) → HasTypes types → type_in types (codes "cmis:relationship") ≡ Some (base_row bases.Relationship)
unfolding HasBases
relationship_there types w = found_holds (λ b. type_in types b.id ≡ Some b) (λ b. bytes_eq b.id (codes "cmis:relationship")) base_types (base_row bases.Relationship) w.3 refl

-- no type has another definition under the id
pub one_end : (types : List TypeDef) (id kind : List ℕ) (secondary : List (List ℕ)) → HasTypes types → HasDefs types → find (λ d. bytes_eq d.id id) (base_row bases.Relationship).properties ≡ Some (end_prop id)
    → All (λ e. bytes_eq e.id id ≡ true → e ≡ end_prop id) (props_of types kind secondary)
one_end types id kind secondary w defs row =
    let own = found_holds (λ t. All (IsDef types) t.properties) (λ t. bytes_eq t.id (codes "cmis:relationship")) types (base_row bases.Relationship) defs (relationship_there types w) in
    let def = found_holds (IsDef types) (λ d. bytes_eq d.id id) (base_row bases.Relationship).properties (end_prop id) own row in
    All-weaker (λ e. (bytes_eq id e.id || bytes_eq id e.query_name) ≡ true → end_prop id ≡ e) (λ e. bytes_eq e.id id ≡ true → e ≡ end_prop id)
    (λ e f h. sym (f (ap (λ b. b || bytes_eq id e.query_name) (bytes_same id e.id (sym (bytes_true e.id id h)))))) (props_of types kind secondary)
    (props_all (λ e. (bytes_eq id e.id || bytes_eq id e.query_name) ≡ true → end_prop id ≡ e) types kind secondary def.0)

-- ---- what is given for an end

-- one text without a fault, or none
module _ (P : List ℕ → Type 0) (id : List ℕ) where
  no_cardinality : (b c : Bool) (o : Option PropertyFault) → (if b then Some faults.Cardinality else if c then Some faults.Form else o) ≡ None → b ≡ false
  no_cardinality true c o h = absurd (some_none faults.Cardinality h)
  no_cardinality false c o h = refl

  stated_one : (texts : List (List ℕ)) (several : Bool) → fault_by calls.Create (end_prop id) (record { id = id; texts = texts; several = several }) ≡ None
      → ((t : List ℕ) → slice_get texts 0 ≡ Some t → P t) → All P (texts_of (stated (end_prop id) (record { id = id; texts = texts; several = several })))
  stated_one [] several h f = All-nil P
  stated_one (t ∷ []) false h f = All-cons P t [] (f t refl) (All-nil P)
  stated_one (t ∷ []) true h f = absurd (both_ways true (no_cardinality true (breaks_form (end_prop id) (record { id = id; texts = t ∷ []; several = true })) (value_fault (end_prop id) (stated (end_prop id) (record { id = id; texts = t ∷ []; several = true }))) h) refl)
  stated_one (t ∷ s ∷ ts) several h f = absurd (both_ways (nat_lt 0 (length (t ∷ s ∷ ts)) && (several || nat_lt 1 (length (t ∷ s ∷ ts)))) (no_cardinality (nat_lt 0 (length (t ∷ s ∷ ts)) && (several || nat_lt 1 (length (t ∷ s ∷ ts)))) (breaks_form (end_prop id) (record { id = id; texts = t ∷ s ∷ ts; several = several })) (value_fault (end_prop id) (stated (end_prop id) (record { id = id; texts = t ∷ s ∷ ts; several = several }))) h) (is_broken several))
    where
      some : nat_lt 0 (length (t ∷ s ∷ ts)) ≡ true
      some = lt-ltb 0 (length (t ∷ s ∷ ts)) (omega arith)

      more : nat_lt 1 (length (t ∷ s ∷ ts)) ≡ true
      more = lt-ltb 1 (length (t ∷ s ∷ ts)) (omega arith)

      is_broken : (b : Bool) → nat_lt 0 (length (t ∷ s ∷ ts)) && (b || nat_lt 1 (length (t ∷ s ∷ ts))) ≡ true
      is_broken true = rw some refl
      is_broken false = rw (some, more) refl

-- ---- what is kept for an end

map_none : {A B : Type 0} (f : A → B) (o : Option A) → option_map f o ≡ None → o ≡ None
map_none f None h = refl
map_none f (Some x) h = absurd (some_none (f x) h)

-- a given property without a fault has the definition of its id
right_by : (defs : List PropDef) (id : List ℕ) (g : Given) → All (λ e. bytes_eq e.id id ≡ true → e ≡ end_prop id) defs → g.id ≡ id → property_fault calls.Create defs g ≡ None → fault_by calls.Create (end_prop id) g ≡ None
right_by defs id g one at h = by (def_of defs g.id) refl
  where
    by : (o : Option PropDef) → def_of defs g.id ≡ o → fault_by calls.Create (end_prop id) g ≡ None
    by None e = absurd (some_none faults.Unknown (sym (ap (λ o. unwrap_or (option_map (λ d. fault_by calls.Create d g) o) (Some faults.Unknown)) e) ∙ h))
    by (Some d) e =
        let it : d ≡ end_prop id = found_holds (λ e. bytes_eq e.id id ≡ true → e ≡ end_prop id) (λ e. bytes_eq e.id g.id) defs d one e
        (bytes_same d.id id (bytes_true d.id g.id (found_passes (λ e. bytes_eq e.id g.id) defs d e) ∙ at)) in
        subst (λ d. fault_by calls.Create d g ≡ None) it (sym (ap (λ o. unwrap_or (option_map (λ d. fault_by calls.Create d g) o) (Some faults.Unknown)) e) ∙ h)

kept_end : (P : List ℕ → Type 0) (defs : List PropDef) (given : List Given) (id : List ℕ) → All (λ e. bytes_eq e.id id ≡ true → e ≡ end_prop id) defs → All (λ g. given_cause calls.Create defs g ≡ None) given
    → ((t : List ℕ) → first_given given id ≡ Some t → P t) → All P (texts_of (kept_value calls.Create [] given (end_prop id)))
kept_end P defs given id one right f = by (given_of given id) refl
  where
    by : (o : Option Given) → given_of given id ≡ o → All P (texts_of (unwrap_or (option_map (stated (end_prop id)) o) Unset))
    by None e = All-nil P
    by (Some g) e =
        let at : g.id ≡ id = bytes_true g.id id (found_passes (λ g. bytes_eq g.id id) given g e) in
        let none : property_fault calls.Create defs g ≡ None = map_none (causes.Property g.id) (property_fault calls.Create defs g) (found_holds (λ g. given_cause calls.Create defs g ≡ None) (λ g. bytes_eq g.id id) given g right e) in
        stated_one P id g.texts g.several (right_by defs id g one at none)
        (λ t h. f t (ap (λ o. slice_get (unwrap_or (option_map (λ g. g.texts) o) []) 0) e ∙ h))

value_all : (Q : Value → Type 0) (slots : List Slot) (id : List ℕ) → Q Unset → All (λ (s : Slot). bytes_eq s.id id ≡ true → Q s.value) slots → Q (value_in slots id)
value_all Q slots id none all = by (find (λ (s : Slot). bytes_eq s.id id) slots) refl
  where
    by : (o : Option Slot) → find (λ (s : Slot). bytes_eq s.id id) slots ≡ o → Q (value_in slots id)
    by None e = subst (λ o. Q (unwrap_or (option_map (λ (s : Slot). s.value) o) Unset)) (sym e) none
    by (Some s) e = subst (λ o. Q (unwrap_or (option_map (λ (s : Slot). s.value) o) Unset)) (sym e)
        (found_holds (λ (s : Slot). bytes_eq s.id id ≡ true → Q s.value) (λ (s : Slot). bytes_eq s.id id) slots s all e (found_passes (λ (s : Slot). bytes_eq s.id id) slots s e))

-- the texts that are kept for an end are the first that is given for it, or none
pub ends_kept : (P : List ℕ → Type 0) (defs : List PropDef) (given : List Given) (id : List ℕ) → All (λ e. bytes_eq e.id id ≡ true → e ≡ end_prop id) defs → All (λ g. given_cause calls.Create defs g ≡ None) given
    → ((t : List ℕ) → first_given given id ≡ Some t → P t) → All P (texts_of (value_in (kept_beside (kept_values calls.Create defs [] given)) id))
ends_kept P defs given id one right f =
    let kept = kept_end P defs given id one right f in
    value_all (λ v. All P (texts_of v)) (kept_beside (kept_values calls.Create defs [] given)) id (All-nil P)
    (All-filter (λ s. not (is_apart s.id) && is_set s.value) (λ (s : Slot). bytes_eq s.id id ≡ true → All P (texts_of s.value)) (kept_values calls.Create defs [] given)
    (All-map (λ (s : Slot). bytes_eq s.id id ≡ true → All P (texts_of s.value)) (λ (d : PropDef). record { id = d.id; value = kept_value calls.Create [] given d }) defs
    (All-weaker (λ e. bytes_eq e.id id ≡ true → e ≡ end_prop id) (λ (d : PropDef). bytes_eq d.id id ≡ true → All P (texts_of (kept_value calls.Create [] given d)))
    (λ d it h. subst (λ d. All P (texts_of (kept_value calls.Create [] given d))) (sym (it h)) kept) defs one)))
