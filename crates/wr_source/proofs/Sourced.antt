-- The values of a document that is made of another have no fault: each is given, or one of the source's, or a default value.
use Rattle.std.specs.Prelude.{◌≡◌, Bool, true, false, not, ◌||◌, if◌then◌else◌, List, find, is_none, All, Contains, Option, Some, None, Ok, unwrap_or, option_map, bytes_eq, codes}
use Rattle.std.specs.List.{list_any}
use Rattle.std.proofs.Common.{refl, sym, ap, subst, ◌∙◌}
use Rattle.std.proofs.lemmas.Bool.{both_ways}
use Rattle.std.proofs.lemmas.List.Elements.{All-contains_itself}
use Rattle.cm_base.specs.declared.object.Object.{Object}
use Rattle.cm_base.specs.declared.value.Slot.{Slot}
use Rattle.cm_base.specs.declared.value.Value.{Value}
use Rattle.cm_base.specs.declared.value.Value.TheVariants.{Unset}
use Rattle.cm_base.specs.declared.cause.PropertyFault.{PropertyFault}
use Rattle.cm_base.specs.Judged.{first_cause}
use Rattle.cm_types.specs.declared.property.PropDef.{PropDef}
use Rattle.cm_types.specs.declared.given.Given.{Given}
use Rattle.cm_types.specs.declared.given.PropertyCall.TheVariants as calls
use Rattle.cm_types.specs.Types.{props_of}
use Rattle.cm_types.specs.Properties.{value_in, value_fault, is_faulty, given_cause, missing_cause, value_before, kept_value, kept_values, judge_properties}
use Rattle.cm_types.specs.Changes.{is_wrong_choice}
use Rattle.cm_types.specs.Sound.{IsSoundDef}
use Rattle.cmis_spec.specs.Repository.{Repository}
use Rattle.cmis_spec.specs.Values.{kept_beside, form_value}
use Rattle.cmis_spec.specs.Well.{IsDef, Agrees, HasDefs, IsKept}
use Rattle.cmis_laws.proofs.Lists.{by_test, found_holds, found_passes, all_zip}
use Rattle.cmis_laws.proofs.Kept.{props_all, bytes_true, bytes_same, find_mapped, find_first, beside_value, kept_right, missing_not, faultless, form_is}
use Rattle.cmis_laws.proofs.Passed.{first_none, then_ok, or_left}
use Rattle.wr_source.specs.Templates.{copied_value, copied_slots}

-- a default value has no fault
default_right : (d : PropDef) → IsSoundDef d → value_fault d d.default ≡ None
default_right d s = by (value_fault d d.default) (or_left (not (is_none (value_fault d d.default))) (list_any (is_wrong_choice d) d.choices) s.has_no_fault)
  where
    by : (o : Option PropertyFault) → not (is_none o) ≡ false → o ≡ None
    by None h = refl
    by (Some f) h = absurd (both_ways true h refl)

right_of : (d : PropDef) (v : Value) → is_faulty d v ≡ false → value_fault d v ≡ None
right_of d v h = by (value_fault d v) _ h
  where
    by : (o : Option PropertyFault) (b : Bool) → unwrap_or (option_map (λ f. true) o) b ≡ false → o ≡ None
    by None b h = refl
    by (Some f) b h = absurd (both_ways true h refl)

-- what the source has of a property has no fault; the comment of a check-in may be unset
copied_right : (r : Repository) (x : Object) (d : PropDef) → IsDef r.types d → is_faulty d (form_value r x d.id) ≡ false → value_fault d (copied_value r x d.id) ≡ None
copied_right r x d i h = by_test (bytes_eq d.id (codes "cmis:checkinComment"))
    (λ e. ap (λ b. value_fault d (if b then Unset else form_value r x d.id)) e ∙ right_of d Unset (i.2.2 e).0)
    (λ e. ap (λ b. value_fault d (if b then Unset else form_value r x d.id)) e ∙ right_of d (form_value r x d.id) h)

-- nor has what is taken where nothing is given
before_right : (r : Repository) (x : Object) (d : PropDef) → IsDef r.types d → IsKept r (props_of r.types x.kind x.secondary) x → value_fault d (value_before calls.Create (copied_slots r x) d) ≡ None
before_right r x d i kept =
    ap (λ o. value_fault d (unwrap_or (option_map (λ (s : Slot). s.value) o) d.default)) (find_mapped {B = Slot} (λ (e : PropDef). record { id = e.id; value = copied_value r x e.id }) (λ s. bytes_eq s.id d.id) (props_of r.types x.kind x.secondary))
    ∙ by (find (λ (e : PropDef). bytes_eq e.id d.id) (props_of r.types x.kind x.secondary)) refl
  where
    agree : Agrees d (props_of r.types x.kind x.secondary)
    agree = props_all (λ e. (bytes_eq d.id e.id || bytes_eq d.query_name e.query_name) ≡ true → d ≡ e) r.types x.kind x.secondary i.0

    by : (o : Option PropDef) → find (λ (e : PropDef). bytes_eq e.id d.id) (props_of r.types x.kind x.secondary) ≡ o
        → value_fault d (unwrap_or (option_map (λ (s : Slot). s.value) (option_map (λ (e : PropDef). record { id = e.id; value = copied_value r x e.id }) o)) d.default) ≡ None
    by None f = default_right d i.1
    by (Some e) f =
        let at : e.id ≡ d.id = bytes_true e.id d.id (found_passes (λ e. bytes_eq e.id d.id) (props_of r.types x.kind x.secondary) e f) in
        let it : d ≡ e = found_holds (λ e. (bytes_eq d.id e.id || bytes_eq d.query_name e.query_name) ≡ true → d ≡ e) (λ e. bytes_eq e.id d.id) (props_of r.types x.kind x.secondary) e agree f
        (ap (λ b. b || bytes_eq d.query_name e.query_name) (bytes_same d.id e.id (sym at))) in
        let right : is_faulty e (form_value r x e.id) ≡ false = found_holds (λ e. is_faulty e (form_value r x e.id) ≡ false) (λ e. bytes_eq e.id d.id) (props_of r.types x.kind x.secondary) e kept f in
        ap (λ id. value_fault d (copied_value r x id)) at ∙ copied_right r x d i (subst (λ e. is_faulty e (form_value r x e.id) ≡ false) (sym it) right)

-- x is the source, and y the new document
pub kept_sourced : (r : Repository) (x y : Object) (given : List Given) → HasDefs r.types → IsKept r (props_of r.types x.kind x.secondary) x
    → judge_properties calls.Create (props_of r.types y.kind y.secondary) (copied_slots r x) given ≡ Ok tt
    → y.values ≡ kept_beside (kept_values calls.Create (props_of r.types y.kind y.secondary) (copied_slots r x) given)
    → IsKept r (props_of r.types y.kind y.secondary) y
kept_sourced r x y given types kept h values =
    let defs = props_of r.types y.kind y.secondary in
    let old = copied_slots r x in
    let parts = then_ok (first_cause (given_cause calls.Create defs) given) (first_cause (missing_cause calls.Create old given) defs) h in
    let given_ok = first_none (given_cause calls.Create defs) given parts.0 in
    let is_def : All (IsDef r.types) defs = props_all (IsDef r.types) r.types y.kind y.secondary types in
    all_zip (λ d. IsDef r.types d × Contains defs d) (λ d. missing_cause calls.Create old given d ≡ None) (λ d. is_faulty d (form_value r y d.id) ≡ false) defs
    (λ d i m.
    let agree : Agrees d defs = props_all (λ e. (bytes_eq d.id e.id || bytes_eq d.query_name e.query_name) ≡ true → d ≡ e) r.types y.kind y.secondary i.0.0 in
    let first = find_first defs d agree i.1 in
    form_is r y d i.0.2 (λ other.
    let v : value_in y.values d.id ≡ kept_value calls.Create old given d = ap (λ vs. value_in vs d.id) values ∙ beside_value defs (kept_value calls.Create old given) d agree first other in
    ap (is_faulty d) v ∙ faultless d (kept_value calls.Create old given d) (kept_right calls.Create old defs given d given_ok first (before_right r x d i.0 kept)) (missing_not calls.Create old given d m)))
    (all_zip (IsDef r.types) (Contains defs) (λ d. IsDef r.types d × Contains defs d) defs (λ d a b. (a, b)) is_def (All-contains_itself defs))
    (first_none (missing_cause calls.Create old given) defs parts.1)
