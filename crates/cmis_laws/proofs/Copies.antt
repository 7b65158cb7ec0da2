-- The values of a copy have no fault: the comment of a check-in is not copied.
use Rattle.std.specs.Prelude.{◌≡◌, ℕ, true, false, not, List, All, is_some, option_map, unwrap_or, bytes_eq, codes}
use Rattle.std.proofs.Common.{sym, ap, subst, ◌∙◌}
use Rattle.cm_base.specs.declared.object.Object.{Object}
use Rattle.cm_base.specs.declared.value.Slot.{Slot}
use Rattle.cm_base.specs.declared.value.Value.TheVariants.{Unset}
use Rattle.std.proofs.lemmas.List.Elements.{All-filter}
use Rattle.cm_types.specs.declared.definition.TypeDef.{TypeDef}
use Rattle.cm_types.specs.Types.{props_of}
use Rattle.cm_types.specs.Properties.{value_in, is_faulty, def_of}
use Rattle.cmis_spec.specs.Repository.{Repository}
use Rattle.cmis_spec.specs.Values.{form_value}
use Rattle.cmis_spec.specs.Documents.{is_comment, without_comment}
use Rattle.cmis_spec.specs.Well.{Apart, IsDef, HasDefs, IsKept, IsOwn, OwnsValues}
use Rattle.cmis_laws.proofs.Lists.{by_test, all_zip}
use Rattle.cmis_laws.proofs.Kept.{apart_value, bytes_true, form_is, props_all}
use Rattle.cmis_laws.proofs.Left.{find_filtered, none_filtered, apart_filter}

-- another value is the same without the comment
pub other_value : (slots : List Slot) (id : List ℕ) → bytes_eq id (codes "cmis:checkinComment") ≡ false → value_in (without_comment slots) id ≡ value_in slots id
other_value slots id h = ap (λ o. unwrap_or (option_map (λ s. s.value) o) Unset)
    (find_filtered (λ (s : Slot). bytes_eq s.id id) (λ s. not (is_comment s)) slots (λ s e. ap not (subst (λ t. bytes_eq t (codes "cmis:checkinComment") ≡ false) (sym (bytes_true s.id id e)) h)))

-- and the comment is unset
pub comment_unset : (slots : List Slot) (id : List ℕ) → bytes_eq id (codes "cmis:checkinComment") ≡ true → value_in (without_comment slots) id ≡ Unset
comment_unset slots id h = ap (λ o. unwrap_or (option_map (λ s. s.value) o) Unset)
    (none_filtered (λ (s : Slot). bytes_eq s.id id) (λ s. not (is_comment s)) slots (λ s e. ap not (subst (λ t. bytes_eq t (codes "cmis:checkinComment") ≡ true) (sym (bytes_true s.id id e)) h)))

pub kept_copied : (r r' : Repository) (x y : Object) → HasDefs r.types → y.values ≡ without_comment x.values → IsKept r (props_of r.types x.kind x.secondary) x → IsKept r' (props_of r.types x.kind x.secondary) y
kept_copied r r' x y types values k = all_zip (IsDef r.types) (λ d. is_faulty d (form_value r x d.id) ≡ false) (λ d. is_faulty d (form_value r' y d.id) ≡ false) (props_of r.types x.kind x.secondary)
    (λ d i h. form_is r' y d i.2 (λ other. ap (λ vs. is_faulty d (value_in vs d.id)) values ∙ by_test (bytes_eq d.id (codes "cmis:checkinComment"))
    (λ e. ap (is_faulty d) (comment_unset x.values d.id e) ∙ (i.2.2 e).0)
    (λ e. ap (is_faulty d) (other_value x.values d.id e) ∙ (ap (is_faulty d) (sym (apart_value r x d.id other)) ∙ h))))
    (props_all (IsDef r.types) r.types x.kind x.secondary types) k

-- and they are of its own properties, each once
pub owns_copied : (types : List TypeDef) (x y : Object) → y.values ≡ without_comment x.values → y.kind ≡ x.kind → y.secondary ≡ x.secondary → OwnsValues types x → OwnsValues types y
owns_copied types x y values kind secondary h = (
  subst (All (IsOwn types y)) (sym values)
      (subst (λ k. All (λ s. is_some (def_of (props_of types k y.secondary) s.id) ≡ true) (without_comment x.values)) (sym kind)
      (subst (λ ss. All (λ s. is_some (def_of (props_of types x.kind ss) s.id) ≡ true) (without_comment x.values)) (sym secondary)
      (All-filter (λ s. not (is_comment s)) (IsOwn types x) x.values h.0))),
  subst (Apart (λ s t. bytes_eq s.id t.id ≡ false)) (sym values) (apart_filter (λ s t. bytes_eq s.id t.id ≡ false) (λ s. not (is_comment s)) x.values h.1),
)
