-- What is written by columns is what is shown.
use Rattle.std.specs.Prelude.{option_map, unwrap_or}
use Rattle.std.proofs.Common.{◌≡◌, ℕ, Bool, true, false, List, [], ◌∷◌, refl, sym, ap, ◌∙◌, codes}
use Rattle.std.proofs.lemmas.Simd.{map-map}
use Rattle.json_text.specs.Build.{object_data}
use Rattle.json_text.specs.Tokens.{listed_members}
use Rattle.serde_json.specs.Data.{object}
use Rattle.cm_base.specs.declared.object.Object.{Object}
use Rattle.call_parts.specs.declared.readings.PropertyFilter.{PropertyFilter}
use Rattle.cmis_spec.specs.Repository.{Repository}
use Rattle.cm_types.specs.declared.property.PropDef.{PropDef}
use Rattle.cm_see.specs.Shown.{shown_defs, shown_object, shown_property, shown_slot}
use Rattle.object_json.specs.Objects.{property_field, shown_data, value_field}
use Rattle.object_json.specs.Pages.{child_data}
use Rattle.cm_see.specs.Shown.{system_value}
use Rattle.cm_types.specs.Properties.{value_in}
use Rattle.show_json.specs.Columns.{columns_of, full_field, object_by, child_by, properties_by, setting_of, Sight, sight, slot_field, value_shown}
use Rattle.show_json.specs.OrderedLaws.{object_in_order}

-- an object by its columns is the object that is shown
pub object_shown : (r : Repository) (u : List ℕ) (f : PropertyFilter) (succinct : Bool) (x : Object)
    → object_by (sight r u x) succinct (columns_of r f x) ≡ shown_data (shown_object r u f succinct x)
unfolding value_shown object_by properties_by
object_shown r u f true x =
    ap (λ d. object (listed_members ((codes "succinctProperties", d) ∷ [])))
    (sym (ap object_data (map-map value_field (shown_slot r u x) (shown_defs r f x)) ∙ object_in_order (slot_field (sight r u x)) (shown_defs r f x)))
object_shown r u f false x =
    ap (λ d. object (listed_members ((codes "properties", d) ∷ [])))
    (sym (ap object_data (map-map property_field (shown_property r u x) (shown_defs r f x)) ∙ object_in_order (full_field (sight r u x)) (shown_defs r f x)))

pub child_shown : (r : Repository) (u : List ℕ) (f : PropertyFilter) (succinct : Bool) (x : Object)
    → child_by (sight r u x) succinct (columns_of r f x) ≡ child_data (shown_object r u f succinct x)
unfolding child_by
child_shown r u f succinct x = ap (λ d. object (listed_members ((codes "object", d) ∷ []))) (object_shown r u f succinct x)

-- the same of an object that is looked at
pub object_seen : (s : Sight) (r : Repository) (u : List ℕ) (f : PropertyFilter) (succinct : Bool) (x : Object) (ds : List PropDef)
    → s ≡ sight r u x → ds ≡ columns_of r f x → object_by s succinct ds ≡ shown_data (shown_object r u f succinct x)
object_seen s r u f succinct x ds h k =
    ap (λ t. object_by t succinct ds) h ∙ ap (object_by (sight r u x) succinct) k ∙ object_shown r u f succinct x

pub child_seen : (s : Sight) (r : Repository) (u : List ℕ) (f : PropertyFilter) (succinct : Bool) (x : Object) (ds : List PropDef)
    → s ≡ sight r u x → ds ≡ columns_of r f x → child_by s succinct ds ≡ child_data (shown_object r u f succinct x)
child_seen s r u f succinct x ds h k =
    ap (λ t. child_by t succinct ds) h ∙ ap (child_by (sight r u x) succinct) k ∙ child_shown r u f succinct x

-- a value is what the repository sets, or what is kept
pub value_by_setting : (r : Repository) (u : List ℕ) (x : Object) (id : List ℕ)
    → value_shown r u x id ≡ unwrap_or (option_map (system_value r u x) (setting_of id)) (value_in x.values id)
unfolding value_shown setting_of
value_by_setting r u x id = refl
