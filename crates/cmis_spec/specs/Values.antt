-- The values of an object's properties: those that are kept, and those that follow from the repository (CMIS 1.1, section 2.1.4).
use Rattle.std.specs.Prelude.{ℕ, Bool, ◌&&◌, ◌||◌, not, if◌then◌else◌, List, [], ◌∷◌, map, filter, bytes_eq, codes}
use Rattle.cm_base.specs.declared.object.Object.{Object}
use Rattle.cm_base.specs.declared.value.Value.{Value}
use Rattle.cm_base.specs.declared.value.Value.TheVariants.{Unset, One, Many}
use Rattle.cm_base.specs.declared.value.Scalar.TheVariants.{Words}
use Rattle.cm_base.specs.declared.value.Slot.{Slot}
use Rattle.cm_types.specs.declared.given.Given.{Given}
use Rattle.cm_types.specs.declared.given.PropertyCall.{PropertyCall}
use Rattle.cm_types.specs.declared.property.PropDef.{PropDef}
use Rattle.cm_types.specs.Properties.{value_in, is_set, kept_values}
use Rattle.cmis_spec.specs.Repository.{Repository, name_of}

abbrev pub words : List ℕ → Value
words text = One (Words text)

-- a list of texts; the empty list is unset
abbrev pub texts : List (List ℕ) → Value
texts [] = Unset
texts (t ∷ ts) = Many (map Words (t ∷ ts))

-- these three are kept beside the other values
abbrev pub is_apart : List ℕ → Bool
is_apart id = bytes_eq id (codes "cmis:name") || bytes_eq id (codes "cmis:objectTypeId") || bytes_eq id (codes "cmis:secondaryObjectTypeIds")

-- the values that are kept with an object: the set ones but those three
abbrev pub kept_beside : List Slot → List Slot
kept_beside slots = filter (λ s. not (is_apart s.id) && is_set s.value) slots

-- the values that an object keeps after a call that gives these
abbrev pub values_kept : PropertyCall → List PropDef → List Slot → List Given → List Slot
values_kept call defs old given = kept_beside (kept_values call defs old given)

-- the value of a property that a form or a default may give
abbrev pub form_value : Repository → Object → List ℕ → Value
form_value r x id =
    if bytes_eq id (codes "cmis:name") then words (name_of r x)
    else if bytes_eq id (codes "cmis:objectTypeId") then words x.kind
    else if bytes_eq id (codes "cmis:secondaryObjectTypeIds") then texts x.secondary
    else value_in x.values id
