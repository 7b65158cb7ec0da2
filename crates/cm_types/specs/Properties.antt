-- What is wrong with a given property, and the values that are kept (CMIS 1.1, sections 2.1.2.1 and 2.1.3.3).
use Rattle.std.specs.Prelude.{ℕ, ◌==◌, nat_lt, ℤ, pos, negsuc, int_lt, Bool, true, false, ◌&&◌, ◌||◌, not, if◌then◌else◌, List, [], ◌∷◌, length, map, filter_map, find, Option, Some, None, unwrap_or, option_map, bytes_eq, codes, count_by}
use Rattle.std.specs.List.{list_any, list_all}
use Rattle.core.specs.Fmt.{is_char_start}
use Rattle.cm_base.specs.declared.value.Slot.{Slot}
use Rattle.cm_base.specs.declared.value.Scalar.{Scalar}
use Rattle.cm_base.specs.declared.value.Scalar.TheVariants.{Flag, Whole, Time, Words}
use Rattle.cm_base.specs.declared.value.Value.{Value}
use Rattle.cm_base.specs.declared.value.Value.TheVariants.{Unset, One, Many}
use Rattle.cm_base.specs.declared.cause.Cause.{Cause}
use Rattle.cm_base.specs.declared.cause.Cause.TheVariants as causes
use Rattle.cm_base.specs.declared.cause.PropertyFault.{PropertyFault}
use Rattle.cm_base.specs.declared.cause.PropertyFault.TheVariants as faults
use Rattle.cm_base.specs.Decimals.{decimal_i64}
use Rattle.cm_base.specs.Judged.{Judged, ◌>>◌, first_cause}
use Rattle.cm_types.specs.declared.property.PropDef.{PropDef}
use Rattle.cm_types.specs.declared.property.PropertyKind.{PropertyKind}
use Rattle.cm_types.specs.declared.property.PropertyKind.TheVariants as kinds
use Rattle.cm_types.specs.declared.property.Cardinality.{Cardinality}
use Rattle.cm_types.specs.declared.property.Cardinality.TheVariants as cardinalities
use Rattle.cm_types.specs.declared.property.Updatability.{Updatability}
use Rattle.cm_types.specs.declared.property.Updatability.TheVariants as may
use Rattle.cm_types.specs.declared.given.Given.{Given}
use Rattle.cm_types.specs.declared.given.PropertyCall.{PropertyCall}
use Rattle.cm_types.specs.declared.given.PropertyCall.TheVariants as calls

-- ---- values

abbrev pub slot_in : List Slot → List ℕ → Option Value
slot_in slots id = option_map (λ s. s.value) (find (λ s. bytes_eq s.id id) slots)

abbrev pub value_in : List Slot → List ℕ → Value
value_in slots id = unwrap_or (slot_in slots id) Unset

abbrev pub is_set : Value → Bool
is_set Unset = false
is_set _ = true

abbrev pub scalars_of : Value → List Scalar
scalars_of Unset = []
scalars_of (One s) = s ∷ []
scalars_of (Many ss) = ss

abbrev pub text_of_scalar : Scalar → Option (List ℕ)
text_of_scalar (Words t) = Some t
text_of_scalar _ = None

-- the texts of a value
abbrev pub texts_of : Value → List (List ℕ)
texts_of v = filter_map text_of_scalar (scalars_of v)

abbrev pub same_flag : Bool → Bool → Bool
same_flag true b = b
same_flag false b = not b

abbrev pub same_whole : ℤ → ℤ → Bool
same_whole (pos m) (pos n) = m == n
same_whole (negsuc m) (negsuc n) = m == n
same_whole _ _ = false

abbrev pub same_scalar : Scalar → Scalar → Bool
same_scalar (Flag a) (Flag b) = same_flag a b
same_scalar (Whole m) (Whole n) = same_whole m n
same_scalar (Time m) (Time n) = same_whole m n
same_scalar (Words s) (Words t) = bytes_eq s t
same_scalar _ _ = false

-- ---- texts of values

abbrev pub flag_of_text : List ℕ → Option Bool
flag_of_text text =
    if bytes_eq text (codes "true") then Some true
    else if bytes_eq text (codes "false") then Some false
    else None

-- the scalar that a text states, by the kind of the property: a moment is in milliseconds since 1970, UTC
abbrev pub scalar_of_text : PropertyKind → List ℕ → Option Scalar
scalar_of_text kinds.Boolean text = option_map Flag (flag_of_text text)
scalar_of_text kinds.Integer text = option_map Whole (decimal_i64 text)
scalar_of_text kinds.Datetime text = option_map Time (decimal_i64 text)
scalar_of_text kinds.String text = Some (Words text)
scalar_of_text kinds.Uri text = Some (Words text)
scalar_of_text kinds.Id text = Some (Words text)
scalar_of_text kinds.Html text = Some (Words text)

abbrev pub scalars_of_texts : PropertyKind → List (List ℕ) → List Scalar
scalars_of_texts kind texts = filter_map (scalar_of_text kind) texts

-- the value that texts state for a property of one value or of several; no text unsets the property
abbrev pub value_of_texts : PropertyKind → Cardinality → List (List ℕ) → Value
value_of_texts kind cardinality [] = Unset
value_of_texts kind cardinalities.Single (t ∷ ts) = unwrap_or (option_map One (scalar_of_text kind t)) Unset
value_of_texts kind cardinalities.Multi (t ∷ ts) = Many (scalars_of_texts kind (t ∷ ts))

-- the value that a given property states
abbrev pub stated : PropDef → Given → Value
stated d g = value_of_texts d.kind d.cardinality g.texts

-- ---- faults of a scalar

-- a scalar is of the kind of a property
abbrev pub is_of_kind : PropertyKind → Scalar → Bool
is_of_kind kinds.Boolean (Flag b) = true
is_of_kind kinds.Integer (Whole n) = true
is_of_kind kinds.Datetime (Time n) = true
is_of_kind kinds.String (Words t) = true
is_of_kind kinds.Uri (Words t) = true
is_of_kind kinds.Id (Words t) = true
is_of_kind kinds.Html (Words t) = true
is_of_kind _ _ = false

-- in UTF-8 each character (a Unicode scalar value) has one byte that begins it (RFC 3629, section 3)
abbrev pub characters : List ℕ → ℕ
characters text = count_by is_char_start text

-- it has more characters than the property allows
abbrev pub is_too_long : PropDef → Scalar → Bool
is_too_long d (Words t) = unwrap_or (option_map (λ most. int_lt most (pos (characters t))) d.max_length) false
is_too_long d _ = false

abbrev pub is_below_least : PropDef → ℤ → Bool
is_below_least d n = unwrap_or (option_map (int_lt n) d.min_value) false

abbrev pub is_above_most : PropDef → ℤ → Bool
is_above_most d n = unwrap_or (option_map (λ most. int_lt most n) d.max_value) false

-- it is not between the bounds of the property
abbrev pub is_out_of_range : PropDef → Scalar → Bool
is_out_of_range d (Whole n) = is_below_least d n || is_above_most d n
is_out_of_range d _ = false

-- the property has choices, values beside them are not allowed, and it is none of them
abbrev pub is_no_choice : PropDef → Scalar → Bool
is_no_choice d s = not d.open_choice && nat_lt 0 (length d.choices) && not (list_any (λ c. same_scalar c.value s) d.choices)

-- ---- faults of a value

abbrev pub has_other_cardinality : Cardinality → Value → Bool
has_other_cardinality cardinalities.Single (Many ss) = true
has_other_cardinality cardinalities.Multi (One s) = true
has_other_cardinality _ _ = false

-- the first fault of a value: cardinality, form, length, range, choice
abbrev pub value_fault : PropDef → Value → Option PropertyFault
value_fault d v =
    if has_other_cardinality d.cardinality v then Some faults.Cardinality
    else if not (list_all (is_of_kind d.kind) (scalars_of v)) then Some faults.Form
    else if list_any (is_too_long d) (scalars_of v) then Some faults.Length
    else if list_any (is_out_of_range d) (scalars_of v) then Some faults.Range
    else if list_any (is_no_choice d) (scalars_of v) then Some faults.Choice
    else None

-- ---- faults of a given property

-- the property may be given in the call
abbrev pub may_give : PropertyCall → Updatability → Bool
may_give call may.ReadOnly = false
may_give call may.ReadWrite = true
may_give calls.Create may.OnCreate = true
may_give _ may.OnCreate = false
may_give (calls.Update working) may.WhenCheckedOut = working
may_give _ may.WhenCheckedOut = true

-- a property of several values takes one as well: it is a list of one then
abbrev pub has_other_form : Cardinality → Given → Bool
has_other_form cardinalities.Single g = g.several || nat_lt 1 (length g.texts)
has_other_form cardinalities.Multi g = false

-- several values, be it one item, for a property of one; what is unset fits both
abbrev pub breaks_cardinality : PropDef → Given → Bool
breaks_cardinality d g = nat_lt 0 (length g.texts) && has_other_form d.cardinality g

-- the text states no scalar of the kind
abbrev pub is_formless : PropertyKind → List ℕ → Bool
is_formless kind text = unwrap_or (option_map (λ s. false) (scalar_of_text kind text)) true

abbrev pub breaks_form : PropDef → Given → Bool
breaks_form d g = list_any (is_formless d.kind) g.texts

-- the first fault of a property that is given in the call and whose definition is there
abbrev pub fault_by : PropertyCall → PropDef → Given → Option PropertyFault
fault_by call d g =
    if not (may_give call d.updatability) then Some faults.Readonly
    else if breaks_cardinality d g then Some faults.Cardinality
    else if breaks_form d g then Some faults.Form
    else value_fault d (stated d g)

abbrev pub def_of : List PropDef → List ℕ → Option PropDef
def_of defs id = find (λ d. bytes_eq d.id id) defs

-- the first fault of a given property
abbrev pub property_fault : PropertyCall → List PropDef → Given → Option PropertyFault
property_fault call defs g = unwrap_or (option_map (λ d. fault_by call d g) (def_of defs g.id)) (Some faults.Unknown)

abbrev pub given_cause : PropertyCall → List PropDef → Given → Option Cause
given_cause call defs g = option_map (causes.Property g.id) (property_fault call defs g)

-- ---- what is kept

-- the value of what is not given: the old one; in a create without an old one, the default
abbrev pub value_before : PropertyCall → List Slot → PropDef → Value
value_before calls.Create old d = unwrap_or (slot_in old d.id) d.default
value_before _ old d = value_in old d.id

abbrev pub given_of : List Given → List ℕ → Option Given
given_of given id = find (λ g. bytes_eq g.id id) given

-- the value that is kept: the given one, else the one before
abbrev pub kept_value : PropertyCall → List Slot → List Given → PropDef → Value
kept_value call old given d = unwrap_or (option_map (stated d) (given_of given d.id)) (value_before call old d)

abbrev pub kept_values : PropertyCall → List PropDef → List Slot → List Given → List Slot
kept_values call defs old given = map (λ d. record { id = d.id; value = kept_value call old given d }) defs

abbrev pub is_missing : PropertyCall → List Slot → List Given → PropDef → Bool
is_missing call old given d = d.required && not (is_set (kept_value call old given d))

abbrev pub missing_cause : PropertyCall → List Slot → List Given → PropDef → Option Cause
missing_cause call old given d = if is_missing call old given d then Some (causes.Property d.id faults.Required) else None

-- the first fault of the given properties in their order, then what is required and would be unset, in the order of the definitions
abbrev pub judge_properties : PropertyCall → List PropDef → List Slot → List Given → Judged (Unit {0})
judge_properties call defs old given =
    first_cause (given_cause call defs) given
    >> first_cause (missing_cause call old given) defs

-- the texts of a given property
abbrev pub given_texts : List Given → List ℕ → List (List ℕ)
given_texts given id = unwrap_or (option_map (λ g. g.texts) (given_of given id)) []

-- a kept value has a fault
abbrev pub is_faulty : PropDef → Value → Bool
is_faulty d v = unwrap_or (option_map (λ f. true) (value_fault d v)) (d.required && not (is_set v))
