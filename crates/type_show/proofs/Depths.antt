-- A type definition's JSON is not deep.
use Rattle.std.proofs.Common.{◌≡◌, ◌≤◌, ℕ, suc, List, [], ◌∷◌, true, map, refl, arith}
use Rattle.std.specs.Prelude.{ℤ, nat_le, Option, Some, None}
use Rattle.std.specs.List.{list_all}
use Rattle.std.proofs.lemmas.Bool.{leb-true}
use Rattle.serde_json.specs.Data.{Data, string, object, Members, no_members, depth, items_depth, members_depth}
use Rattle.serde_json.specs.View.{items_of}
use Rattle.json_text.specs.Build.{list_data}
use Rattle.cm_base.specs.declared.value.Scalar.{Scalar}
use Rattle.cm_base.specs.declared.value.Scalar.TheVariants.{Flag, Whole, Time, Words}
use Rattle.cm_types.specs.declared.property.Choice.{Choice}
use Rattle.cm_types.specs.declared.property.PropDef.{PropDef}
use Rattle.cm_types.specs.declared.property.PropertyKind.{PropertyKind}
use Rattle.cm_types.specs.declared.property.PropertyKind.TheVariants as kinds
use Rattle.cm_types.specs.declared.definition.BaseType.{BaseType}
use Rattle.cm_types.specs.declared.definition.BaseType.TheVariants as bases
use Rattle.cm_types.specs.declared.definition.TypeMutability.{TypeMutability}
use Rattle.cm_types.specs.declared.definition.TypeDef.{TypeDef}
use Rattle.cm_types.specs.Properties.{scalars_of}
use Rattle.json_text.specs.Values.{scalar_data}
use Rattle.type_show.specs.Showing.{Field, with_fields, choice_data, limit_data, prop_names, prop_words, prop_flags, prop_values, limit_fields, prop_data, prop_field, props_data, mutability_data, type_names, type_values, type_flags, base_fields, parent_fields, props_fields, texts_data, type_data}
use Rattle.type_show.proofs.Putting.{first, second, all_within, depth_fields}

-- values that do not nest
flat_fields : (n : ℕ) (fs : List Field) → list_all (λ f. nat_le (depth f.1) 0) fs ≡ true → all_within n fs
flat_fields n [] h = tt
flat_fields n (f ∷ fs) h =
    let flat : depth f.1 ≤ 0 = leb-true _ _ (first _ _ h) in
    (omega arith, flat_fields n fs (second (nat_le (depth f.1) 0) _ h))

depth_object : (n : ℕ) (ms : Members) → members_depth ms ≤ n → depth (object ms) ≤ suc n
depth_object n ms h = omega arith

depth_items : {A : Type 0} (n : ℕ) (f : A → Data) (xs : List A) → ((x : A) → depth (f x) ≤ n) → items_depth (items_of (map f xs)) ≤ n
depth_items n f [] h = omega arith
depth_items n f (x ∷ xs) h =
    let here = h x in
    let rest = depth_items n f xs h in
    omega arith

depth_list : {A : Type 0} (n m : ℕ) (f : A → Data) (xs : List A) → ((x : A) → depth (f x) ≤ n) → suc n ≤ m → depth (list_data (map f xs)) ≤ m
depth_list n m f xs h le =
    let inside = depth_items n f xs h in
    omega arith

depth_scalar : (s : Scalar) → depth (scalar_data s) ≤ 0
depth_scalar (Flag b) = omega arith
depth_scalar (Whole n) = omega arith
depth_scalar (Time n) = omega arith
depth_scalar (Words t) = omega arith

depth_choice : (c : Choice) → depth (choice_data c) ≤ 1
depth_choice c =
    let value = depth_scalar c.value in
    omega arith

depth_limit : (l : Option ℤ) → depth (limit_data l) ≤ 0
depth_limit None = omega arith
depth_limit (Some n) = omega arith

limits_within : (kind : PropertyKind) (d : PropDef) → all_within 2 (limit_fields kind d)
limits_within kinds.String d =
    let l = depth_limit d.max_length in
    (omega arith, tt)
limits_within kinds.Integer d =
    let l = depth_limit d.min_value in
    let m = depth_limit d.max_value in
    (omega arith, (omega arith, tt))
limits_within kinds.Datetime d = (omega arith, tt)
limits_within kinds.Boolean d = tt
limits_within kinds.Uri d = tt
limits_within kinds.Id d = tt
limits_within kinds.Html d = tt

abbrev named : PropDef → Members
named d = with_fields (prop_names d) no_members

abbrev worded : PropDef → Members
worded d = with_fields (prop_words d) (named d)

abbrev flagged : PropDef → Members
flagged d = with_fields (prop_flags d) (worded d)

abbrev valued : PropDef → Members
valued d = with_fields (prop_values d) (flagged d)

abbrev limited : PropDef → Members
limited d = with_fields (limit_fields d.kind d) (valued d)

depth_prop : (d : PropDef) → depth (prop_data d) ≤ 3
unfolding prop_data
depth_prop d =
    let names : members_depth (named d) ≤ 2 = depth_fields 2 (prop_names d) no_members (flat_fields 2 (prop_names d) refl) (omega arith) in
    let words : members_depth (worded d) ≤ 2 = depth_fields 2 (prop_words d) (named d) (flat_fields 2 (prop_words d) refl) names in
    let flags : members_depth (flagged d) ≤ 2 = depth_fields 2 (prop_flags d) (worded d) (flat_fields 2 (prop_flags d) refl) words in
    let choices = depth_list 1 2 choice_data d.choices depth_choice (omega arith) in
    let default = depth_list 0 2 scalar_data (scalars_of d.default) depth_scalar (omega arith) in
    let values : members_depth (valued d) ≤ 2 = depth_fields 2 (prop_values d) (flagged d) (choices, (default, tt)) flags in
    depth_object 2 (limited d) (depth_fields 2 (limit_fields d.kind d) (valued d) (limits_within d.kind d) values)

props_within : (ds : List PropDef) → all_within 3 (map prop_field ds)
props_within [] = tt
props_within (d ∷ ds) = (depth_prop d, props_within ds)

depth_props : (ds : List PropDef) → depth (props_data ds) ≤ 4
depth_props ds =
    let all = depth_fields 3 (map prop_field ds) no_members (props_within ds) (omega arith) in
    omega arith

depth_text : (t : List ℕ) → depth (string t) ≤ 0
depth_text t = omega arith

ends_within : (ts : List (List ℕ)) → depth (texts_data ts) ≤ 4
ends_within ts = depth_list 0 4 string ts depth_text (omega arith)

base_within : (base : BaseType) (t : TypeDef) → all_within 4 (base_fields base t)
base_within bases.Document t = (omega arith, (omega arith, tt))
base_within bases.Relationship t = (ends_within t.allowed_source_types, (ends_within t.allowed_target_types, tt))
base_within bases.Folder t = tt
base_within bases.Policy t = tt
base_within bases.Item t = tt
base_within bases.Secondary t = tt

parent_within : (parent : Option (List ℕ)) → all_within 4 (parent_fields parent)
parent_within None = tt
parent_within (Some p) = (omega arith, tt)

depth_mutability : (m : TypeMutability) → depth (mutability_data m) ≤ 4
unfolding mutability_data
depth_mutability m = omega arith

abbrev named_type : TypeDef → Members
named_type t = with_fields (type_names t) no_members

abbrev valued_type : TypeDef → Members
valued_type t = with_fields (type_values t) (named_type t)

abbrev flagged_type : TypeDef → Members
flagged_type t = with_fields (type_flags t) (valued_type t)

abbrev based_type : TypeDef → Members
based_type t = with_fields (base_fields t.base t) (flagged_type t)

abbrev type_below : TypeDef → Members
type_below t = with_fields (parent_fields t.parent) (based_type t)

abbrev whole_type : TypeDef → Members
whole_type t = with_fields (props_fields true t.properties) (type_below t)

-- five levels
pub depth_type : (t : TypeDef) → depth (type_data true t) ≤ 5
unfolding type_data
depth_type t =
    let names : members_depth (named_type t) ≤ 4 = depth_fields 4 (type_names t) no_members (flat_fields 4 (type_names t) refl) (omega arith) in
    let values : members_depth (valued_type t) ≤ 4 = depth_fields 4 (type_values t) (named_type t) (omega arith, (depth_mutability t.mutability, tt)) names in
    let flags : members_depth (flagged_type t) ≤ 4 = depth_fields 4 (type_flags t) (valued_type t) (flat_fields 4 (type_flags t) refl) values in
    let based : members_depth (based_type t) ≤ 4 = depth_fields 4 (base_fields t.base t) (flagged_type t) (base_within t.base t) flags in
    let below : members_depth (type_below t) ≤ 4 = depth_fields 4 (parent_fields t.parent) (based_type t) (parent_within t.parent) based in
    depth_object 4 (whole_type t) (depth_fields 4 (props_fields true t.properties) (type_below t) (depth_props t.properties, tt) below)
