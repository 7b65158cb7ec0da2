-- updateProperties (CMIS 1.1, section 2.2.4.13): when it is refused, what it makes of the repository, and what it answers.
use Rattle.std.specs.Prelude.{ℕ, Bool, true, false, ◌&&◌, not, List, [], ◌++◌, filter, Option, Some, None, is_some, unwrap_or, option_map, bytes_eq, codes}
use Rattle.std.specs.List.{list_any}
use Rattle.cm_base.specs.declared.number.Oid.{Oid}
use Rattle.cm_base.specs.declared.number.Moment.{Moment}
use Rattle.cm_base.specs.declared.object.Object.{Object}
use Rattle.cm_base.specs.declared.value.Slot.{Slot}
use Rattle.cm_base.specs.declared.access.Level.TheVariants as levels
use Rattle.cm_base.specs.declared.log.ChangeKind.TheVariants as changes
use Rattle.cm_base.specs.declared.cause.Cause.TheVariants as causes
use Rattle.cm_base.specs.Judged.{Judged, ◌>>=◌, ◌>>◌, refuse, find_or, first_cause}
use Rattle.cm_base.specs.Names.{is_name}
use Rattle.cm_types.specs.declared.property.PropDef.{PropDef}
use Rattle.cm_types.specs.declared.given.PropertyCall.TheVariants as calls
use Rattle.cm_types.specs.Types.{props_of}
use Rattle.cm_types.specs.Properties.{given_of, judge_properties}
use Rattle.call_parts.specs.declared.readings.PropertyFilter.TheVariants as filters
use Rattle.call_parts.specs.declared.changes.UpdateProperties.{UpdateProperties}
use Rattle.call_parts.specs.declared.replies.ObjectReply.{ObjectReply}
use Rattle.call_parts.specs.Changes.{weight_of_update}
use Rattle.cm_series.specs.Series.{under_name}
use Rattle.cm_see.specs.Addressed.{addressed}
use Rattle.cm_see.specs.Shown.{shown_object}
use Rattle.cmis_spec.specs.Repository.{Repository, same, root, root_folder, entry_of}
use Rattle.cmis_spec.specs.Access.{lacks}
use Rattle.cmis_spec.specs.Values.{values_kept}
use Rattle.cmis_spec.specs.Changes.{stepped, noted, edited, series_edited}
use Rattle.cmis_spec.specs.Documents.{is_working_copy, judge_changeable}
use Rattle.cmis_spec.specs.Retention.{judge_retention}
use Rattle.wr_rules.specs.Rules.{judge_storage, judge_token, distinct, secondary_in, unknown_type, has_other_secondary}
use Rattle.wr_rules.specs.Documents.{form_slots, name_after, secondary_after, is_taken_anywhere}

abbrev pub cost_update : UpdateProperties → ℕ
cost_update call = weight_of_update call

-- ---- words of the call

-- the secondary types that the call names: those that it gives, takes off and adds
abbrev pub secondary_named : UpdateProperties → List (List ℕ)
secondary_named call = (secondary_in call.properties ++ call.remove_secondary) ++ call.add_secondary

-- those that the object has after it: the given ones, or those that it had, without those that are taken off, and then those that are added
abbrev pub secondary_updated : UpdateProperties → Object → List (List ℕ)
secondary_updated call x = distinct (filter (λ t. not (list_any (bytes_eq t) call.remove_secondary)) (secondary_after x call.properties) ++ call.add_secondary)

-- the definitions of the properties that the object has after it
abbrev pub props_updated : Repository → UpdateProperties → Object → List PropDef
props_updated r call x = props_of r.types x.kind (secondary_updated call x)

-- the values of these properties after it
abbrev pub values_updated : Repository → UpdateProperties → Object → List Slot
values_updated r call x = values_kept (calls.Update (is_working_copy r x)) (props_updated r call x) (form_slots r x) call.properties

abbrev pub gives_name : UpdateProperties → Bool
gives_name call = is_some (given_of call.properties (codes "cmis:name"))

-- ---- the refusal

-- the caller may change the object, as its token, if one is given, says that he knows it
abbrev pub judge_allowed : Repository → List ℕ → UpdateProperties → Object → Judged (Unit {0})
judge_allowed r u call x = do
  refuse causes.Denied (lacks r u levels.Write x)
  judge_token x call.token
  refuse causes.RootFixed (same x.id root && gives_name call)
  judge_changeable r x
  refuse causes.TypeKind (has_other_secondary r.types (secondary_named call))

-- another child has the name in a folder of the object; a working copy is filed nowhere
abbrev pub takes_name : Repository → Object → List ℕ → Bool
takes_name r x name = not (is_working_copy r x) && is_taken_anywhere r (entry_of x) name

-- the name that the object has after the call
abbrev pub judge_new_name : Repository → UpdateProperties → Object → Judged (Unit {0})
judge_new_name r call x = do
  refuse causes.BadName (not (is_name (name_after r x call.properties)))
  refuse causes.NameTaken (takes_name r x (name_after r x call.properties))

-- the retention of the object, if it is under one at the moment, is neither taken away nor shortened (section 2.1.16.1)
abbrev pub judge_update : Repository → List ℕ → Moment → UpdateProperties → Object → Judged (Unit {0})
judge_update r u m call x = do
  first_cause (unknown_type r.types) (secondary_named call)
  judge_allowed r u call x
  judge_properties (calls.Update (is_working_copy r x)) (props_updated r call x) (form_slots r x) call.properties
  judge_new_name r call x
  judge_retention r m (secondary_updated call x) (values_updated r call x) x

-- the limits of the repository aside
abbrev pub refusal_one : Repository → List ℕ → Moment → UpdateProperties → Judged (Unit {0})
refusal_one r u m call = do
  x ← find_or causes.NotFound (addressed r u call.place)
  judge_update r u m call x

abbrev pub refusal_update : Repository → List ℕ → Moment → ℕ → UpdateProperties → Judged (Unit {0})
refusal_update r u m cost call = do
  judge_storage r cost
  refusal_one r u m call

-- ---- the repository after it

-- a version has the name of its series, everything else one of its own
abbrev pub name_kept : Option (List ℕ) → List ℕ → Option (List ℕ)
name_kept None name = None
name_kept (Some old) name = Some name

-- the object as the call leaves it in the step that was taken last
abbrev pub updated_object : Repository → List ℕ → Moment → UpdateProperties → Object → Object
updated_object r u m call x = record x {
  name = name_kept x.name (name_after r x call.properties);
  secondary = secondary_updated call x;
  values = values_updated r call x;
  modified_by = u;
  modified_at = m;
  token = r.step;
}

-- the name of a version goes to its series; a working copy, and what is in no series, has its own
abbrev pub renamed : Repository → List ℕ → Bool → Option Oid → Repository
renamed r name working None = r
renamed r name true (Some n) = r
renamed r name false (Some n) = series_edited r n (under_name name)

-- a new object in place of the old one, after the series of the old one under its name, with its event
abbrev pub placed : Repository → UpdateProperties → Object → Object → Repository
placed r call x new =
    noted (edited (renamed r (name_after r x call.properties) (is_working_copy r x) x.series) x.id (λ _. new)) changes.Updated x.id new.modified_at []

abbrev pub changed_in : Repository → List ℕ → Moment → UpdateProperties → Object → Repository
changed_in r u m call x = placed r call x (updated_object r u m call x)

-- one step further, and in that step the object is changed
abbrev pub after_update : Repository → List ℕ → Moment → ℕ → UpdateProperties → Repository
after_update r u m cost call = unwrap_or (option_map (changed_in (stepped r cost) u m call) (addressed r u call.place)) r

-- ---- the reply

-- the object that is made of the addressed one; where nothing is addressed the call is refused, and a root stands for it
abbrev pub object_updated : Repository → List ℕ → Moment → ℕ → UpdateProperties → Object
object_updated r u m cost call = updated_object (stepped r cost) u m call (unwrap_or (addressed r u call.place) (root_folder u m r.step))

-- the object as the caller sees it after the step
abbrev pub acknowledgement_update : Repository → List ℕ → Moment → ℕ → UpdateProperties → ObjectReply
acknowledgement_update r u m cost call = record {
  object = shown_object (after_update r u m cost call) u filters.All call.succinct (object_updated r u m cost call);
  created = false;
}
