-- checkIn (CMIS 1.1, section 2.2.7.3): when it is refused, what it makes of the repository, and what it answers.
use Rattle.std.specs.Prelude.{ℕ, ◌+◌, true, not, List, [], Option, None, unwrap_or, option_map}
use Rattle.cm_base.specs.declared.number.Moment.{Moment}
use Rattle.cm_base.specs.declared.object.Object.{Object}
use Rattle.cm_base.specs.declared.content.Content.{Content}
use Rattle.cm_base.specs.declared.series.Label.{Label}
use Rattle.cm_base.specs.declared.value.Slot.{Slot}
use Rattle.cm_base.specs.declared.access.Level.TheVariants as levels
use Rattle.cm_base.specs.declared.log.ChangeKind.TheVariants as changes
use Rattle.cm_base.specs.declared.cause.Cause.TheVariants as causes
use Rattle.cm_base.specs.Judged.{Judged, ◌>>=◌, ◌>>◌, refuse, find_or, first_cause}
use Rattle.cm_base.specs.Names.{is_name}
use Rattle.cm_types.specs.declared.definition.TypeDef.{TypeDef}
use Rattle.cm_types.specs.declared.definition.BaseType.TheVariants as bases
use Rattle.cm_types.specs.declared.property.PropDef.{PropDef}
use Rattle.cm_types.specs.declared.given.PropertyCall.TheVariants as calls
use Rattle.cm_types.specs.Types.{props_of}
use Rattle.cm_types.specs.Properties.{judge_properties}
use Rattle.call_parts.specs.declared.readings.PropertyFilter.TheVariants as filters
use Rattle.call_parts.specs.declared.versions.CheckIn.{CheckIn}
use Rattle.call_parts.specs.declared.replies.ObjectReply.{ObjectReply}
use Rattle.call_parts.specs.Versions.{weight_of_check_in}
use Rattle.cm_see.specs.Addressed.{addressed}
use Rattle.cm_see.specs.Shown.{shown_object}
use Rattle.cmis_spec.specs.Repository.{Repository, root_folder, is_a, type_of, series_of, entry_of}
use Rattle.cmis_spec.specs.Access.{lacks}
use Rattle.cmis_spec.specs.Values.{values_kept}
use Rattle.cmis_spec.specs.Changes.{stepped, noted}
use Rattle.cmis_spec.specs.Documents.{is_working_copy, last_label, next_label, with_comment, with_version, with_contents}
use Rattle.wr_rules.specs.Rules.{judge_storage, secondary_in, unknown_type, has_other_secondary}
use Rattle.wr_rules.specs.Documents.{form_slots, name_after, secondary_after, judge_content, content_of_stream, is_taken_anywhere}
use Rattle.cm_state.specs.Looks.{content_at}

abbrev pub cost_check_in : CheckIn → ℕ
cost_check_in call = weight_of_check_in call

-- the definitions of the properties that the document has after the call
abbrev pub props_after : Repository → CheckIn → Object → List PropDef
props_after r call x = props_of r.types x.kind (secondary_after x call.properties)

-- ---- the refusal

-- the caller may check the object in, and the secondary types that are given are such
abbrev pub judge_copy : Repository → List ℕ → CheckIn → Object → Judged (Unit {0})
judge_copy r u call x = do
  refuse causes.Denied (lacks r u levels.Write x)
  refuse causes.WrongKind (not (is_a r bases.Document x))
  refuse causes.NotWorking (not (is_working_copy r x))
  refuse causes.TypeKind (has_other_secondary r.types (secondary_in call.properties))

abbrev pub judge_new_name : Repository → CheckIn → Object → Judged (Unit {0})
judge_new_name r call x = do
  refuse causes.BadName (not (is_name (name_after r x call.properties)))
  refuse causes.NameTaken (is_taken_anywhere r (entry_of x) (name_after r x call.properties))

-- the properties, the content and the name
abbrev pub judge_given : Repository → CheckIn → Object → TypeDef → Judged (Unit {0})
judge_given r call x kind = do
  judge_properties calls.CheckIn (props_after r call x) (form_slots r x) call.properties
  judge_content kind call.stream (content_at r x.id)
  judge_new_name r call x

-- once the object is found
abbrev pub judge_found : Repository → List ℕ → CheckIn → Object → Judged (Unit {0})
judge_found r u call x = do
  kind ← find_or causes.TypeNotFound (type_of r x)
  first_cause (unknown_type r.types) (secondary_in call.properties)
  judge_copy r u call x
  judge_given r call x kind

abbrev pub refusal_check_in : Repository → List ℕ → ℕ → CheckIn → Judged (Unit {0})
refusal_check_in r u cost call = do
  judge_storage r cost
  x ← find_or causes.NotFound (addressed r u call.place)
  judge_found r u call x

-- ---- the repository after it

-- the values of the properties after the call
abbrev pub values_after : Repository → CheckIn → Object → List Slot
values_after r call x = values_kept calls.CheckIn (props_after r call x) (form_slots r x) call.properties

-- the version that the working copy becomes; its name is that of its series
abbrev pub new_version : Repository → List ℕ → Moment → CheckIn → Object → Object
new_version r u m call x = record x {
  name = None;
  secondary = secondary_after x call.properties;
  values = with_comment (values_after r call x) call.comment;
  modified_by = u;
  modified_at = m;
  token = r.step + 1;
}

-- its label follows that of the last version
abbrev pub new_label : Repository → CheckIn → Object → Label
new_label r call x = next_label call.major (unwrap_or (option_map last_label (series_of r x)) (record { major = 0; minor = 0 }))

-- the content that is given; without one it keeps what it has
abbrev pub given_content : Repository → CheckIn → Object → Option Content
given_content r call x = option_map (content_of_stream x.id (name_after r x call.properties) (r.step + 1)) call.stream

abbrev pub after_check_in_of : Repository → List ℕ → Moment → ℕ → CheckIn → Object → Repository
after_check_in_of r u m cost call x =
    noted (stepped (with_contents
    (with_version r (entry_of x) (new_version r u m call x) (new_label r call x) (name_after r x call.properties))
    (given_content r call x)) cost) changes.Updated x.id m []

abbrev pub after_check_in : Repository → List ℕ → Moment → ℕ → CheckIn → Repository
after_check_in r u m cost call = unwrap_or (option_map (after_check_in_of r u m cost call) (addressed r u call.place)) r

-- ---- the reply

-- the version that is made; where nothing is addressed the call is refused, and a root stands for it
abbrev pub version_made : Repository → List ℕ → Moment → CheckIn → Object
version_made r u m call = new_version r u m call (unwrap_or (addressed r u call.place) (root_folder u m r.step))

-- the new version as the caller sees it after the step
abbrev pub acknowledgement_check_in : Repository → List ℕ → Moment → ℕ → CheckIn → ObjectReply
acknowledgement_check_in r u m cost call = record {
  object = shown_object (after_check_in r u m cost call) u filters.All call.succinct (version_made r u m call);
  created = true;
}
