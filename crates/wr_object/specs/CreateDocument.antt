-- createDocument (CMIS 1.1, section 2.2.4.1): when it is refused, what it makes of the repository, and what it answers.
use Rattle.std.specs.Prelude.{ℕ, ◌+◌, nat_lt, Bool, true, false, ◌&&◌, ◌||◌, not, if◌then◌else◌, List, [], ◌∷◌, Option, Some, None, Ok, is_some, unwrap_or, option_map, option_and_then, length, bytes_eq, codes}
use Rattle.cm_base.specs.declared.number.Oid.{Oid}
use Rattle.cm_base.specs.declared.number.Moment.{Moment}
use Rattle.cm_base.specs.declared.object.Object.{Object}
use Rattle.cm_base.specs.declared.series.Series.{Series}
use Rattle.cm_base.specs.declared.series.Label.{Label}
use Rattle.cm_base.specs.declared.series.VersioningState.{VersioningState}
use Rattle.cm_base.specs.declared.series.VersioningState.TheVariants as states
use Rattle.cm_base.specs.declared.access.Ace.{Ace}
use Rattle.cm_base.specs.declared.access.Level.TheVariants as levels
use Rattle.cm_base.specs.declared.log.ChangeKind.TheVariants as changes
use Rattle.cm_base.specs.declared.cause.Cause.TheVariants as causes
use Rattle.cm_base.specs.Judged.{Judged, ◌>>=◌, ◌>>◌, refuse, find_or, first_cause}
use Rattle.cm_base.specs.Names.{is_name}
use Rattle.cm_types.specs.declared.definition.TypeDef.{TypeDef}
use Rattle.cm_types.specs.declared.definition.BaseType.TheVariants as bases
use Rattle.cm_types.specs.declared.property.PropDef.{PropDef}
use Rattle.cm_types.specs.declared.given.PropertyCall.TheVariants as calls
use Rattle.cm_types.specs.Types.{type_in, same_base, props_of}
use Rattle.cm_types.specs.Properties.{judge_properties}
use Rattle.call_parts.specs.declared.place.Place.{Place}
use Rattle.call_parts.specs.declared.readings.PropertyFilter.TheVariants as filters
use Rattle.call_parts.specs.declared.versions.CreateDocument.{CreateDocument}
use Rattle.call_parts.specs.declared.replies.ObjectReply.{ObjectReply}
use Rattle.call_parts.specs.Weight.{bounded}
use Rattle.call_parts.specs.Versions.{weight_of_create_document}
use Rattle.cm_series.specs.Series.{new_series}
use Rattle.cm_see.specs.Addressed.{addressed}
use Rattle.cm_see.specs.Shown.{shown_object}
use Rattle.cmis_spec.specs.Repository.{Repository, new_number, is_a, is_taken}
use Rattle.cmis_spec.specs.Access.{lacks}
use Rattle.cmis_spec.specs.Values.{values_kept}
use Rattle.cmis_spec.specs.Changes.{stepped, noted, with_pair}
use Rattle.cmis_spec.specs.Documents.{with_document, with_policies, with_contents}
use Rattle.wr_rules.specs.Rules.{judge_storage, type_id_in, secondary_in, unknown_type, has_other_secondary, bars_child, unread_cause, has_other_policy, policies_in, has_unknown_permission, has_entries, new_aces, defaults_cost}
use Rattle.wr_rules.specs.Documents.{judge_content, content_of_stream}
use Rattle.wr_rules.specs.Wanted.{Wanted, wanted_in}
use Rattle.wr_object.specs.declared.new_document.Allowed.{Allowed}
use Rattle.wr_object.specs.declared.new_document.NewDocument.{NewDocument}

-- ---- words of the call

abbrev pub document_props : List TypeDef → CreateDocument → List PropDef
document_props types call = props_of types (type_id_in call.properties) (secondary_in call.properties)

-- the addressed folder; none where none is addressed
abbrev pub folder_at : Repository → List ℕ → Option Place → Judged (Option Object)
folder_at r u None = Ok None
folder_at r u (Some place) = find_or causes.NotFound (option_map Some (addressed r u place))

abbrev pub folder_of : Repository → List ℕ → CreateDocument → Judged (Option Object)
folder_of r u call = folder_at r u call.place

-- an absent state is major for what is versionable, and else none
abbrev pub state_of : TypeDef → CreateDocument → VersioningState
state_of kind call = unwrap_or call.state (if kind.versionable then states.Major else states.None)

abbrev pub is_unversioned : VersioningState → Bool
is_unversioned states.None = true
is_unversioned _ = false

-- a versionable type with none, or another with a state that isn't none
abbrev pub has_other_state : TypeDef → CreateDocument → Bool
has_other_state kind call = if kind.versionable then is_unversioned (state_of kind call) else not (is_unversioned (state_of kind call))

abbrev pub is_uncontrollable : TypeDef → CreateDocument → Bool
is_uncontrollable kind call =
    not kind.controllable_policy && nat_lt 0 (length call.policies)
    || not kind.controllable_acl && (has_entries call.remove || has_entries call.add)

-- who may not write in the folder; without one, whoever is not known
abbrev pub may_not_make : Repository → List ℕ → Option Object → Bool
may_not_make r u None = bytes_eq u (codes "anonymous")
may_not_make r u (Some folder) = lacks r u levels.Write folder

abbrev pub is_no_folder : Repository → Option Object → Bool
is_no_folder r folder = unwrap_or (option_map (λ f. not (is_a r bases.Folder f)) folder) false

abbrev pub is_name_taken : Repository → Option Object → List ℕ → Bool
is_name_taken r folder name = unwrap_or (option_map (λ f. is_taken r f.id (new_number r) name) folder) false

abbrev pub cost_create_document : Repository → CreateDocument → ℕ
cost_create_document r call =
    bounded (weight_of_create_document call
    + unwrap_or (option_map (λ t. defaults_cost (document_props r.types call) call.properties) (type_in r.types (type_id_in call.properties))) 0)

-- ---- the refusal

-- the caller may write where the document is to stand, and a document of the type may be made
abbrev pub judge_kinds : Repository → List ℕ → List (List ℕ) → List (List ℕ) → Option Object → TypeDef → Judged (Unit {0})
judge_kinds r u policies secondary folder kind = do
  refuse causes.Denied (may_not_make r u folder)
  refuse causes.WrongKind (is_no_folder r folder || has_other_policy r u policies)
  refuse causes.TypeKind (not (same_base bases.Document kind.base) || has_other_secondary r.types secondary)
  refuse causes.NotCreatable (not kind.creatable)

-- the folder takes it, and its type lets what is asked be done to it
abbrev pub judge_place : Repository → CreateDocument → Option Object → TypeDef → Judged (Unit {0})
judge_place r call folder kind = do
  refuse causes.NotFileable (is_some folder && not kind.fileable)
  refuse causes.VersionState (has_other_state kind call)
  refuse causes.ChildType (unwrap_or (option_map (λ f. bars_child r f kind.id) folder) false)
  refuse causes.NotControllable (is_uncontrollable kind call)

-- its access list, its content and its name
abbrev pub judge_name : Repository → CreateDocument → Option Object → TypeDef → List ℕ → Judged (Unit {0})
judge_name r call folder kind name = do
  refuse causes.Permission (has_unknown_permission call.remove || has_unknown_permission call.add)
  judge_content kind call.stream None
  refuse causes.BadName (not (is_name name))
  refuse causes.NameTaken (is_name_taken r folder name)

-- once its folder and its types are found
abbrev pub judge_found : Repository → List ℕ → CreateDocument → Wanted → Option Object → TypeDef → Judged (Unit {0})
judge_found r u call wanted folder kind = do
  judge_kinds r u call.policies wanted.secondary folder kind
  judge_place r call folder kind
  judge_properties calls.Create wanted.defs [] call.properties
  judge_name r call folder kind wanted.name

-- of what the properties say
abbrev pub refusal_of_document : Repository → List ℕ → ℕ → CreateDocument → Wanted → Judged (Unit {0})
refusal_of_document r u cost call wanted = do
  judge_storage r cost
  folder ← folder_of r u call
  first_cause (unread_cause r u) call.policies
  kind ← find_or causes.TypeNotFound (type_in r.types wanted.kind)
  first_cause (unknown_type r.types) wanted.secondary
  judge_found r u call wanted folder kind

abbrev pub refusal_create_document : Repository → List ℕ → ℕ → CreateDocument → Judged (Unit {0})
refusal_create_document r u cost call = refusal_of_document r u cost call (wanted_in r.types call.properties)

-- ---- what is found

abbrev pub number_of : Option Object → Option Oid
number_of folder = option_map (λ f. f.id) folder

-- the folder in which it is to stand, the state in which it is made, and its values; where no type is found the call is refused
abbrev pub allowed_in : Repository → List ℕ → CreateDocument → Wanted → Allowed
allowed_in r u call wanted = record {
  folder = number_of (option_and_then (addressed r u) call.place);
  state = unwrap_or (option_map (λ kind. state_of kind call) (type_in r.types wanted.kind)) states.None;
  values = values_kept calls.Create wanted.defs [] call.properties;
}

-- ---- the repository after it

-- a version takes its name from its series; a working copy has its own
abbrev pub own_name : VersioningState → List ℕ → Option (List ℕ)
own_name states.CheckedOut name = Some name
own_name _ name = None

abbrev pub new_document : Repository → List ℕ → Moment → Wanted → Allowed → Object
new_document r u m wanted allowed = record {
  id = new_number r;
  kind = wanted.kind;
  name = own_name allowed.state wanted.name;
  secondary = wanted.secondary;
  values = allowed.values;
  created_by = u;
  created_at = m;
  modified_by = u;
  modified_at = m;
  token = r.step + 1;
  series = Some (new_number r);
}

-- the document with its series, its content as of this step, and the folder in which it is filed
abbrev pub new_parts : Repository → List ℕ → Moment → CreateDocument → Wanted → Allowed → NewDocument
new_parts r u m call wanted allowed = record {
  object = new_document r u m wanted allowed;
  series = new_series (new_number r) u wanted.name allowed.state;
  content = option_map (content_of_stream (new_number r) wanted.name (r.step + 1)) call.stream;
  folder = allowed.folder;
}

abbrev pub parts_made : Repository → List ℕ → Moment → CreateDocument → NewDocument
parts_made r u m call =
    let wanted = wanted_in r.types call.properties in
    new_parts r u m call wanted (allowed_in r u call wanted)

-- filed in the folder with this number, if there is one
abbrev pub filed_at : Repository → Option Oid → Oid → Repository
filed_at r None n = r
filed_at r (Some folder) n = with_pair r folder n

-- the document with its series, its access list and its policies, its content, and its place
abbrev pub with_parts : Repository → NewDocument → List Ace → List Oid → Repository
with_parts r new aces policies =
    filed_at (with_contents (with_policies (with_document r new.object new.series aces) new.object.id policies) new.content) new.folder new.object.id

-- and one step further, with its event
abbrev pub made_of_parts : Repository → NewDocument → List Ace → List Oid → ℕ → Moment → Repository
made_of_parts r new aces policies cost m = noted (stepped (with_parts r new aces policies) cost) changes.Created new.object.id m []

abbrev pub after_create_document : Repository → List ℕ → Moment → ℕ → CreateDocument → Repository
after_create_document r u m cost call =
    made_of_parts r (parts_made r u m call) (new_aces u call.remove call.add) (policies_in r u call.policies) cost m

-- ---- the reply

-- the new document as the caller sees it after the step
abbrev pub acknowledgement_create_document : Repository → List ℕ → Moment → ℕ → CreateDocument → ObjectReply
acknowledgement_create_document r u m cost call = record {
  object = shown_object (after_create_document r u m cost call) u filters.All call.succinct (parts_made r u m call).object;
  created = true;
}
