-- createDocumentFromSource (CMIS 1.1, section 2.2.4.2): when it is refused, what it makes of the repository, and what it answers.
use Rattle.std.specs.Prelude.{ℕ, ◌+◌, ◌||◌, true, not, if◌then◌else◌, List, Option, None, Some, is_some, unwrap_or, option_map, option_and_then}
use Rattle.cm_base.specs.declared.number.Moment.{Moment}
use Rattle.cm_base.specs.declared.object.Object.{Object}
use Rattle.cm_base.specs.declared.series.VersioningState.TheVariants as states
use Rattle.cm_base.specs.declared.cause.Cause.TheVariants as causes
use Rattle.cm_base.specs.Judged.{Judged, ◌>>=◌, ◌>>◌, refuse, find_or, first_cause}
use Rattle.cm_base.specs.Names.{is_name}
use Rattle.cm_types.specs.declared.definition.TypeDef.{TypeDef}
use Rattle.cm_types.specs.declared.definition.BaseType.TheVariants as bases
use Rattle.cm_types.specs.declared.given.Given.{Given}
use Rattle.cm_types.specs.declared.given.PropertyCall.TheVariants as calls
use Rattle.cm_types.specs.Types.{type_in, same_base}
use Rattle.cm_types.specs.Properties.{judge_properties}
use Rattle.call_parts.specs.declared.readings.PropertyFilter.TheVariants as filters
use Rattle.call_parts.specs.declared.versions.CreateDocument.{CreateDocument}
use Rattle.call_parts.specs.declared.replies.ObjectReply.{ObjectReply}
use Rattle.call_parts.specs.Weight.{bounded}
use Rattle.source_parts.specs.declared.writes.CreateDocumentFromSource.{CreateDocumentFromSource}
use Rattle.source_parts.specs.Weight.{weight_of_create_document_from_source}
use Rattle.cm_series.specs.Series.{new_series}
use Rattle.cm_see.specs.Addressed.{addressed}
use Rattle.cm_see.specs.Shown.{shown_object}
use Rattle.cmis_spec.specs.Repository.{Repository, root_folder, new_number, is_a}
use Rattle.cmis_spec.specs.Access.{read_named}
use Rattle.cmis_spec.specs.Values.{values_kept}
use Rattle.wr_rules.specs.Rules.{judge_storage, unknown_type, has_other_secondary, unread_cause, has_other_policy, policies_in, has_unknown_permission, new_aces, defaults_cost}
use Rattle.wr_rules.specs.Wanted.{Wanted, wanted_in}
use Rattle.wr_rules.specs.Documents.{judge_content, content_of_stream}
use Rattle.wr_object.specs.CreateDocument.{folder_of, state_of, may_not_make, is_no_folder, is_name_taken, judge_place, own_name, number_of, made_of_parts}
use Rattle.wr_object.specs.declared.new_document.Allowed.{Allowed}
use Rattle.wr_object.specs.declared.new_document.NewDocument.{NewDocument}
use Rattle.wr_source.specs.Templates.{Template, taken_cost, template_of}

-- ---- the cost

-- this counts where the type is there
abbrev pub counted : List TypeDef → List ℕ → ℕ → ℕ
counted types kind cost = if is_some (type_in types kind) then cost else 0

-- of a document what is copied, with the default values; of another object nothing is copied, and the default values count alone
abbrev pub source_cost : Repository → List Given → Object → Template → ℕ
source_cost r given x t = counted r.types t.kind (if is_a r bases.Document x then taken_cost t.defs t.copied given else defaults_cost t.defs given)

-- where no source is read, the default values of the types that are given
abbrev pub unread_cost : List TypeDef → List Given → Wanted → ℕ
unread_cost types given wanted = counted types wanted.kind (defaults_cost wanted.defs given)

abbrev pub cost_of_source : Repository → CreateDocumentFromSource → Option Object → ℕ
cost_of_source r call source =
    bounded (weight_of_create_document_from_source call
    + unwrap_or (option_map (λ x. source_cost r call.document.properties x (template_of r x call.document)) source)
    (unread_cost r.types call.document.properties (wanted_in r.types call.document.properties)))

abbrev pub cost_create_document_from_source : Repository → List ℕ → CreateDocumentFromSource → ℕ
cost_create_document_from_source r u call = cost_of_source r call (read_named r u call.source)

-- ---- the refusal

-- the caller may make a document there, and what is named is of the kinds that it must be
abbrev pub judge_kinds : Repository → List ℕ → CreateDocument → Object → Option Object → Judged (Unit {0})
judge_kinds r u call x folder = do
  refuse causes.Denied (may_not_make r u folder)
  refuse causes.WrongKind (is_no_folder r folder || not (is_a r bases.Document x) || has_other_policy r u call.policies)

-- a document of the types may be made
abbrev pub judge_type : Repository → Template → TypeDef → Judged (Unit {0})
judge_type r t kind = do
  refuse causes.TypeKind (not (same_base bases.Document kind.base) || has_other_secondary r.types t.secondary)
  refuse causes.NotCreatable (not kind.creatable)

-- its access list, its content and its name
abbrev pub judge_name : Repository → CreateDocument → Template → Option Object → TypeDef → Judged (Unit {0})
judge_name r call t folder kind = do
  refuse causes.Permission (has_unknown_permission call.remove || has_unknown_permission call.add)
  judge_content kind t.stream None
  refuse causes.BadName (not (is_name t.name))
  refuse causes.NameTaken (is_name_taken r folder t.name)

-- all but what is to be found
abbrev pub judge_found : Repository → List ℕ → CreateDocument → Object → Template → Option Object → TypeDef → Judged (Unit {0})
judge_found r u call x t folder kind = do
  judge_kinds r u call x folder
  judge_type r t kind
  judge_place r call folder kind
  judge_properties calls.Create t.defs t.copied call.properties
  judge_name r call t folder kind

-- the policies and the types are there, and the rest
abbrev pub judge_template : Repository → List ℕ → CreateDocument → Object → Template → Option Object → Judged (Unit {0})
judge_template r u call x t folder = do
  first_cause (unread_cause r u) call.policies
  kind ← find_or causes.TypeNotFound (type_in r.types t.kind)
  first_cause (unknown_type r.types) t.secondary
  judge_found r u call x t folder kind

-- the folder, then the source if it is read, and then what is made of it
abbrev pub refusal_of_source : Repository → List ℕ → ℕ → CreateDocument → Option Object → Judged (Unit {0})
refusal_of_source r u cost call source = do
  judge_storage r cost
  folder ← folder_of r u call
  x ← find_or causes.NotFound source
  judge_template r u call x (template_of r x call) folder

abbrev pub refusal_create_document_from_source : Repository → List ℕ → ℕ → CreateDocumentFromSource → Judged (Unit {0})
refusal_create_document_from_source r u cost call = refusal_of_source r u cost call.document (read_named r u call.source)

-- ---- the repository after it

-- the folder in which it is to stand, the state in which it is made, and its values; where no type is found the call is refused
abbrev pub allowed_in : Repository → CreateDocument → Template → Option Object → Allowed
allowed_in r call t folder = record {
  folder = number_of folder;
  state = unwrap_or (option_map (λ kind. state_of kind call) (type_in r.types t.kind)) states.None;
  values = values_kept calls.Create t.defs t.copied call.properties;
}

abbrev pub new_document : Repository → List ℕ → Moment → Template → Allowed → Object
new_document r u m t allowed = record {
  id = new_number r;
  kind = t.kind;
  name = own_name allowed.state t.name;
  secondary = t.secondary;
  values = allowed.values;
  created_by = u;
  created_at = m;
  modified_by = u;
  modified_at = m;
  token = r.step + 1;
  series = Some (new_number r);
}

-- the document with its series, its content as of this step, and the folder in which it is filed
abbrev pub new_parts : Repository → List ℕ → Moment → Template → Allowed → NewDocument
new_parts r u m t allowed = record {
  object = new_document r u m t allowed;
  series = new_series (new_number r) u t.name allowed.state;
  content = option_map (content_of_stream (new_number r) t.name (r.step + 1)) t.stream;
  folder = allowed.folder;
}

-- where no source is read the call is refused, and a root stands for it
abbrev pub source_of : Repository → List ℕ → Moment → CreateDocumentFromSource → Object
source_of r u m call = unwrap_or (read_named r u call.source) (root_folder u m r.step)

abbrev pub parts_made : Repository → List ℕ → Moment → CreateDocumentFromSource → NewDocument
parts_made r u m call =
    let t = template_of r (source_of r u m call) call.document in
    new_parts r u m t (allowed_in r call.document t (option_and_then (addressed r u) call.document.place))

abbrev pub after_create_document_from_source : Repository → List ℕ → Moment → ℕ → CreateDocumentFromSource → Repository
after_create_document_from_source r u m cost call =
    made_of_parts r (parts_made r u m call) (new_aces u call.document.remove call.document.add) (policies_in r u call.document.policies) cost m

-- ---- the reply

-- the new document as the caller sees it after the step
abbrev pub acknowledgement_create_document_from_source : Repository → List ℕ → Moment → ℕ → CreateDocumentFromSource → ObjectReply
acknowledgement_create_document_from_source r u m cost call = record {
  object = shown_object (after_create_document_from_source r u m cost call) u filters.All call.document.succinct (parts_made r u m call).object;
  created = true;
}
