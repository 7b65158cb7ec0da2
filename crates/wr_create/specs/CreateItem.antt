-- createItem (CMIS 1.1, section 2.2.4.6): when it is refused, what it makes of the repository, and what it answers.
use Rattle.std.specs.Prelude.{ℕ, false, ◌&&◌, ◌||◌, not, List, Option, is_some, unwrap_or, option_map, option_and_then}
use Rattle.cm_base.specs.declared.number.Moment.{Moment}
use Rattle.cm_base.specs.declared.object.Object.{Object}
use Rattle.cm_base.specs.declared.cause.Cause.TheVariants as causes
use Rattle.cm_base.specs.Judged.{Judged, ◌>>=◌, ◌>>◌, refuse, find_or, first_cause}
use Rattle.cm_types.specs.declared.definition.TypeDef.{TypeDef}
use Rattle.cm_types.specs.declared.definition.BaseType.TheVariants as bases
use Rattle.cm_types.specs.Types.{type_in}
use Rattle.call_parts.specs.declared.replies.ObjectReply.{ObjectReply}
use Rattle.create_parts.specs.declared.writes.CreateItem.{CreateItem}
use Rattle.create_parts.specs.Weight.{weight_of_create_item}
use Rattle.cm_see.specs.Addressed.{addressed}
use Rattle.cmis_spec.specs.Repository.{Repository}
use Rattle.wr_rules.specs.Rules.{judge_storage, unknown_type, bars_child, unread_cause, has_other_policy}
use Rattle.wr_rules.specs.Wanted.{Wanted, wanted_in}
use Rattle.wr_object.specs.CreateDocument.{folder_at, may_not_make, is_no_folder, is_name_taken, number_of}
use Rattle.wr_create.specs.declared.making.NewObject.{NewObject}
use Rattle.wr_create.specs.Making.{judge_type, is_uncontrollable, judge_request, cost_of_making, made_by, after_making, reply_of_making}

abbrev pub cost_create_item : Repository → CreateItem → ℕ
cost_create_item r call = cost_of_making r (weight_of_create_item call) call.object.properties

-- ---- the refusal

-- the folder, if there is one, takes it, and its type lets what is asked be applied to it
abbrev pub judge_place : Repository → CreateItem → Option Object → TypeDef → Judged (Unit {0})
judge_place r call folder kind = do
  refuse causes.NotFileable (is_some folder && not kind.fileable)
  refuse causes.ChildType (unwrap_or (option_map (λ f. bars_child r f kind.id) folder) false)
  refuse causes.NotControllable (is_uncontrollable kind call.object)

-- once its folder and its type are found
abbrev pub judge_item : Repository → List ℕ → CreateItem → Wanted → Option Object → TypeDef → Judged (Unit {0})
judge_item r u call wanted folder kind = do
  refuse causes.Denied (may_not_make r u folder)
  refuse causes.WrongKind (is_no_folder r folder || has_other_policy r u call.object.policies)
  judge_type r.types bases.Item wanted kind
  judge_place r call folder kind
  judge_request wanted call.object call.object.properties
  refuse causes.NameTaken (is_name_taken r folder wanted.name)

-- of what the properties say
abbrev pub refusal_of_item : Repository → List ℕ → ℕ → CreateItem → Wanted → Judged (Unit {0})
refusal_of_item r u cost call wanted = do
  judge_storage r cost
  folder ← folder_at r u call.place
  first_cause (unread_cause r u) call.object.policies
  kind ← find_or causes.TypeNotFound (type_in r.types wanted.kind)
  first_cause (unknown_type r.types) wanted.secondary
  judge_item r u call wanted folder kind

abbrev pub refusal_create_item : Repository → List ℕ → ℕ → CreateItem → Judged (Unit {0})
refusal_create_item r u cost call = refusal_of_item r u cost call (wanted_in r.types call.object.properties)

-- ---- the repository after it, and the reply

abbrev pub item_made : Repository → List ℕ → Moment → CreateItem → NewObject
item_made r u m call = made_by r u m call.object call.object.properties (number_of (option_and_then (addressed r u) call.place))

abbrev pub after_create_item : Repository → List ℕ → Moment → ℕ → CreateItem → Repository
after_create_item r u m cost call = after_making r cost (item_made r u m call)

abbrev pub acknowledgement_create_item : Repository → List ℕ → Moment → ℕ → CreateItem → ObjectReply
acknowledgement_create_item r u m cost call = reply_of_making r cost u call.succinct (item_made r u m call)
