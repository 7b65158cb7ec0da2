-- addObjectToFolder (CMIS 1.1, section 2.2.5.1): when it is refused, what it makes of the repository, and what it answers.
use Rattle.std.specs.Prelude.{ℕ, Bool, false, ◌||◌, not, List, unwrap_or, option_map}
use Rattle.cm_base.specs.declared.number.Oid.{Oid}
use Rattle.cm_base.specs.declared.number.Moment.{Moment}
use Rattle.cm_base.specs.declared.object.Object.{Object}
use Rattle.cm_base.specs.declared.access.Level.TheVariants as levels
use Rattle.cm_base.specs.declared.cause.Cause.TheVariants as causes
use Rattle.cm_base.specs.Judged.{Judged, ◌>>=◌, ◌>>◌, refuse, find_or}
use Rattle.cm_types.specs.declared.definition.BaseType.TheVariants as bases
use Rattle.call_parts.specs.declared.readings.PropertyFilter.TheVariants as filters
use Rattle.call_parts.specs.declared.changes.AddToFolder.{AddToFolder}
use Rattle.call_parts.specs.declared.replies.ObjectReply.{ObjectReply}
use Rattle.call_parts.specs.Changes.{weight_of_add}
use Rattle.cm_see.specs.Addressed.{addressed}
use Rattle.cm_see.specs.Shown.{shown_object}
use Rattle.cmis_spec.specs.Repository.{Repository, root_folder, is_a, entry_of, entry_name, is_filed, is_taken}
use Rattle.cmis_spec.specs.Access.{lacks, read_named}
use Rattle.cmis_spec.specs.Changes.{with_pair}
use Rattle.wr_rules.specs.Rules.{judge_storage, bars_child}
use Rattle.wr_filing.specs.Filing.{may_be_filed, folder_named, changed_by}

abbrev pub cost_add_to_folder : AddToFolder → ℕ
cost_add_to_folder call = weight_of_add call

-- ---- the refusal

abbrev pub lacks_either : Repository → List ℕ → Object → Object → Bool
lacks_either r u x folder = lacks r u levels.Write x || lacks r u levels.Write folder

-- the object may be filed in one folder more, and the folder takes its type
abbrev pub judge_kinds : Repository → List ℕ → Object → Object → Judged (Unit {0})
judge_kinds r u x folder = do
  refuse causes.Denied (lacks_either r u x folder)
  refuse causes.NotFileable (not (may_be_filed r x))
  refuse causes.WrongKind (not (is_a r bases.Folder folder))
  refuse causes.OneParent (is_a r bases.Folder x)
  refuse causes.AlreadyFiled (is_filed r folder.id (entry_of x))
  refuse causes.ChildType (bars_child r folder x.kind)

-- another child of the folder has the name of the entry
abbrev pub has_its_name : Repository → Oid → Oid → Bool
has_its_name r folder n = is_taken r folder n (entry_name r n)

abbrev pub judge_addition : Repository → List ℕ → Object → Object → Judged (Unit {0})
judge_addition r u x folder = do
  judge_kinds r u x folder
  refuse causes.NameTaken (has_its_name r folder.id (entry_of x))

abbrev pub refusal_add_to_folder : Repository → List ℕ → ℕ → AddToFolder → Judged (Unit {0})
refusal_add_to_folder r u cost call = do
  judge_storage r cost
  x ← find_or causes.NotFound (addressed r u call.place)
  folder ← find_or causes.NotFound (read_named r u call.folder)
  judge_addition r u x folder

-- ---- the repository after it

abbrev pub after_add_to_folder_of : Repository → List ℕ → Moment → ℕ → AddToFolder → Object → Repository
after_add_to_folder_of r u m cost call x = changed_by (with_pair r (folder_named r u call.folder) (entry_of x)) x.id m cost

abbrev pub after_add_to_folder : Repository → List ℕ → Moment → ℕ → AddToFolder → Repository
after_add_to_folder r u m cost call = unwrap_or (option_map (after_add_to_folder_of r u m cost call) (addressed r u call.place)) r

-- ---- the reply

-- the object as the caller sees it after the step; where nothing is addressed the call is refused, and a root stands for it
abbrev pub acknowledgement_add_to_folder : Repository → List ℕ → Moment → ℕ → AddToFolder → ObjectReply
acknowledgement_add_to_folder r u m cost call = record {
  object = shown_object (after_add_to_folder r u m cost call) u filters.All call.succinct (unwrap_or (addressed r u call.place) (root_folder u m r.step));
  created = false;
}
