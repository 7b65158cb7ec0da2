-- removeObjectFromFolder (CMIS 1.1, section 2.2.5.2): when it is refused, what it makes of the repository, and what it answers.
use Rattle.std.specs.Prelude.{ℕ, false, ◌||◌, not, if◌then◌else◌, List, Option, Some, None, unwrap_or, option_map}
use Rattle.cm_base.specs.declared.number.Oid.{Oid}
use Rattle.cm_base.specs.declared.number.Moment.{Moment}
use Rattle.cm_base.specs.declared.object.Object.{Object}
use Rattle.cm_base.specs.declared.access.Level.TheVariants as levels
use Rattle.cm_base.specs.declared.cause.Cause.TheVariants as causes
use Rattle.cm_base.specs.Judged.{Judged, ◌>>=◌, ◌>>◌, refuse, find_or}
use Rattle.cm_types.specs.declared.definition.BaseType.TheVariants as bases
use Rattle.call_parts.specs.declared.readings.PropertyFilter.TheVariants as filters
use Rattle.call_parts.specs.declared.changes.RemoveFromFolder.{RemoveFromFolder}
use Rattle.call_parts.specs.declared.replies.ObjectReply.{ObjectReply}
use Rattle.call_parts.specs.Changes.{weight_of_remove}
use Rattle.cm_see.specs.Addressed.{addressed}
use Rattle.cm_see.specs.Shown.{shown_object}
use Rattle.cmis_spec.specs.Repository.{Repository, root_folder, is_a, entry_of, is_filed}
use Rattle.cmis_spec.specs.Access.{lacks, read_named}
use Rattle.cmis_spec.specs.Changes.{stepped, without_pair}
use Rattle.wr_rules.specs.Rules.{judge_storage}
use Rattle.wr_filing.specs.Filing.{may_be_filed, folder_named, lacks_anywhere, is_filed_anywhere, unfiled, changed_by}
use Rattle.wr_filing.specs.AddToFolder.{lacks_either}

abbrev pub cost_remove_from_folder : RemoveFromFolder → ℕ
cost_remove_from_folder call = weight_of_remove call

-- ---- the refusal

-- the object may be taken out of the folder
abbrev pub judge_removal : Repository → List ℕ → Object → Object → Judged (Unit {0})
judge_removal r u x folder = do
  refuse causes.Denied (lacks_either r u x folder)
  refuse causes.NotFileable (not (may_be_filed r x))
  refuse causes.WrongKind (not (is_a r bases.Folder folder))
  refuse causes.OneParent (is_a r bases.Folder x)
  refuse causes.NotFiled (not (is_filed r folder.id (entry_of x)))

-- the object may be taken out of all its folders
abbrev pub judge_unfiling : Repository → List ℕ → Object → Judged (Unit {0})
judge_unfiling r u x = do
  refuse causes.Denied (lacks r u levels.Write x || lacks_anywhere r u (entry_of x))
  refuse causes.NotFileable (not (may_be_filed r x))
  refuse causes.OneParent (is_a r bases.Folder x)

-- by the folder that is named, if one is
abbrev pub judge_by_folder : Repository → List ℕ → Object → Option (List ℕ) → Judged (Unit {0})
judge_by_folder r u x None = judge_unfiling r u x
judge_by_folder r u x (Some id) = find_or causes.NotFound (read_named r u id) >>= judge_removal r u x

abbrev pub refusal_remove_from_folder : Repository → List ℕ → ℕ → RemoveFromFolder → Judged (Unit {0})
refusal_remove_from_folder r u cost call = do
  judge_storage r cost
  x ← find_or causes.NotFound (addressed r u call.place)
  judge_by_folder r u x call.folder

-- ---- the repository after it

-- of all folders: where it is filed nowhere, nothing changes but the step
abbrev pub unfiled_by : Repository → Moment → ℕ → Object → Repository
unfiled_by r m cost x = if is_filed_anywhere r (entry_of x) then changed_by (unfiled r (entry_of x)) x.id m cost else stepped r cost

-- of the folder that is named, if one is
abbrev pub removed_by : Repository → Moment → ℕ → Object → Option Oid → Repository
removed_by r m cost x None = unfiled_by r m cost x
removed_by r m cost x (Some folder) = changed_by (without_pair r folder (entry_of x)) x.id m cost

abbrev pub after_remove_from_folder_of : Repository → List ℕ → Moment → ℕ → RemoveFromFolder → Object → Repository
after_remove_from_folder_of r u m cost call x = removed_by r m cost x (option_map (folder_named r u) call.folder)

abbrev pub after_remove_from_folder : Repository → List ℕ → Moment → ℕ → RemoveFromFolder → Repository
after_remove_from_folder r u m cost call = unwrap_or (option_map (after_remove_from_folder_of r u m cost call) (addressed r u call.place)) r

-- ---- the reply

-- the object as the caller sees it after the step; where nothing is addressed the call is refused, and a root stands for it
abbrev pub acknowledgement_remove_from_folder : Repository → List ℕ → Moment → ℕ → RemoveFromFolder → ObjectReply
acknowledgement_remove_from_folder r u m cost call = record {
  object = shown_object (after_remove_from_folder r u m cost call) u filters.All call.succinct (unwrap_or (addressed r u call.place) (root_folder u m r.step));
  created = false;
}
