-- moveObject (CMIS 1.1, section 2.2.4.15): when it is refused, what it makes of the repository, and what it answers.
use Rattle.std.specs.Prelude.{ℕ, ◌+◌, ◌-◌, nat_lt, Bool, false, ◌&&◌, ◌||◌, not, if◌then◌else◌, List, unwrap_or, option_map, Ok}
use Rattle.std.specs.List.{list_any}
use Rattle.cm_base.specs.declared.number.Oid.{Oid}
use Rattle.cm_base.specs.declared.number.Moment.{Moment}
use Rattle.cm_base.specs.declared.object.Object.{Object}
use Rattle.cm_base.specs.declared.access.Level.TheVariants as levels
use Rattle.cm_base.specs.declared.cause.Cause.TheVariants as causes
use Rattle.cm_base.specs.Judged.{Judged, ◌>>=◌, ◌>>◌, refuse, find_or}
use Rattle.cm_types.specs.declared.definition.BaseType.TheVariants as bases
use Rattle.call_parts.specs.declared.readings.PropertyFilter.TheVariants as filters
use Rattle.call_parts.specs.declared.changes.MoveObject.{MoveObject}
use Rattle.call_parts.specs.declared.replies.ObjectReply.{ObjectReply}
use Rattle.call_parts.specs.Changes.{weight_of_move}
use Rattle.cm_see.specs.Addressed.{addressed}
use Rattle.cm_see.specs.Shown.{shown_object}
use Rattle.cmis_spec.specs.Repository.{Repository, same, root, root_folder, most_levels, is_a, entry_of, entry_name, is_filed, is_taken, is_under, depth_of}
use Rattle.cmis_spec.specs.Access.{lacks, read_named}
use Rattle.cmis_spec.specs.Changes.{stepped, moved}
use Rattle.wr_rules.specs.Rules.{judge_storage, bars_child}
use Rattle.wr_filing.specs.Filing.{may_be_filed, folder_named, changed_by}

abbrev pub cost_move : MoveObject → ℕ
cost_move call = weight_of_move call

-- ---- the refusal

-- the caller may not write in the object, its folder or the other one
abbrev pub lacks_one : Repository → List ℕ → Object → Object → Object → Bool
lacks_one r u x source target = lacks r u levels.Write x || lacks r u levels.Write source || lacks r u levels.Write target

-- y is the folder n or one below it, and would stand too deep with n in the target
abbrev pub is_too_deep : Repository → Oid → Oid → Object → Bool
is_too_deep r n target y = is_a r bases.Folder y && is_under r y.id n && nat_lt most_levels (depth_of r target + 1 + (depth_of r y.id - depth_of r n))

-- the object may be moved from the source
abbrev pub judge_source : Repository → List ℕ → Object → Object → Object → Judged (Unit {0})
judge_source r u x source target = do
  refuse causes.Denied (lacks_one r u x source target)
  refuse causes.NotFileable (not (may_be_filed r x))
  refuse causes.WrongKind (not (is_a r bases.Folder source) || not (is_a r bases.Folder target))
  refuse causes.RootFixed (same x.id root)
  refuse causes.NotFiled (not (is_filed r source.id (entry_of x)))

-- there is a place for the entry in the target
abbrev pub judge_place : Repository → Oid → Oid → Judged (Unit {0})
judge_place r n target = do
  refuse causes.Below (is_under r target n)
  refuse causes.Deep (list_any (is_too_deep r n target) r.objects)
  refuse causes.NameTaken (is_taken r target n (entry_name r n))

-- the target takes the object
abbrev pub judge_target : Repository → Object → Object → Judged (Unit {0})
judge_target r x target = do
  refuse causes.AlreadyFiled (is_filed r target.id (entry_of x))
  refuse causes.ChildType (bars_child r target x.kind)
  judge_place r (entry_of x) target.id

-- what is moved onto its own folder stays
abbrev pub judge_other_target : Repository → Object → Object → Object → Judged (Unit {0})
judge_other_target r x source target = if same source.id target.id then Ok tt else judge_target r x target

abbrev pub judge_move : Repository → List ℕ → Object → Object → Object → Judged (Unit {0})
judge_move r u x source target = do
  judge_source r u x source target
  judge_other_target r x source target

abbrev pub refusal_move : Repository → List ℕ → ℕ → MoveObject → Judged (Unit {0})
refusal_move r u cost call = do
  judge_storage r cost
  x ← find_or causes.NotFound (addressed r u call.place)
  source ← find_or causes.NotFound (read_named r u call.source)
  target ← find_or causes.NotFound (read_named r u call.target)
  judge_move r u x source target

-- ---- the repository after it

-- the object of the source stands in the target; onto its own folder nothing changes but the step
abbrev pub moved_to : Repository → Moment → ℕ → Object → Oid → Oid → Repository
moved_to r m cost x source target = if same source target then stepped r cost else changed_by (moved r (entry_of x) source target) x.id m cost

abbrev pub after_move_of : Repository → List ℕ → Moment → ℕ → MoveObject → Object → Repository
after_move_of r u m cost call x = moved_to r m cost x (folder_named r u call.source) (folder_named r u call.target)

abbrev pub after_move : Repository → List ℕ → Moment → ℕ → MoveObject → Repository
after_move r u m cost call = unwrap_or (option_map (after_move_of r u m cost call) (addressed r u call.place)) r

-- ---- the reply

-- the object as the caller sees it after the step; where nothing is addressed the call is refused, and a root stands for it
abbrev pub acknowledgement_move : Repository → List ℕ → Moment → ℕ → MoveObject → ObjectReply
acknowledgement_move r u m cost call = record {
  object = shown_object (after_move r u m cost call) u filters.All call.succinct (unwrap_or (addressed r u call.place) (root_folder u m r.step));
  created = false;
}
