-- deleteObject (CMIS 1.1, section 2.2.4.16): when it is refused, and what it makes of the repository. Its reply is empty.
use Rattle.std.specs.Prelude.{ℕ, Bool, ◌&&◌, not, if◌then◌else◌, List, [], ◌∷◌, unwrap_or, option_map}
use Rattle.std.specs.List.{list_any, filter_map}
use Rattle.cm_base.specs.declared.number.Oid.{Oid}
use Rattle.cm_base.specs.declared.number.Moment.{Moment}
use Rattle.cm_base.specs.declared.object.Object.{Object}
use Rattle.cm_base.specs.declared.access.Level.TheVariants as levels
use Rattle.cm_base.specs.declared.cause.Cause.TheVariants as causes
use Rattle.cm_base.specs.Judged.{Judged, ◌>>=◌, ◌>>◌, refuse, find_or}
use Rattle.cm_types.specs.declared.definition.BaseType.TheVariants as bases
use Rattle.call_parts.specs.declared.versions.Delete.{Delete}
use Rattle.call_parts.specs.Versions.{weight_of_delete}
use Rattle.cm_see.specs.Addressed.{addressed}
use Rattle.cm_state.specs.Looks.{is_policy_used}
use Rattle.cmis_spec.specs.Repository.{Repository, same, root, object_at, is_a, series_of}
use Rattle.cmis_spec.specs.Access.{lacks}
use Rattle.cmis_spec.specs.Well.{members}
use Rattle.cmis_spec.specs.Changes.{stepped}
use Rattle.cmis_spec.specs.Documents.{is_working_copy}
use Rattle.cmis_spec.specs.Removal.{deleted}
use Rattle.cmis_spec.specs.Retention.{judge_kept}
use Rattle.wr_rules.specs.Rules.{judge_storage}
use Rattle.wr_rules.specs.Documents.{is_checked_out}

abbrev pub cost_delete : Delete → ℕ
cost_delete call = weight_of_delete call

-- the series is checked out, and x is not its working copy
abbrev pub is_checked_out_version : Repository → Object → Bool
is_checked_out_version r x = is_checked_out r x && not (is_working_copy r x)

-- something is filed in the folder of this number, series without versions counted
abbrev pub is_filled_at : Repository → Oid → Bool
is_filled_at r n = list_any (λ p. same p.folder n) r.filed

abbrev pub is_filled : Repository → Object → Bool
is_filled r x = is_a r bases.Folder x && is_filled_at r x.id

-- what may go
abbrev pub judge_removal : Repository → Object → Judged (Unit {0})
judge_removal r x = do
  refuse causes.RootFixed (same x.id root)
  refuse causes.CheckedOut (is_checked_out_version r x)
  refuse causes.NotEmpty (is_filled r x)
  refuse causes.PolicyInUse (is_policy_used r x.id)

-- the whole series of a document, or x alone; a working copy goes alone
abbrev pub doomed : Repository → Delete → Object → List Oid
doomed r call x =
    if call.all_versions && not (is_working_copy r x)
    then unwrap_or (option_map members (series_of r x)) (x.id ∷ [])
    else x.id ∷ []

-- no document that would go is under a hold, or under retention at the moment
abbrev pub refusal_delete : Repository → List ℕ → Moment → ℕ → Delete → Judged (Unit {0})
refusal_delete r u m cost call = do
  judge_storage r cost
  x ← find_or causes.NotFound (addressed r u call.place)
  refuse causes.Denied (lacks r u levels.All x)
  judge_removal r x
  judge_kept r m (filter_map (object_at r) (doomed r call x))

abbrev pub after_delete_of : Repository → Moment → ℕ → Delete → Object → Repository
after_delete_of r m cost call x = stepped (deleted r m (doomed r call x)) cost

abbrev pub after_delete : Repository → List ℕ → Moment → ℕ → Delete → Repository
after_delete r u m cost call = unwrap_or (option_map (after_delete_of r m cost call) (addressed r u call.place)) r
