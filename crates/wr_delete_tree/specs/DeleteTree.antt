-- deleteTree (CMIS 1.1, section 2.2.4.17): when it is refused, what it makes of the repository, and what it answers.
use Rattle.std.specs.Prelude.{ℕ, zero, suc, Bool, true, false, ◌||◌, not, if◌then◌else◌, List, [], ◌∷◌, ◌++◌, map, filter, fold, Option, Some, None, is_some, is_none, is_err, unwrap_or, option_map, option_and_then}
use Rattle.std.specs.List.{list_any, list_all, flat_map, filter_map}
use Rattle.core.specs.Ordering.{nat_cmp}
use Rattle.cm_map.specs.Sets.{with_key}
use Rattle.cm_base.specs.declared.number.Oid.{Oid}
use Rattle.cm_base.specs.declared.number.Moment.{Moment}
use Rattle.cm_base.specs.declared.object.Object.{Object}
use Rattle.cm_base.specs.declared.series.Series.{Series}
use Rattle.cm_base.specs.declared.access.Level.TheVariants as levels
use Rattle.cm_base.specs.declared.log.ChangeKind.TheVariants as changes
use Rattle.cm_base.specs.declared.cause.Cause.TheVariants as causes
use Rattle.cm_base.specs.Judged.{Judged, ◌>>=◌, ◌>>◌, refuse, find_or}
use Rattle.cm_types.specs.declared.definition.BaseType.TheVariants as bases
use Rattle.cm_see.specs.Addressed.{addressed}
use Rattle.cm_state.specs.Looks.{entries_in, folders_in, standing_at}
use Rattle.cmis_spec.specs.Repository.{Repository, same, root, levels_up, object_at, series_at, last_of, is_a, parent_in}
use Rattle.cmis_spec.specs.Access.{lacks, reads}
use Rattle.cmis_spec.specs.Changes.{stepped, noted}
use Rattle.cmis_spec.specs.Removal.{among, each_once, deleted}
use Rattle.cmis_spec.specs.Retention.{judge_kept}
use Rattle.cmis_spec.specs.Well.{members}
use Rattle.wr_rules.specs.Rules.{judge_storage}
use Rattle.wr_filing.specs.Filing.{lacks_at, out_of}
use Rattle.wr_remove.specs.Delete.{is_filled_at}
use Rattle.delete_tree_parts.specs.declared.replies.DeleteTreeReply.{DeleteTreeReply}
use Rattle.delete_tree_parts.specs.declared.writes.DeleteTree.{DeleteTree}
use Rattle.delete_tree_parts.specs.declared.writes.UnfileObjects.{UnfileObjects}
use Rattle.delete_tree_parts.specs.declared.writes.UnfileObjects.TheVariants as ways
use Rattle.delete_tree_parts.specs.Weight.{weight_of_delete_tree}
use Rattle.wr_delete_tree.specs.declared.visit.Progress.{Progress}

abbrev pub cost_delete_tree : DeleteTree → ℕ
cost_delete_tree call = weight_of_delete_tree call

-- ---- the refusal

abbrev pub refusal_delete_tree : Repository → List ℕ → ℕ → DeleteTree → Judged (Unit {0})
refusal_delete_tree r u cost call = do
  judge_storage r cost
  x ← find_or causes.NotFound (addressed r u call.place)
  refuse causes.Denied (lacks r u levels.All x)
  refuse causes.WrongKind (not (is_a r bases.Folder x))
  refuse causes.RootFixed (same x.id root)

-- ---- the tree

-- the numbers in their order, each once: each is put in its place
abbrev pub rising : List Oid → List Oid
rising ns = map (λ k. record { 0 = k }) (fold (λ ks n. with_key nat_cmp ks n.0) [] ns)

-- folders, items and series, each behind what stands below it, so many levels in all; the children of a folder are visited in the order
-- of their numbers, where a series counts by its own
abbrev pub visited : ℕ → Repository → List Oid → List Oid
visited zero r ns = []
visited (suc k) r ns = flat_map (λ n. visited k r (rising (entries_in r n)) ++ n ∷ []) ns

-- the tree below a folder, and the folder last, each where it is visited first; no folder stands deeper than 48 levels below the root, so
-- these are all levels
abbrev pub tree_of : Repository → Oid → List Oid
tree_of r f = each_once (visited levels_up r (f ∷ []))

-- ---- a visit

abbrev pub is_folder_at : Repository → Oid → Bool
is_folder_at r n = unwrap_or (option_map (is_a r bases.Folder) (object_at r n)) false

abbrev pub is_checked_out_at : Repository → Oid → Bool
is_checked_out_at r n = unwrap_or (option_map (λ s. is_some s.working) (series_at r n)) false

-- an item or a series is deleted, and not taken out; this says whether all its folders are in the tree
abbrev pub is_deleted_by : UnfileObjects → Bool → Bool
is_deleted_by ways.Unfile within = false
is_deleted_by ways.DeleteSingleFiled within = within
is_deleted_by ways.Delete within = true

-- a folder is deleted in any case
abbrev pub is_to_go : Repository → DeleteTree → List Oid → Oid → Bool
is_to_go r call tree n = is_folder_at r n || is_deleted_by call.unfile_objects (list_all (among tree) (folders_in r n))

-- a series with all its documents, or a folder or an item alone
abbrev pub whole : Repository → Oid → List Oid
whole r n = unwrap_or (option_map members (series_at r n)) (n ∷ [])

-- one of the documents is under a hold, or under retention at the moment
abbrev pub is_kept_at : Repository → Moment → Oid → Bool
is_kept_at r m n = is_err (judge_kept r m (filter_map (object_at r) (whole r n)))

abbrev pub may_not_go : Repository → List ℕ → Moment → Oid → Bool
may_not_go r u m n = lacks_at r u levels.All n || (is_checked_out_at r n || (is_filled_at r n || is_kept_at r m n))

abbrev pub fails : Repository → List ℕ → Moment → DeleteTree → List Oid → Oid → Bool
fails r u m call tree n = if is_to_go r call tree n then may_not_go r u m n else lacks_at r u levels.Write n

-- of a series the latest version, or else the working copy
abbrev pub event_document : Series → Option Oid
event_document s = if is_some (last_of s.versions) then option_map (λ v. v.object) (last_of s.versions) else option_map (λ w. w.copy) s.working

-- the object whose event tells that a series or an item was taken out
abbrev pub event_object : Repository → Oid → Oid
event_object r n = unwrap_or (option_and_then event_document (series_at r n)) n

-- out of those of its folders that are in the tree, with one event
abbrev pub taken_out : Repository → Moment → List Oid → Oid → Repository
taken_out r m tree n = noted (fold (out_of n) r (filter (among tree) (folders_in r n))) changes.Updated (event_object r n) m []

abbrev pub treated : Repository → Moment → DeleteTree → List Oid → Oid → Repository
treated r m call tree n = if is_to_go r call tree n then deleted r m (whole r n) else taken_out r m tree n

-- what is filed nowhere is no longer in the tree; at a failure nothing changes, and the visit ends unless the call says that it goes on
abbrev pub visit : List ℕ → Moment → DeleteTree → List Oid → Progress → Oid → Progress
visit u m call tree p n =
    if p.ended || is_none (parent_in p.state.filed n) then p
    else if fails p.state u m call tree n then record { state = p.state; ended = not call.continue_on_failure }
    else record { state = treated p.state m call tree n; ended = false }

-- ---- the repository after it

-- each of the tree in turn, on the repository so far
abbrev pub visits : Repository → List ℕ → Moment → DeleteTree → List Oid → Repository
visits r u m call tree = (fold (visit u m call tree) (record { state = r; ended = false }) tree).state

-- one step further, with all that the visit of the tree does
abbrev pub after_delete_tree_of : Repository → List ℕ → Moment → ℕ → DeleteTree → Object → Repository
after_delete_tree_of r u m cost call x = visits (stepped r cost) u m call (tree_of r x.id)

abbrev pub after_delete_tree : Repository → List ℕ → Moment → ℕ → DeleteTree → Repository
after_delete_tree r u m cost call = unwrap_or (option_map (after_delete_tree_of r u m cost call) (addressed r u call.place)) r

-- ---- the reply

-- it is the folder itself, or stands in a folder of the tree
abbrev pub is_left : Repository → List Oid → Oid → Oid → Bool
is_left r tree top n = same n top || list_any (among tree) (folders_in r n)

abbrev pub shown_id : Repository → List ℕ → Object → Option Oid
shown_id r u x = if reads r u x then Some x.id else None

-- what is left of the tree and is read by the caller: a folder, an item, or the latest version of a series
abbrev pub left_at : Repository → List ℕ → List Oid → Oid → Oid → Option Oid
left_at r u tree top n = if is_left r tree top n then option_and_then (shown_id r u) (standing_at r n) else None

-- in the order of the ids; none where the folder itself is gone
abbrev pub left_in : Repository → List ℕ → List Oid → Oid → DeleteTreeReply
left_in r u tree top = record { ids = if is_some (object_at r top) then rising (filter_map (left_at r u tree top) tree) else [] }

abbrev pub acknowledgement_delete_tree_of : Repository → List ℕ → Moment → ℕ → DeleteTree → Object → DeleteTreeReply
acknowledgement_delete_tree_of r u m cost call x = left_in (after_delete_tree_of r u m cost call x) u (tree_of r x.id) x.id

-- where nothing is addressed the call is refused, and an empty list stands for it
abbrev pub acknowledgement_delete_tree : Repository → List ℕ → Moment → ℕ → DeleteTree → DeleteTreeReply
acknowledgement_delete_tree r u m cost call =
    unwrap_or (option_map (acknowledgement_delete_tree_of r u m cost call) (addressed r u call.place)) (record { ids = [] })
