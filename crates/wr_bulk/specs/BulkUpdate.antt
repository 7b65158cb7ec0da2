-- bulkUpdateProperties (CMIS 1.1, section 2.2.4.14): when it is refused, what it makes of the repository, and what it answers.
use Rattle.std.specs.Prelude.{ℕ, Bool, false, if◌then◌else◌, List, [], ◌∷◌, ◌++◌, fold, Option, Some, None, is_some, option_map, bytes_eq, codes}
use Rattle.cm_base.specs.declared.number.Oid.{Oid}
use Rattle.cm_base.specs.declared.number.Moment.{Moment}
use Rattle.cm_base.specs.declared.cause.Cause.TheVariants as causes
use Rattle.cm_base.specs.Judged.{Judged, ◌>>=◌, ◌>>◌, refuse, cause_of}
use Rattle.call_parts.specs.declared.changes.UpdateProperties.{UpdateProperties}
use Rattle.call_parts.specs.declared.place.Place.TheVariants.{Id}
use Rattle.bulk_parts.specs.declared.writes.BulkUpdate.{BulkUpdate}
use Rattle.bulk_parts.specs.declared.writes.ObjectIdAndChangeToken.{ObjectIdAndChangeToken}
use Rattle.bulk_parts.specs.declared.replies.UpdatedObject.{UpdatedObject}
use Rattle.bulk_parts.specs.Weight.{weight_of_bulk_update}
use Rattle.cm_see.specs.Addressed.{addressed}
use Rattle.cmis_spec.specs.Repository.{Repository}
use Rattle.cmis_spec.specs.Changes.{stepped}
use Rattle.wr_rules.specs.Rules.{judge_storage}
use Rattle.wr_change.specs.Update.{refusal_one, changed_in}

abbrev pub cost_bulk_update : BulkUpdate → ℕ
cost_bulk_update call = weight_of_bulk_update call

-- ---- the refusal

-- whoever has no name may not ask for it; no object refuses the call
abbrev pub refusal_bulk_update : Repository → List ℕ → ℕ → Judged (Unit {0})
refusal_bulk_update r u cost = do
  judge_storage r cost
  refuse causes.Denied (bytes_eq u (codes "anonymous"))

-- ---- one object

-- the update that the call asks for of one of its objects
abbrev pub update_of : BulkUpdate → ObjectIdAndChangeToken → UpdateProperties
update_of call o = record {
  place = Id o.id;
  properties = call.properties;
  remove_secondary = call.remove_secondary;
  add_secondary = call.add_secondary;
  token = o.token;
  succinct = false;
}

abbrev pub is_refused : Judged (Unit {0}) → Bool
is_refused j = is_some (cause_of j)

-- the repository with the object changed in the step that was taken last, and the id of the object; none where update would refuse it,
-- the limits of the repository aside
unfoldable pub changed : Repository → List ℕ → Moment → UpdateProperties → Option (Repository × Oid)
changed r u m call = if is_refused (refusal_one r u m call) then None else option_map (λ x. (changed_in r u m call x, x.id)) (addressed r u call.place)

-- ---- the repository after the call, and the reply

-- the repository so far and what is told of the objects that were changed, each with its new change token, with one object more
abbrev pub with_changed : Repository × List UpdatedObject → Option (Repository × Oid) → Repository × List UpdatedObject
with_changed so_far None = so_far
with_changed so_far (Some c) = (c.0, so_far.1 ++ record { id = c.1; token = so_far.0.step } ∷ [])

abbrev pub with_object : List ℕ → Moment → BulkUpdate → Repository × List UpdatedObject → ObjectIdAndChangeToken → Repository × List UpdatedObject
with_object u m call so_far o = with_changed so_far (changed so_far.0 u m (update_of call o))

-- each object in turn, after the one step of the call
abbrev pub with_objects : Repository → List ℕ → Moment → BulkUpdate → Repository × List UpdatedObject
with_objects r u m call = fold (with_object u m call) (r, []) call.objects

abbrev pub after_bulk_update : Repository → List ℕ → Moment → ℕ → BulkUpdate → Repository
after_bulk_update r u m cost call = (with_objects (stepped r cost) u m call).0

-- the objects that were changed, in order
abbrev pub acknowledgement_bulk_update : Repository → List ℕ → Moment → ℕ → BulkUpdate → List UpdatedObject
acknowledgement_bulk_update r u m cost call = (with_objects (stepped r cost) u m call).1
