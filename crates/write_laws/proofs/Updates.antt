-- The update of one object and of several, and changed access lists, keep what is well formed.
use Rattle.std.specs.Prelude.{◌≡◌, ℕ, true, false, List, [], ◌∷◌, fold, Option, Some, None, IfSome, Ok, Err, option_map, unwrap_or, bytes_eq, codes}
use Rattle.std.proofs.Common.{refl, sym, ap, subst}
use Rattle.std.proofs.lemmas.Bool.{both_ways}
use Rattle.cm_base.specs.declared.number.Moment.{Moment}
use Rattle.cm_base.specs.declared.number.Oid.{Oid}
use Rattle.cm_base.specs.declared.object.Object.{Object}
use Rattle.cm_base.specs.declared.cause.Cause.TheVariants as causes
use Rattle.cm_base.specs.Judged.{Judged, refuse}
use Rattle.access_parts.specs.declared.writes.ApplyAcl.{ApplyAcl}
use Rattle.bulk_parts.specs.declared.replies.UpdatedObject.{UpdatedObject}
use Rattle.bulk_parts.specs.declared.writes.BulkUpdate.{BulkUpdate}
use Rattle.bulk_parts.specs.declared.writes.ObjectIdAndChangeToken.{ObjectIdAndChangeToken}
use Rattle.call_parts.specs.declared.changes.UpdateProperties.{UpdateProperties}
use Rattle.cm_see.specs.Addressed.{addressed}
use Rattle.cmis_spec.specs.Repository.{Repository, entry_of}
use Rattle.cmis_spec.specs.Access.{aces_at}
use Rattle.cmis_spec.specs.Changes.{stepped}
use Rattle.cmis_spec.specs.Well.{IsWellFormed}
use Rattle.cmis_laws.proofs.Passed.{find_ok, then_ok}
use Rattle.cmis_laws.proofs.Steps.{step_keeps}
use Rattle.wr_rules.specs.Rules.{aces_in, judge_storage}
use Rattle.wr_rules.proofs.Room.{room_of}
use Rattle.wr_access.specs.ApplyAcl.{refusal_apply_acl, changed_list, after_apply_acl}
use Rattle.wr_access.proofs.Allowed.{list_sound}
use Rattle.wr_access.proofs.Changed.{relisted_is, relisted_well}
use Rattle.wr_bulk.specs.BulkUpdate.{after_bulk_update, changed, is_refused, refusal_bulk_update, update_of, with_changed, with_object}
use Rattle.wr_change.specs.Update.{after_update, changed_in, refusal_one, refusal_update}
use Rattle.wr_change.proofs.Updating.{changed_well, found_right, right_stepped}
use Rattle.write_laws.proofs.Ordered.{changed_ordered}
use Rattle.write_laws.proofs.Passing.{choose, found}

-- ---- one object

pub keeps_update : (r : Repository) (u : List ℕ) (m : Moment) (cost : ℕ) (call : UpdateProperties) → IsWellFormed r → refusal_update r u m cost call ≡ Ok tt → IsWellFormed (after_update r u m cost call)
keeps_update r u m cost call w h =
    let s = then_ok (judge_storage r cost) (refusal_one r u m call) h in
    let a = find_ok causes.NotFound (addressed r u call.place) _ s.1 in
    subst IsWellFormed (sym (ap (λ o. unwrap_or (option_map (changed_in (stepped r cost) u m call) o) r) a.1))
    (changed_well (stepped r cost) u m call a.0 (step_keeps r cost w (room_of r cost s.0)) (right_stepped r cost call a.0 (found_right r u m call a.0 w.numbers a.1 s.1)))

-- ---- several

not_refused : (j : Judged (Unit {0})) → is_refused j ≡ false → j ≡ Ok tt
not_refused (Ok x) e = refl
not_refused (Err c) e = absurd (both_ways true e refl)

abbrev IsWellThen : Option (Repository × Oid) → Type 0
IsWellThen o = IfSome o (λ c. IsWellFormed c.0)

found_keeps : (r : Repository) (u : List ℕ) (m : Moment) (call : UpdateProperties) (o : Option Object) → IsWellFormed r → refusal_one r u m call ≡ Ok tt → addressed r u call.place ≡ o
    → IsWellThen (option_map (λ x. (changed_in r u m call x, x.id)) o)
found_keeps r u m call None w h at = tt
found_keeps r u m call (Some x) w h at = changed_well r u m call x w (found_right r u m call x w.numbers at h)

change_keeps : (r : Repository) (u : List ℕ) (m : Moment) (call : UpdateProperties) → IsWellFormed r → IsWellThen (changed r u m call)
unfolding changed
change_keeps r u m call w = choose IsWellThen (is_refused (refusal_one r u m call)) None (option_map (λ x. (changed_in r u m call x, x.id)) (addressed r u call.place))
    (λ e. tt)
    (λ e. found_keeps r u m call (addressed r u call.place) w (not_refused (refusal_one r u m call) e) refl)

with_keeps : (so_far : Repository × List UpdatedObject) (o : Option (Repository × Oid)) → IsWellFormed so_far.0 → IsWellThen o → IsWellFormed (with_changed so_far o).0
with_keeps so_far None w h = w
with_keeps so_far (Some c) w h = h

all_keep : (u : List ℕ) (m : Moment) (call : BulkUpdate) (objects : List ObjectIdAndChangeToken) (so_far : Repository × List UpdatedObject) → IsWellFormed so_far.0
    → IsWellFormed (fold (with_object u m call) so_far objects).0
all_keep u m call [] so_far w = w
all_keep u m call (o ∷ objects) so_far w =
    all_keep u m call objects (with_object u m call so_far o) (with_keeps so_far (changed so_far.0 u m (update_of call o)) w (change_keeps so_far.0 u m (update_of call o) w))

pub keeps_bulk_update : (r : Repository) (u : List ℕ) (m : Moment) (cost : ℕ) (call : BulkUpdate) → IsWellFormed r → refusal_bulk_update r u cost ≡ Ok tt → IsWellFormed (after_bulk_update r u m cost call)
keeps_bulk_update r u m cost call w h =
    let s = then_ok (judge_storage r cost) (refuse causes.Denied (bytes_eq u (codes "anonymous"))) h in
    all_keep u m call call.objects (stepped r cost, []) (step_keeps r cost w (room_of r cost s.0))

-- ---- access lists

pub keeps_apply_acl : (r : Repository) (u : List ℕ) (m : Moment) (cost : ℕ) (call : ApplyAcl) → IsWellFormed r → refusal_apply_acl r u cost call ≡ Ok tt → IsWellFormed (after_apply_acl r u m cost call)
keeps_apply_acl r u m cost call w h =
    let f = found r u cost call.place _ h in
    let list = changed_list r call f.x in
    let ordered = changed_ordered (aces_at r (entry_of f.x)) (aces_in call.remove) (aces_in call.add) (list_sound r (entry_of f.x) w).0 in
    subst IsWellFormed (relisted_is r u m cost cost call f.x list f.at refl refl) (relisted_well r u m cost cost call f.x list w h ordered refl refl)
