-- delete keeps what is well formed.
use Rattle.std.specs.Prelude.{◌≡◌, ℕ, ◌+◌, ◌<◌, ◌^◌, Bool, true, false, not, ◌&&◌, if◌then◌else◌, List, [], ◌∷◌, All, Option, Some, None, Ok, option_map, option_and_then, unwrap_or}
use Rattle.std.proofs.Common.{refl, sym, ap, subst, ◌∙◌}
use Rattle.std.proofs.lemmas.Bool.{both_ways}
use Rattle.std.proofs.lemmas.List.Elements.{All-weaker}
use Rattle.cm_base.specs.declared.number.Oid.{Oid}
use Rattle.cm_base.specs.declared.number.Moment.{Moment}
use Rattle.cm_base.specs.declared.object.Object.{Object}
use Rattle.cm_base.specs.declared.series.Series.{Series}
use Rattle.cm_base.specs.declared.access.Level.TheVariants as levels
use Rattle.cm_base.specs.declared.cause.Cause.TheVariants as causes
use Rattle.cm_types.specs.declared.definition.BaseType.TheVariants as bases
use Rattle.call_parts.specs.declared.versions.Delete.{Delete}
use Rattle.cm_see.specs.Addressed.{addressed}
use Rattle.cmis_spec.specs.Repository.{Repository, same, root, object_at, series_at, series_of, is_a}
use Rattle.cmis_spec.specs.Access.{lacks}
use Rattle.cmis_spec.specs.Changes.{stepped}
use Rattle.cmis_spec.specs.Documents.{is_working_copy}
use Rattle.cmis_spec.specs.Removal.{deleted}
use Rattle.cmis_spec.specs.Well.{IsPair, members, IsWellFormed}
use Rattle.cmis_laws.proofs.Lists.{all_from_any, same_refl, differ}
use Rattle.cmis_laws.proofs.Entries.{one_there}
use Rattle.cmis_laws.proofs.Going.{IsFree, deleted_keeps}
use Rattle.cmis_laws.proofs.Passed.{refused_not, then_ok, refuse_ok, find_ok}
use Rattle.cmis_laws.proofs.Steps.{HasRoom, step_keeps}
use Rattle.wr_rules.specs.Rules.{judge_storage}
use Rattle.wr_rules.proofs.Found.{addressed_there}
use Rattle.cm_state.specs.Looks.{is_policy_used}
use Rattle.wr_remove.specs.Delete.{is_checked_out_version, is_filled_at, is_filled, judge_removal, refusal_delete, doomed, after_delete_of, after_delete}
use Rattle.wr_rules.proofs.Room.{room_of, fits_of}
use Rattle.wr_remove.proofs.Free.{one_free, series_free}

module _ (r : Repository) (w : IsWellFormed r) (x : Object) (there : object_at r x.id ≡ Some x) where
  -- nothing is filed in what is no folder
  folders_other : (b : Bool) → is_a r bases.Folder x ≡ b → is_filled r x ≡ false → All (λ p. same p.folder x.id ≡ false) r.filed
  folders_other true e empty = all_from_any (λ p. same p.folder x.id) r.filed (sym (ap (λ b. b && is_filled_at r x.id) e) ∙ empty)
  folders_other false e empty = All-weaker (IsPair r) (λ p. same p.folder x.id ≡ false)
      (λ p l. differ p.folder x.id (λ k. both_ways (is_a r bases.Folder x) e
      (subst (λ z. is_a r bases.Folder z ≡ true) (one_there r x.id l.0.0 x (ap (object_at r) (sym k) ∙ l.0.1) there) l.0.2))) r.filed w.pairs

  turned : (a b : Oid) → same b a ≡ false → same a b ≡ false
  turned a b h = differ a b (λ e. both_ways (same b a) h (subst (λ n. same n a ≡ true) e (same_refl a)))

  -- x alone, where it is not the root, empty, and nowhere applied
  alone_free : same x.id root ≡ false → is_filled r x ≡ false → is_policy_used r x.id ≡ false → IsFree r w (x.id ∷ [])
  alone_free other empty unapplied =
      one_free r w x.id (turned root x.id other) (folders_other (is_a r bases.Folder x) refl empty) (all_from_any (λ a. same a.policy x.id) r.applied unapplied)

  doomed_free : (call : Delete) → same x.id root ≡ false → is_filled r x ≡ false → is_policy_used r x.id ≡ false → IsFree r w (doomed r call x)
  doomed_free call other empty unapplied = by (call.all_versions && not (is_working_copy r x)) (alone_free other empty unapplied)
    where
      whole : (o : Option Oid) → IsFree r w (x.id ∷ []) → IsFree r w (unwrap_or (option_map members (option_and_then (series_at r) o)) (x.id ∷ []))
      whole None one = one
      whole (Some n) one = found (series_at r n) refl one
        where
          found : (p : Option Series) → series_at r n ≡ p → IsFree r w (x.id ∷ []) → IsFree r w (unwrap_or (option_map members p) (x.id ∷ []))
          found None e one = one
          found (Some s) e one = series_free r w s n e

      by : (b : Bool) → IsFree r w (x.id ∷ []) → IsFree r w (if b then unwrap_or (option_map members (series_of r x)) (x.id ∷ []) else x.id ∷ [])
      by true one = whole x.series one
      by false one = one

pub keeps_delete : (r : Repository) (u : List ℕ) (m : Moment) (cost : ℕ) (call : Delete) → IsWellFormed r → refusal_delete r u m cost call ≡ Ok tt → IsWellFormed (after_delete r u m cost call)
keeps_delete r u m cost call w h =
    let s = then_ok (judge_storage r cost) _ h in
    let a = find_ok causes.NotFound (addressed r u call.place) _ s.1 in
    let b = refuse_ok causes.Denied (lacks r u levels.All a.0) _ a.2 in
    let k = then_ok (judge_removal r a.0) _ b.1 in
    let c = refuse_ok causes.RootFixed (same a.0.id root) _ k.0 in
    let d = refuse_ok causes.CheckedOut (is_checked_out_version r a.0) _ c.1 in
    let e = refuse_ok causes.NotEmpty (is_filled r a.0) _ d.1 in
    let f = refused_not causes.PolicyInUse (is_policy_used r a.0.id) e.1 in
    let there : object_at r a.0.id ≡ Some a.0 = addressed_there r u call.place a.0 w.numbers a.1 in
    let room : HasRoom r cost = room_of r cost s.0 in
    let ns : List Oid = doomed r call a.0 in
    subst IsWellFormed (sym (ap (λ o. unwrap_or (option_map (after_delete_of r m cost call) o) r) a.1))
    (step_keeps (deleted r m ns) cost (deleted_keeps r w ns (doomed_free r w a.0 there call c.0 e.0 f) m) (record { steps = room.steps; bytes = room.bytes }))

-- the repository without what is addressed, and what goes with it, is the one after the call
pub delete_is : (r : Repository) (u : List ℕ) (m : Moment) (cost : ℕ) (call : Delete) (x : Object) → addressed r u call.place ≡ Some x
    → stepped (deleted r m (doomed r call x)) cost ≡ after_delete r u m cost call
delete_is r u m cost call x at = sym (ap (λ o. unwrap_or (option_map (after_delete_of r m cost call) o) r) at)

pub delete_fits : (r : Repository) (u : List ℕ) (m : Moment) (cost : ℕ) (call : Delete) → IsWellFormed r → refusal_delete r u m cost call ≡ Ok tt → (r.step + 1 < 2 ^ 64) × (r.cost + cost < 2 ^ 64)
delete_fits r u m cost call w h = fits_of r cost w (room_of r cost (then_ok (judge_storage r cost) _ h).0)
