-- removeObjectFromFolder keeps what is well formed.
use Rattle.std.specs.Prelude.{◌≡◌, ℕ, ◌+◌, ◌<◌, ◌^◌, true, false, not, ◌||◌, if◌then◌else◌, List, find, Option, Some, None, Ok, unwrap_or, option_map}
use Rattle.std.proofs.Common.{refl, sym, ap, subst, ◌∙◌}
use Rattle.cm_base.specs.declared.number.Oid.{Oid}
use Rattle.cm_base.specs.declared.number.Moment.{Moment}
use Rattle.cm_base.specs.declared.object.Object.{Object}
use Rattle.cm_base.specs.declared.access.Level.TheVariants as levels
use Rattle.cm_base.specs.declared.cause.Cause.TheVariants as causes
use Rattle.cm_types.specs.declared.definition.BaseType.TheVariants as bases
use Rattle.call_parts.specs.declared.changes.RemoveFromFolder.{RemoveFromFolder}
use Rattle.cm_see.specs.Addressed.{addressed}
use Rattle.cmis_spec.specs.Repository.{Repository, same, object_at, is_a, entry_of}
use Rattle.cmis_spec.specs.Access.{lacks, read_named}
use Rattle.cmis_spec.specs.Changes.{stepped, without_pair}
use Rattle.cmis_spec.specs.Well.{HasNumbers, IsWellFormed}
use Rattle.cmis_laws.proofs.Lists.{by_test}
use Rattle.cmis_laws.proofs.Entries.{IsLeafAt}
use Rattle.cmis_laws.proofs.Passed.{refused_not, then_ok, refuse_ok, find_ok, not_false}
use Rattle.cmis_laws.proofs.Steps.{HasRoom, step_keeps}
use Rattle.wr_rules.specs.Rules.{judge_storage}
use Rattle.wr_rules.proofs.Found.{addressed_there}
use Rattle.wr_rules.proofs.Room.{room_of, fits_of}
use Rattle.wr_filing.specs.Filing.{may_be_filed, folder_named, lacks_anywhere, is_filed_anywhere, unfiled, changed_by}
use Rattle.wr_filing.specs.AddToFolder.{lacks_either}
use Rattle.wr_filing.specs.RemoveFromFolder.{judge_by_folder, refusal_remove_from_folder, unfiled_by, removed_by, after_remove_from_folder_of, after_remove_from_folder}
use Rattle.wr_filing.proofs.Entry.{leaf_of, out_keeps, unfiled_keeps, change_keeps}

-- ---- what a refusal that is none tells

kinds_of : (r : Repository) (u : List ℕ) (x : Object) (o : Option (List ℕ)) → judge_by_folder r u x o ≡ Ok tt → (may_be_filed r x ≡ true) × (is_a r bases.Folder x ≡ false)
kinds_of r u x None h =
    let a = refuse_ok causes.Denied (lacks r u levels.Write x || lacks_anywhere r u (entry_of x)) _ h in
    let b = refuse_ok causes.NotFileable (not (may_be_filed r x)) _ a.1 in
    (not_false (may_be_filed r x) b.0, refused_not causes.OneParent (is_a r bases.Folder x) b.1)
kinds_of r u x (Some id) h =
    let f = find_ok causes.NotFound (read_named r u id) _ h in
    let a = refuse_ok causes.Denied (lacks_either r u x f.0) _ f.2 in
    let b = refuse_ok causes.NotFileable (not (may_be_filed r x)) _ a.1 in
    let c = refuse_ok causes.WrongKind (not (is_a r bases.Folder f.0)) _ b.1 in
    let d = refuse_ok causes.OneParent (is_a r bases.Folder x) _ c.1 in
    (not_false (may_be_filed r x) b.0, d.0)

pub record Passes (r : Repository) (u : List ℕ) (cost : ℕ) (call : RemoveFromFolder) : Type 0 where
  pub room : HasRoom r cost
  pub x : Object
  pub at : addressed r u call.place ≡ Some x
  pub fileable : may_be_filed r x ≡ true
  pub no_folder : is_a r bases.Folder x ≡ false

pub passes : (r : Repository) (u : List ℕ) (cost : ℕ) (call : RemoveFromFolder) → refusal_remove_from_folder r u cost call ≡ Ok tt → Passes r u cost call
passes r u cost call h =
    let s = then_ok (judge_storage r cost) _ h in
    let a = find_ok causes.NotFound (addressed r u call.place) _ s.1 in
    let k = kinds_of r u a.0 call.folder a.2 in
    record { room = room_of r cost s.0; x = a.0; at = a.1; fileable = k.0; no_folder = k.1 }

-- one more step and its cost stay numbers of 64 bits
pub room_for : (r : Repository) (u : List ℕ) (cost : ℕ) (call : RemoveFromFolder) → IsWellFormed r → refusal_remove_from_folder r u cost call ≡ Ok tt → (r.step + 1 < 2 ^ 64) × (r.cost + cost < 2 ^ 64)
room_for r u cost call w h = fits_of r cost w (passes r u cost call h).room

-- ---- all

pub filed_yes : (r : Repository) (m : Moment) (cost : ℕ) (x : Object) → is_filed_anywhere r (entry_of x) ≡ true → unfiled_by r m cost x ≡ changed_by (unfiled r (entry_of x)) x.id m cost
filed_yes r m cost x e = ap (λ b. if b then changed_by (unfiled r (entry_of x)) x.id m cost else stepped r cost) e

pub filed_no : (r : Repository) (m : Moment) (cost : ℕ) (x : Object) → is_filed_anywhere r (entry_of x) ≡ false → unfiled_by r m cost x ≡ stepped r cost
filed_no r m cost x e = ap (λ b. if b then changed_by (unfiled r (entry_of x)) x.id m cost else stepped r cost) e

removed_well : (r : Repository) (m : Moment) (cost : ℕ) (x : Object) → IsWellFormed r → HasRoom r cost → IsLeafAt r (entry_of x) → (o : Option Oid) → IsWellFormed (removed_by r m cost x o)
removed_well r m cost x w room leaf None = by_test (is_filed_anywhere r (entry_of x))
    (λ e. subst IsWellFormed (sym (filed_yes r m cost x e)) (change_keeps (unfiled r (entry_of x)) x.id m cost (unfiled_keeps r (entry_of x) w leaf) (record { steps = room.steps; bytes = room.bytes })))
    (λ e. subst IsWellFormed (sym (filed_no r m cost x e)) (step_keeps r cost w room))
removed_well r m cost x w room leaf (Some f) = change_keeps (without_pair r f (entry_of x)) x.id m cost (out_keeps r f (entry_of x) w leaf) (record { steps = room.steps; bytes = room.bytes })

pub after_is : (r : Repository) (u : List ℕ) (m : Moment) (cost : ℕ) (call : RemoveFromFolder) (x : Object) → addressed r u call.place ≡ Some x
    → after_remove_from_folder r u m cost call ≡ after_remove_from_folder_of r u m cost call x
after_is r u m cost call x at = ap (λ o. unwrap_or (option_map (after_remove_from_folder_of r u m cost call) o) r) at

pub keeps_removal : (r : Repository) (u : List ℕ) (m : Moment) (cost : ℕ) (call : RemoveFromFolder) → IsWellFormed r → refusal_remove_from_folder r u cost call ≡ Ok tt
    → IsWellFormed (after_remove_from_folder r u m cost call)
keeps_removal r u m cost call w h =
    let p = passes r u cost call h in
    let there : object_at r p.x.id ≡ Some p.x = addressed_there r u call.place p.x w.numbers p.at in
    subst IsWellFormed (sym (after_is r u m cost call p.x p.at))
    (removed_well r m cost p.x w p.room (leaf_of r p.x w there p.fileable p.no_folder) (option_map (folder_named r u) call.folder))

-- ---- the object after it

removed_objects : (r : Repository) (m : Moment) (cost : ℕ) (x : Object) (o : Option Oid) → (removed_by r m cost x o).objects ≡ r.objects
removed_objects r m cost x None = by_test (is_filed_anywhere r (entry_of x)) (λ e. ap (λ q. q.objects) (filed_yes r m cost x e)) (λ e. ap (λ q. q.objects) (filed_no r m cost x e))
removed_objects r m cost x (Some f) = refl

-- it is found under its number, as it was
pub removal_found : (r : Repository) (u : List ℕ) (m : Moment) (cost : ℕ) (call : RemoveFromFolder) (made : Repository) (x : Object) → HasNumbers r → addressed r u call.place ≡ Some x
    → made ≡ after_remove_from_folder r u m cost call → object_at made x.id ≡ Some x
removal_found r u m cost call made x w at e =
    ap (λ ys. find (λ y. same y.id x.id) ys) (ap (λ q. q.objects) (e ∙ after_is r u m cost call x at) ∙ removed_objects r m cost x (option_map (folder_named r u) call.folder))
    ∙ addressed_there r u call.place x w at
