-- addObjectToFolder keeps what is well formed.
use Rattle.std.specs.Prelude.{◌≡◌, ℕ, ◌+◌, ◌<◌, ◌^◌, true, false, not, List, Some, Ok, unwrap_or, option_map}
use Rattle.std.proofs.Common.{sym, ap, subst, ◌∙◌}
use Rattle.cm_base.specs.declared.number.Moment.{Moment}
use Rattle.cm_base.specs.declared.object.Object.{Object}
use Rattle.cm_base.specs.declared.cause.Cause.TheVariants as causes
use Rattle.cm_types.specs.declared.definition.BaseType.TheVariants as bases
use Rattle.call_parts.specs.declared.changes.AddToFolder.{AddToFolder}
use Rattle.cm_see.specs.Addressed.{addressed}
use Rattle.cmis_spec.specs.Repository.{Repository, root, object_at, is_a, entry_of, is_filed}
use Rattle.cmis_spec.specs.Access.{read_named, object_named}
use Rattle.cmis_spec.specs.Changes.{with_pair}
use Rattle.cmis_spec.specs.Well.{HasNumbers, IsWellFormed}
use Rattle.cmis_laws.proofs.Paired.{pair_keeps}
use Rattle.cmis_laws.proofs.Passed.{refused_not, then_ok, refuse_ok, find_ok, not_false}
use Rattle.cmis_laws.proofs.Steps.{HasRoom}
use Rattle.wr_rules.specs.Rules.{judge_storage}
use Rattle.wr_rules.proofs.Found.{addressed_there, read_there, named_there}
use Rattle.wr_rules.proofs.Room.{room_of, fits_of}
use Rattle.wr_filing.specs.Filing.{may_be_filed, folder_named, changed_by}
use Rattle.wr_filing.specs.AddToFolder.{lacks_either, judge_kinds, has_its_name, refusal_add_to_folder, after_add_to_folder_of, after_add_to_folder}
use Rattle.wr_filing.proofs.Entry.{leaf_of, change_keeps}

-- ---- what a refusal that is none tells

pub record Passes (r : Repository) (u : List ℕ) (cost : ℕ) (call : AddToFolder) : Type 0 where
  pub room : HasRoom r cost
  pub x : Object
  pub at : addressed r u call.place ≡ Some x
  pub folder : Object
  pub folder_at : read_named r u call.folder ≡ Some folder
  pub fileable : may_be_filed r x ≡ true
  pub goal : is_a r bases.Folder folder ≡ true
  pub no_folder : is_a r bases.Folder x ≡ false
  pub unfiled : is_filed r folder.id (entry_of x) ≡ false
  pub free : has_its_name r folder.id (entry_of x) ≡ false

pub passes : (r : Repository) (u : List ℕ) (cost : ℕ) (call : AddToFolder) → refusal_add_to_folder r u cost call ≡ Ok tt → Passes r u cost call
passes r u cost call h =
    let s = then_ok (judge_storage r cost) _ h in
    let a = find_ok causes.NotFound (addressed r u call.place) _ s.1 in
    let b = find_ok causes.NotFound (read_named r u call.folder) _ a.2 in
    let c = then_ok (judge_kinds r u a.0 b.0) _ b.2 in
    let d = refuse_ok causes.Denied (lacks_either r u a.0 b.0) _ c.0 in
    let e = refuse_ok causes.NotFileable (not (may_be_filed r a.0)) _ d.1 in
    let f = refuse_ok causes.WrongKind (not (is_a r bases.Folder b.0)) _ e.1 in
    let g = refuse_ok causes.OneParent (is_a r bases.Folder a.0) _ f.1 in
    let i = refuse_ok causes.AlreadyFiled (is_filed r b.0.id (entry_of a.0)) _ g.1 in
    record {
      room = room_of r cost s.0;
      x = a.0;
      at = a.1;
      folder = b.0;
      folder_at = b.1;
      fileable = not_false (may_be_filed r a.0) e.0;
      goal = not_false (is_a r bases.Folder b.0) f.0;
      no_folder = g.0;
      unfiled = i.0;
      free = refused_not causes.NameTaken (has_its_name r b.0.id (entry_of a.0)) c.1;
    }

-- one more step and its cost stay numbers of 64 bits
pub room_for : (r : Repository) (u : List ℕ) (cost : ℕ) (call : AddToFolder) → IsWellFormed r → refusal_add_to_folder r u cost call ≡ Ok tt → (r.step + 1 < 2 ^ 64) × (r.cost + cost < 2 ^ 64)
room_for r u cost call w h = fits_of r cost w (passes r u cost call h).room

-- ---- all

pub after_is : (r : Repository) (u : List ℕ) (m : Moment) (cost : ℕ) (call : AddToFolder) (x : Object) → addressed r u call.place ≡ Some x
    → after_add_to_folder r u m cost call ≡ after_add_to_folder_of r u m cost call x
after_is r u m cost call x at = ap (λ o. unwrap_or (option_map (after_add_to_folder_of r u m cost call) o) r) at

added_well : (r : Repository) (u : List ℕ) (m : Moment) (cost : ℕ) (call : AddToFolder) → IsWellFormed r → (p : Passes r u cost call) → IsWellFormed (changed_by (with_pair r p.folder.id (entry_of p.x)) p.x.id m cost)
added_well r u m cost call w p =
    let there : object_at r p.x.id ≡ Some p.x = addressed_there r u call.place p.x w.numbers p.at in
    change_keeps (with_pair r p.folder.id (entry_of p.x)) p.x.id m cost
    (pair_keeps r p.folder.id (entry_of p.x) w (record {
      below = (p.folder, named_there r call.folder p.folder (read_there r u (object_named r call.folder) p.folder p.folder_at).0, p.goal);
      leaf = leaf_of r p.x w there p.fileable p.no_folder;
      unfiled = p.unfiled;
      free = p.free;
    }))
    (record { steps = p.room.steps; bytes = p.room.bytes })

pub keeps_add : (r : Repository) (u : List ℕ) (m : Moment) (cost : ℕ) (call : AddToFolder) → IsWellFormed r → refusal_add_to_folder r u cost call ≡ Ok tt → IsWellFormed (after_add_to_folder r u m cost call)
keeps_add r u m cost call w h =
    let p = passes r u cost call h in
    let named : folder_named r u call.folder ≡ p.folder.id = ap (λ o. unwrap_or (option_map (λ (f : Object). f.id) o) root) p.folder_at in
    subst IsWellFormed (sym (after_is r u m cost call p.x p.at ∙ ap (λ f. changed_by (with_pair r f (entry_of p.x)) p.x.id m cost) named)) (added_well r u m cost call w p)

-- the object is found under its number, as it was
pub add_found : (r : Repository) (u : List ℕ) (m : Moment) (cost : ℕ) (call : AddToFolder) (made : Repository) (x : Object) → HasNumbers r → addressed r u call.place ≡ Some x
    → made ≡ after_add_to_folder r u m cost call → object_at made x.id ≡ Some x
add_found r u m cost call made x w at e = ap (λ q. object_at q x.id) (e ∙ after_is r u m cost call x at) ∙ addressed_there r u call.place x w at
