-- moveObject keeps what is well formed.
use Rattle.std.specs.Prelude.{◌≡◌, ℕ, ◌+◌, ◌<◌, ◌^◌, true, false, not, ◌||◌, if◌then◌else◌, List, find, Option, Some, None, Ok, Err, unwrap_or, option_map}
use Rattle.std.specs.List.{list_any}
use Rattle.std.proofs.Common.{refl, sym, ap, subst, ◌∙◌}
use Rattle.std.proofs.lemmas.Bool.{both_ways}
use Rattle.core.specs.Option.{ok_or}
use Rattle.cm_base.specs.declared.number.Oid.{Oid}
use Rattle.cm_base.specs.declared.number.Moment.{Moment}
use Rattle.cm_base.specs.declared.object.Object.{Object}
use Rattle.cm_base.specs.declared.cause.Cause.TheVariants as causes
use Rattle.cm_types.specs.declared.definition.BaseType.TheVariants as bases
use Rattle.call_parts.specs.declared.changes.MoveObject.{MoveObject}
use Rattle.cm_see.specs.Addressed.{addressed}
use Rattle.cmis_spec.specs.Repository.{Repository, same, root, object_at, is_a, entry_of, entry_name, is_filed, is_taken, is_under}
use Rattle.cmis_spec.specs.Access.{read_named, object_named}
use Rattle.cmis_spec.specs.Changes.{stepped, moved}
use Rattle.cmis_spec.specs.Well.{HasNumbers, IsBaseAt, IsWellFormed}
use Rattle.cmis_laws.proofs.Lists.{by_test}
use Rattle.cmis_laws.proofs.Moved.{IsMove, move_keeps}
use Rattle.cmis_laws.proofs.Passed.{refused_not, then_ok, refuse_ok, find_ok, not_false, or_right}
use Rattle.cmis_laws.proofs.Steps.{HasRoom, step_keeps}
use Rattle.wr_rules.specs.Rules.{judge_storage, bars_child}
use Rattle.wr_rules.proofs.Found.{addressed_there, read_there, named_there}
use Rattle.wr_rules.proofs.Room.{room_of, fits_of}
use Rattle.wr_filing.specs.Filing.{may_be_filed, folder_named, changed_by}
use Rattle.wr_filing.specs.MoveObject.{lacks_one, is_too_deep, judge_source, judge_target, judge_other_target, refusal_move, moved_to, after_move_of, after_move}
use Rattle.wr_filing.proofs.Entry.{entry_own, change_keeps}

-- ---- what a refusal that is none tells

pub record Passes (r : Repository) (u : List ℕ) (cost : ℕ) (call : MoveObject) : Type 0 where
  pub room : HasRoom r cost
  pub x : Object
  pub at : addressed r u call.place ≡ Some x
  pub source : Object
  pub source_at : read_named r u call.source ≡ Some source
  pub target : Object
  pub target_at : read_named r u call.target ≡ Some target
  pub goal : is_a r bases.Folder target ≡ true
  pub no_root : same x.id root ≡ false
  pub filed : is_filed r source.id (entry_of x) ≡ true
  pub placed : judge_other_target r x source target ≡ Ok tt

pub passes : (r : Repository) (u : List ℕ) (cost : ℕ) (call : MoveObject) → refusal_move r u cost call ≡ Ok tt → Passes r u cost call
passes r u cost call h =
    let s = then_ok (judge_storage r cost) _ h in
    let a = find_ok causes.NotFound (addressed r u call.place) _ s.1 in
    let b = find_ok causes.NotFound (read_named r u call.source) _ a.2 in
    let c = find_ok causes.NotFound (read_named r u call.target) _ b.2 in
    let d = then_ok (judge_source r u a.0 b.0 c.0) _ c.2 in
    let e = refuse_ok causes.Denied (lacks_one r u a.0 b.0 c.0) _ d.0 in
    let f = refuse_ok causes.NotFileable (not (may_be_filed r a.0)) _ e.1 in
    let g = refuse_ok causes.WrongKind (not (is_a r bases.Folder b.0) || not (is_a r bases.Folder c.0)) _ f.1 in
    let i = refuse_ok causes.RootFixed (same a.0.id root) _ g.1 in
    record {
      room = room_of r cost s.0;
      x = a.0;
      at = a.1;
      source = b.0;
      source_at = b.1;
      target = c.0;
      target_at = c.1;
      goal = not_false (is_a r bases.Folder c.0) (or_right (not (is_a r bases.Folder b.0)) (not (is_a r bases.Folder c.0)) g.0);
      no_root = i.0;
      filed = not_false (is_filed r b.0.id (entry_of a.0)) (refused_not causes.NotFiled (not (is_filed r b.0.id (entry_of a.0))) i.1);
      placed = d.1;
    }

-- what may be moved from its source is not the root, and stands there
pub source_ok : (r : Repository) (u : List ℕ) (x source target : Object) → judge_source r u x source target ≡ Ok tt → (same x.id root ≡ false) × (is_filed r source.id (entry_of x) ≡ true)
source_ok r u x source target h =
    let e = refuse_ok causes.Denied (lacks_one r u x source target) _ h in
    let f = refuse_ok causes.NotFileable (not (may_be_filed r x)) _ e.1 in
    let g = refuse_ok causes.WrongKind (not (is_a r bases.Folder source) || not (is_a r bases.Folder target)) _ f.1 in
    let i = refuse_ok causes.RootFixed (same x.id root) _ g.1 in
    (i.0, not_false (is_filed r source.id (entry_of x)) (refused_not causes.NotFiled (not (is_filed r source.id (entry_of x))) i.1))

-- what was looked for is there
pub some_of : {A E : Type 0} (o : Option A) (e : E) (x : A) → ok_or o e ≡ Ok x → o ≡ Some x
some_of None e x h = absurd (both_ways false refl (ap (λ j. elim j [ Ok y ↦ true | Err d ↦ false ]) h))
some_of (Some y) e x h = ap (λ j. elim j [ Ok z ↦ Some z | Err d ↦ Some y ]) h

-- one more step and its cost stay numbers of 64 bits
pub room_for : (r : Repository) (u : List ℕ) (cost : ℕ) (call : MoveObject) → IsWellFormed r → refusal_move r u cost call ≡ Ok tt → (r.step + 1 < 2 ^ 64) × (r.cost + cost < 2 ^ 64)
room_for r u cost call w h = fits_of r cost w (passes r u cost call h).room

-- ---- all

target_ok : (r : Repository) (x source target : Object) → same source.id target.id ≡ false → judge_other_target r x source target ≡ Ok tt → judge_target r x target ≡ Ok tt
target_ok r x source target other h = sym (ap (λ b. if b then Ok tt else judge_target r x target) other) ∙ h

is_move : (r : Repository) (x source target : Object) → object_at r x.id ≡ Some x → IsBaseAt r bases.Folder target.id → same x.id root ≡ false → is_filed r source.id (entry_of x) ≡ true
    → judge_target r x target ≡ Ok tt → (is_a r bases.Folder x ≡ true → entry_of x ≡ x.id) → IsMove r x source.id target.id
is_move r x source target there goal no_root filed h own =
    let a = refuse_ok causes.AlreadyFiled (is_filed r target.id (entry_of x)) _ h in
    let b = refuse_ok causes.ChildType (bars_child r target x.kind) _ a.1 in
    let c = refuse_ok causes.Below (is_under r target.id (entry_of x)) _ b.1 in
    let d = refuse_ok causes.Deep (list_any (is_too_deep r (entry_of x) target.id) r.objects) _ c.1 in
    record {
      there = there;
      goal = goal;
      no_root = no_root;
      filed = filed;
      unfiled = a.0;
      below = λ f. subst (λ n. is_under r target.id n ≡ false) (own f) c.0;
      deep = λ f. subst (λ n. list_any (is_too_deep r n target.id) r.objects ≡ false) (own f) d.0;
      free = refused_not causes.NameTaken (is_taken r target.id (entry_of x) (entry_name r (entry_of x))) d.1;
    }

same_folder : (r : Repository) (m : Moment) (cost : ℕ) (x : Object) (s t : Oid) → same s t ≡ true → moved_to r m cost x s t ≡ stepped r cost
same_folder r m cost x s t e = ap (λ b. if b then stepped r cost else changed_by (moved r (entry_of x) s t) x.id m cost) e

other_folder : (r : Repository) (m : Moment) (cost : ℕ) (x : Object) (s t : Oid) → same s t ≡ false → moved_to r m cost x s t ≡ changed_by (moved r (entry_of x) s t) x.id m cost
other_folder r m cost x s t e = ap (λ b. if b then stepped r cost else changed_by (moved r (entry_of x) s t) x.id m cost) e

-- the folders are those that are found
named_is : (r : Repository) (u : List ℕ) (id : List ℕ) (f : Object) → read_named r u id ≡ Some f → folder_named r u id ≡ f.id
named_is r u id f h = ap (λ o. unwrap_or (option_map (λ (f : Object). f.id) o) root) h

pub after_is : (r : Repository) (u : List ℕ) (m : Moment) (cost : ℕ) (call : MoveObject) (x : Object) → addressed r u call.place ≡ Some x → after_move r u m cost call ≡ after_move_of r u m cost call x
after_is r u m cost call x at = ap (λ o. unwrap_or (option_map (after_move_of r u m cost call) o) r) at

moved_well : (r : Repository) (u : List ℕ) (m : Moment) (cost : ℕ) (call : MoveObject) → IsWellFormed r → (p : Passes r u cost call) → IsWellFormed (moved_to r m cost p.x p.source.id p.target.id)
moved_well r u m cost call w p = by_test (same p.source.id p.target.id)
    (λ e. subst IsWellFormed (sym (same_folder r m cost p.x p.source.id p.target.id e)) (step_keeps r cost w p.room))
    (λ e. subst IsWellFormed (sym (other_folder r m cost p.x p.source.id p.target.id e))
    (change_keeps (moved r (entry_of p.x) p.source.id p.target.id) p.x.id m cost
    (move_keeps r p.x p.source.id p.target.id w (is_move r p.x p.source p.target there goal p.no_root p.filed (target_ok r p.x p.source p.target e p.placed) own))
    (record { steps = p.room.steps; bytes = p.room.bytes })))
  where
    there : object_at r p.x.id ≡ Some p.x
    there = addressed_there r u call.place p.x w.numbers p.at

    goal : IsBaseAt r bases.Folder p.target.id
    goal = (p.target, named_there r call.target p.target (read_there r u (object_named r call.target) p.target p.target_at).0, p.goal)

    own : is_a r bases.Folder p.x ≡ true → entry_of p.x ≡ p.x.id
    own = entry_own r p.x w there

pub keeps_move : (r : Repository) (u : List ℕ) (m : Moment) (cost : ℕ) (call : MoveObject) → IsWellFormed r → refusal_move r u cost call ≡ Ok tt → IsWellFormed (after_move r u m cost call)
keeps_move r u m cost call w h =
    let p = passes r u cost call h in
    subst IsWellFormed (sym (after_is r u m cost call p.x p.at ∙ (λ i. moved_to r m cost p.x (named_is r u call.source p.source p.source_at i) (named_is r u call.target p.target p.target_at i)))) (moved_well r u m cost call w p)

-- ---- the object after it

moved_objects : (r : Repository) (m : Moment) (cost : ℕ) (x : Object) (s t : Oid) → (moved_to r m cost x s t).objects ≡ r.objects
moved_objects r m cost x s t = by_test (same s t) (λ e. ap (λ q. q.objects) (same_folder r m cost x s t e)) (λ e. ap (λ q. q.objects) (other_folder r m cost x s t e))

-- it is found under its number, as it was
pub move_found : (r : Repository) (u : List ℕ) (m : Moment) (cost : ℕ) (call : MoveObject) (made : Repository) (x : Object) → HasNumbers r → addressed r u call.place ≡ Some x
    → made ≡ after_move r u m cost call → object_at made x.id ≡ Some x
move_found r u m cost call made x w at e =
    ap (λ ys. find (λ y. same y.id x.id) ys) (ap (λ q. q.objects) (e ∙ after_is r u m cost call x at) ∙ moved_objects r m cost x (folder_named r u call.source) (folder_named r u call.target))
    ∙ addressed_there r u call.place x w at
