-- createItem keeps what is well formed.
use Rattle.std.specs.Prelude.{◌≡◌, ℕ, true, false, ◌||◌, List, Option, Some, None, Ok, option_and_then}
use Rattle.std.proofs.Common.{refl, sym, subst, inr}
use Rattle.std.proofs.lemmas.Bool.{both_ways}
use Rattle.cm_base.specs.declared.number.Moment.{Moment}
use Rattle.cm_base.specs.declared.object.Object.{Object}
use Rattle.cm_base.specs.declared.cause.Cause.TheVariants as causes
use Rattle.cm_base.specs.Judged.{first_cause}
use Rattle.cm_types.specs.declared.definition.BaseType.TheVariants as bases
use Rattle.cm_types.specs.Types.{type_in}
use Rattle.call_parts.specs.declared.place.Place.{Place}
use Rattle.create_parts.specs.declared.writes.CreateItem.{CreateItem}
use Rattle.cm_see.specs.Addressed.{addressed}
use Rattle.cmis_spec.specs.Repository.{Repository, object_at, is_a}
use Rattle.cmis_spec.specs.Well.{Apart, ComesBefore, HasNumbers, IsWellFormed}
use Rattle.cmis_laws.proofs.Lists.{none_some}
use Rattle.cmis_laws.proofs.Entries.{not_both}
use Rattle.cmis_laws.proofs.Made.{IsMade, made_keeps, made_in_keeps}
use Rattle.cmis_laws.proofs.Passed.{then_ok, refuse_ok, refused_not, find_ok, not_false, or_left, or_right}
use Rattle.wr_rules.specs.Rules.{judge_storage, unknown_type, unread_cause, has_other_policy, policies_in, new_aces}
use Rattle.wr_rules.proofs.Found.{addressed_there}
use Rattle.wr_rules.proofs.Room.{room_of}
use Rattle.wr_rules.specs.Wanted.{wanted_in}
use Rattle.wr_object.specs.CreateDocument.{folder_at, may_not_make, is_no_folder, is_name_taken, number_of}
use Rattle.wr_object.proofs.CreatedDocument.{bind_ok, folder_is}
use Rattle.wr_create.specs.Making.{judge_type, judge_request, new_object, made_by, after_making}
use Rattle.wr_create.specs.CreateItem.{judge_place, refusal_create_item, after_create_item}
use Rattle.wr_create.proofs.Made.{IsMaking, base_is, is_made}
use Rattle.wr_create.proofs.Lines.{type_ok, request_ok}

-- what a refusal that is none tells
pub record Passes (r : Repository) (u : List ℕ) (cost : ℕ) (call : CreateItem) : Type 0 where
  pub folder : Option Object
  pub at : folder ≡ option_and_then (addressed r u) call.place
  pub below : is_no_folder r folder ≡ false
  pub free : is_name_taken r folder (wanted_in r.types call.object.properties).name ≡ false
  pub made : IsMaking r u cost bases.Item call.object call.object.properties

pub passes : (r : Repository) (u : List ℕ) (cost : ℕ) (call : CreateItem) → refusal_create_item r u cost call ≡ Ok tt → Passes r u cost call
passes r u cost call h =
    let given = call.object.properties in
    let wanted = wanted_in r.types given in
    let s = then_ok (judge_storage r cost) _ h in
    let a = bind_ok (folder_at r u call.place) _ s.1 in
    let p = then_ok (first_cause (unread_cause r u) call.object.policies) _ a.2 in
    let b = find_ok causes.TypeNotFound (type_in r.types wanted.kind) _ p.1 in
    let t = then_ok (first_cause (unknown_type r.types) wanted.secondary) _ b.2 in
    let c = refuse_ok causes.Denied (may_not_make r u a.0) _ t.1 in
    let d = refuse_ok causes.WrongKind (is_no_folder r a.0 || has_other_policy r u call.object.policies) _ c.1 in
    let e = then_ok (judge_type r.types bases.Item wanted b.0) _ d.1 in
    let f = then_ok (judge_place r call a.0 b.0) _ e.1 in
    let g = then_ok (judge_request wanted call.object given) _ f.1 in
    record {
      folder = a.0;
      at = folder_is r u call.place a.0 a.1;
      below = or_left (is_no_folder r a.0) (has_other_policy r u call.object.policies) d.0;
      free = refused_not causes.NameTaken (is_name_taken r a.0 wanted.name) g.1;
      made = record {
        room = room_of r cost s.0;
        kind = b.0;
        def = b.1;
        fits = type_ok r.types bases.Item wanted b.0 e.0;
        properties = request_ok wanted call.object given g.0;
        policies = or_right (is_no_folder r a.0) (has_other_policy r u call.object.policies) d.0;
      };
    }

folder_there : (r : Repository) (u : List ℕ) (place : Option Place) (f : Object) → HasNumbers r → option_and_then (addressed r u) place ≡ Some f → object_at r f.id ≡ Some f
folder_there r u None f w h = absurd (none_some f h)
folder_there r u (Some place) f w h = addressed_there r u place f w h

module _ (r : Repository) (u : List ℕ) (m : Moment) (cost : ℕ) (call : CreateItem) (w : IsWellFormed r) (p : IsMaking r u cost bases.Item call.object call.object.properties)
    (ordered : Apart ComesBefore (new_aces u call.object.remove call.object.add)) where
  abbrev x : Object
  x = new_object r u m call.object.properties

  item : is_a r bases.Item x ≡ true
  item = base_is r u m cost bases.Item call.object call.object.properties w p

  no_folder : is_a r bases.Folder x ≡ false
  no_folder = not_both r x bases.Item bases.Folder refl item

  made : IsMade r cost x (new_aces u call.object.remove call.object.add) (policies_in r u call.object.policies)
  made = is_made r u m cost bases.Item call.object call.object.properties w p (not_both r x bases.Item bases.Document refl item)
      (λ e. absurd (both_ways (is_a r bases.Relationship x) (not_both r x bases.Item bases.Relationship refl item) e)) ordered

  -- in no folder, or in one
  placed : (o : Option Object) → o ≡ option_and_then (addressed r u) call.place → is_no_folder r o ≡ false → is_name_taken r o (wanted_in r.types call.object.properties).name ≡ false
      → IsWellFormed (after_making r cost (made_by r u m call.object call.object.properties (number_of o)))
  placed None at below free = made_keeps r cost m x (new_aces u call.object.remove call.object.add) (policies_in r u call.object.policies) w made no_folder
  placed (Some f) at below free = made_in_keeps r cost m f.id x (new_aces u call.object.remove call.object.add) (policies_in r u call.object.policies) w made
      (record {
        below = (f, folder_there r u call.place f w.numbers (sym at), not_false (is_a r bases.Folder f) below);
        name = (wanted_in r.types call.object.properties).name;
        named = refl;
        free = free;
      })
      (inr item) (λ e. absurd (both_ways (is_a r bases.Folder x) no_folder e))

pub keeps_create_item : (r : Repository) (u : List ℕ) (m : Moment) (cost : ℕ) (call : CreateItem) → IsWellFormed r → refusal_create_item r u cost call ≡ Ok tt
    → Apart ComesBefore (new_aces u call.object.remove call.object.add) → IsWellFormed (after_create_item r u m cost call)
keeps_create_item r u m cost call w h ordered =
    let p = passes r u cost call h in
    subst (λ o. IsWellFormed (after_making r cost (made_by r u m call.object call.object.properties (number_of o)))) p.at
    (placed r u m cost call w p.made ordered p.folder p.at p.below p.free)
