use Rattle.std.proofs.Common.{◌≡◌, Ok, sym, ap, subst, ◌∙◌}
use Rattle.std.specs.Prelude.{[]}
use Rattle.cm_types.specs.declared.given.PropertyCall.TheVariants as calls
use Rattle.cmis_spec.specs.Values.{values_kept}
use Rattle.cmis_spec.specs.Repository.{object_at, new_number}
use Rattle.wr_object.specs.CreateFolder.{refusal_of_folder, object_of, after_create_folder}
use Rattle.wr_object.proofs.Made.{room_of, new_is_there}
use Rattle.wr_object.proofs.create_folder.folder_created.Goals as goal

pub new_object-requires : goal.new_object-requires
new_object-requires c =
    let r = c.args.state.now in
    let u = c.args.user.now in
    let call = c.args.call.now in
    let allowed = subst (λ w. refusal_of_folder r u c.cost_of-cost.result call w ≡ Ok tt) c.in_ok-wanted.ensures c.in_ok-parent.ensures.0 in
    record { room = (room_of r u c.args.moment c.cost_of-cost.result call c.step-step.ensures.well allowed).step }

pub with_folder-requires : goal.with_folder-requires
with_folder-requires c =
    let r = c.args.state.now in
    let u = c.args.user.now in
    let call = c.args.call.now in
    let wanted = c.in_ok-wanted.ensures in
    let values = c.in_ok-parent.ensures.2 ∙ ap (λ w. values_kept calls.Create w.defs [] call.properties) wanted in
    record {
      allowed = subst (λ w. refusal_of_folder r u c.cost_of-cost.result call w ≡ Ok tt) wanted c.in_ok-parent.ensures.0;
      object = c.in_ok-object.ensures ∙ (λ i. object_of r u c.args.moment (wanted i) (values i));
      parent = c.in_ok-parent.ensures.1;
    }

pub returns-clause-created : goal.returns-clause-created
returns-clause-created c =
    let r = c.args.state.now in
    let u = c.args.user.now in
    let m = c.args.moment in
    let call = c.args.call.now in (
      (λ i. refusal_of_folder r u (sym c.cost_of-cost.ensures i) call (sym c.in_ok-wanted.ensures i)) ∙ c.in_ok-parent.ensures.0,
      c.in_ok-made.ensures ∙ ap (λ k. after_create_folder r u m k call) c.cost_of-cost.ensures,
    )

pub returns-clause-there : goal.returns-clause-there
returns-clause-there c =
    let r = c.args.state.now in
    ap (λ s. object_at s (new_number r)) c.in_ok-made.ensures
    ∙ new_is_there r c.args.user.now c.args.moment c.cost_of-cost.result c.args.call.now c.step-step.ensures.well.numbers
