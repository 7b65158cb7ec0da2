use Rattle.std.proofs.Common.{◌≡◌, Ok, sym, ap, subst, ◌∙◌}
use Rattle.std.specs.Prelude.{option_and_then}
use Rattle.cm_see.specs.Addressed.{addressed}
use Rattle.wr_object.specs.CreateDocument.{number_of}
use Rattle.cmis_spec.specs.Well.{Apart, ComesBefore, IsWellFormed}
use Rattle.wr_create.specs.Making.{after_making, reply_of_making}
use Rattle.wr_create.specs.CreateItem.{refusal_of_item, refusal_create_item}
use Rattle.wr_create.proofs.Made.{numbers_left, object_is, made_is}
use Rattle.wr_create.proofs.Items.{passes, keeps_create_item}
use Rattle.wr_create.proofs.create_item.create_item.Goals as goal

pub new_object-requires : goal.new_object-requires
new_object-requires c =
    let r = c.args.state.now in
    let u = c.args.user.now in
    let call = c.args.call.now in
    let allowed = subst (λ w. refusal_of_item r u c.cost_of-cost.result call w ≡ Ok tt) c.in_ok-wanted.ensures c.in_ok-folder.ensures.0 in
    record { room = (numbers_left r c.cost_of-cost.result c.step-step.ensures.well (passes r u c.cost_of-cost.result call allowed).made.room).step }

pub made_with_reply-requires : goal.made_with_reply-requires
made_with_reply-requires c =
    let r = c.args.state.now in
    let u = c.args.user.now in
    let call = c.args.call.now in
    let allowed = subst (λ w. refusal_of_item r u c.cost_of-cost.result call w ≡ Ok tt) c.in_ok-wanted.ensures c.in_ok-folder.ensures.0 in
    let given = call.object.properties in
    let made = made_is r u c.args.moment call.object given c.in_ok-new.new c.in_ok-object.object c.in_ok-folder.folder (number_of (option_and_then (addressed r u) call.place)) c.in_ok-new.ensures.new
    (c.in_ok-object.ensures ∙ object_is r u c.args.moment given c.in_ok-wanted.wanted c.in_ok-folder.values c.in_ok-wanted.ensures c.in_ok-folder.ensures.2) c.in_ok-folder.ensures.1 in
    let cost = c.cost_of-cost.result in
    let w = c.step-step.ensures.well in
    let left = numbers_left r cost w (passes r u cost call allowed).made.room in
    record {
      number = ap (λ n. n.object.id) made;
      next = left.next;
      step = left.step;
      cost = left.paid;
      well = subst (λ n. IsWellFormed (after_making r cost n)) (sym made)
          (keeps_create_item r u c.args.moment cost call w allowed (subst (Apart ComesBefore) (ap (λ n. n.aces) made) c.in_ok-new.ensures.ordered));
    }

pub returns-clause-written : goal.returns-clause-written
returns-clause-written c =
    let r = c.args.state.now in
    let u = c.args.user.now in
    let call = c.args.call.now in
    let allowed = subst (λ w. refusal_of_item r u c.cost_of-cost.result call w ≡ Ok tt) c.in_ok-wanted.ensures c.in_ok-folder.ensures.0 in
    let given = call.object.properties in
    let made = made_is r u c.args.moment call.object given c.in_ok-new.new c.in_ok-object.object c.in_ok-folder.folder (number_of (option_and_then (addressed r u) call.place)) c.in_ok-new.ensures.new
    (c.in_ok-object.ensures ∙ object_is r u c.args.moment given c.in_ok-wanted.wanted c.in_ok-folder.values c.in_ok-wanted.ensures c.in_ok-folder.ensures.2) c.in_ok-folder.ensures.1 in
    let cost = c.cost_of-cost.ensures in (
      subst (λ k. refusal_create_item r u k call ≡ Ok tt) cost allowed,
      c.in_ok-next.ensures.made ∙ (λ i. after_making r (cost i) (made i)),
      c.in_ok-next.ensures.shown ∙ (λ i. reply_of_making r (cost i) u call.succinct (made i)),
    )
