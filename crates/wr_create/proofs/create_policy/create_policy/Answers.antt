use Rattle.std.proofs.Common.{◌≡◌, Ok, refl, sym, ap, subst, ◌∙◌}
use Rattle.std.specs.Prelude.{None}
use Rattle.cmis_spec.specs.Well.{Apart, ComesBefore, IsWellFormed}
use Rattle.wr_create.specs.Making.{after_making, reply_of_making}
use Rattle.wr_create.specs.CreatePolicy.{refusal_of_policy, refusal_create_policy}
use Rattle.wr_create.proofs.Made.{numbers_left, object_is, made_is}
use Rattle.wr_create.proofs.Policies.{passes, keeps_create_policy}
use Rattle.wr_create.proofs.create_policy.create_policy.Goals as goal

pub new_object-requires : goal.new_object-requires
new_object-requires c =
    let r = c.args.state.now in
    let u = c.args.user.now in
    let call = c.args.call.now in
    let allowed = subst (λ w. refusal_of_policy r u c.cost_of-cost.result call w ≡ Ok tt) c.in_ok-wanted.ensures c.in_ok-values.ensures.0 in
    record { room = (numbers_left r c.cost_of-cost.result c.step-step.ensures.well (passes r u c.cost_of-cost.result call allowed).room).step }

pub made_with_reply-requires : goal.made_with_reply-requires
made_with_reply-requires c =
    let r = c.args.state.now in
    let u = c.args.user.now in
    let call = c.args.call.now in
    let allowed = subst (λ w. refusal_of_policy r u c.cost_of-cost.result call w ≡ Ok tt) c.in_ok-wanted.ensures c.in_ok-values.ensures.0 in
    let given = call.object.properties in
    let made = made_is r u c.args.moment call.object given c.in_ok-new.new c.in_ok-object.object None None c.in_ok-new.ensures.new
    (c.in_ok-object.ensures ∙ object_is r u c.args.moment given c.in_ok-wanted.wanted c.in_ok-values.values c.in_ok-wanted.ensures c.in_ok-values.ensures.1) refl in
    let cost = c.cost_of-cost.result in
    let w = c.step-step.ensures.well in
    let left = numbers_left r cost w (passes r u cost call allowed).room in
    record {
      number = ap (λ n. n.object.id) made;
      next = left.next;
      step = left.step;
      cost = left.paid;
      well = subst (λ n. IsWellFormed (after_making r cost n)) (sym made)
          (keeps_create_policy r u c.args.moment cost call w allowed (subst (Apart ComesBefore) (ap (λ n. n.aces) made) c.in_ok-new.ensures.ordered));
    }

pub returns-clause-written : goal.returns-clause-written
returns-clause-written c =
    let r = c.args.state.now in
    let u = c.args.user.now in
    let call = c.args.call.now in
    let allowed = subst (λ w. refusal_of_policy r u c.cost_of-cost.result call w ≡ Ok tt) c.in_ok-wanted.ensures c.in_ok-values.ensures.0 in
    let given = call.object.properties in
    let made = made_is r u c.args.moment call.object given c.in_ok-new.new c.in_ok-object.object None None c.in_ok-new.ensures.new
    (c.in_ok-object.ensures ∙ object_is r u c.args.moment given c.in_ok-wanted.wanted c.in_ok-values.values c.in_ok-wanted.ensures c.in_ok-values.ensures.1) refl in
    let cost = c.cost_of-cost.ensures in (
      subst (λ k. refusal_create_policy r u k call ≡ Ok tt) cost allowed,
      c.in_ok-next.ensures.made ∙ (λ i. after_making r (cost i) (made i)),
      c.in_ok-next.ensures.shown ∙ (λ i. reply_of_making r (cost i) u call.succinct (made i)),
    )
