use Rattle.std.proofs.Common.{◌≡◌, Ok, refl, sym, ap, subst, ◌∙◌}
use Rattle.std.specs.Prelude.{None}
use Rattle.cmis_spec.specs.Well.{Apart, ComesBefore, IsWellFormed}
use Rattle.wr_rules.specs.Wanted.{wanted_in}
use Rattle.wr_create.specs.Making.{after_making, reply_of_making}
use Rattle.wr_create.proofs.Made.{numbers_left, object_is, made_is}
use Rattle.wr_relationship.specs.CreateRelationship.{refusal_of_relationship, refusal_create_relationship, relationship_of}
use Rattle.wr_relationship.proofs.Relationships.{passes, relationship_keeps}
use Rattle.wr_relationship.proofs.create_relationship.create_named.Goals as goal

pub new_object-requires : goal.new_object-requires
new_object-requires c =
    let r = c.args.state.now in
    let u = c.args.user.now in
    let named = c.args.named.now in
    let judged = subst (λ w. refusal_of_relationship r u c.cost_of-cost.result named w ≡ Ok tt) c.in_ok-wanted.ensures c.in_ok-values.ensures.0 in
    record { room = (numbers_left r c.cost_of-cost.result c.step-step.ensures.well (passes r u c.cost_of-cost.result named judged).made.room).step }

pub made_with_reply-requires : goal.made_with_reply-requires
made_with_reply-requires c =
    let r = c.args.state.now in
    let u = c.args.user.now in
    let named = c.args.named.now in
    let judged = subst (λ w. refusal_of_relationship r u c.cost_of-cost.result named w ≡ Ok tt) c.in_ok-wanted.ensures c.in_ok-values.ensures.0 in
    let given = named.object.properties in
    let made = made_is r u c.args.moment named.object given c.in_ok-new.new c.in_ok-object.object None None c.in_ok-new.ensures.new
    (c.in_ok-object.ensures ∙ object_is r u c.args.moment given c.in_ok-wanted.wanted c.in_ok-values.values c.in_ok-wanted.ensures c.in_ok-values.ensures.1) refl in
    let cost = c.cost_of-cost.result in
    let w = c.step-step.ensures.well in
    let p = passes r u cost named judged in
    let left = numbers_left r cost w p.made.room in
    record {
      number = ap (λ n. n.object.id) made;
      next = left.next;
      step = left.step;
      cost = left.paid;
      well = subst (λ n. IsWellFormed (after_making r cost n)) (sym made)
          (relationship_keeps r u c.args.moment cost named w p (subst (Apart ComesBefore) (ap (λ n. n.aces) made) c.in_ok-new.ensures.ordered));
    }

pub returns-clause-written : goal.returns-clause-written
returns-clause-written c =
    let r = c.args.state.now in
    let u = c.args.user.now in
    let named = c.args.named.now in
    let judged = subst (λ w. refusal_of_relationship r u c.cost_of-cost.result named w ≡ Ok tt) c.in_ok-wanted.ensures c.in_ok-values.ensures.0 in
    let given = named.object.properties in
    let made = made_is r u c.args.moment named.object given c.in_ok-new.new c.in_ok-object.object None None c.in_ok-new.ensures.new
    (c.in_ok-object.ensures ∙ object_is r u c.args.moment given c.in_ok-wanted.wanted c.in_ok-values.values c.in_ok-wanted.ensures c.in_ok-values.ensures.1) refl in
    let call = c.args.call.now in
    let cost = c.cost_of-cost.ensures in
    let new = made ∙ ap (relationship_of r u c.args.moment) c.requires.named in (
      subst (λ k. refusal_create_relationship r u k call ≡ Ok tt) cost
          (subst (λ n. refusal_of_relationship r u c.cost_of-cost.result n (wanted_in r.types n.object.properties) ≡ Ok tt) c.requires.named judged),
      c.in_ok-next.ensures.made ∙ (λ i. after_making r (cost i) (new i)),
      c.in_ok-next.ensures.shown ∙ (λ i. reply_of_making r (cost i) u call.succinct (new i)),
    )
