use Rattle.std.proofs.Common.{◌≡◌, Ok, refl, sym, ap, subst, ◌∙◌}
use Rattle.wr_object.specs.CreateDocument.{refusal_of_document, after_create_document}
use Rattle.wr_object.proofs.MadeDocument.{room_of, parts_are, made_is_found}
use Rattle.wr_object.proofs.create_document.document_created.Goals as goal

pub new_parts-requires : goal.new_parts-requires
new_parts-requires c =
    let r = c.args.state.now in
    let u = c.args.user.now in
    let call = c.args.call.now in
    let allowed = subst (λ w. refusal_of_document r u c.cost_of-cost.result call w ≡ Ok tt) c.in_ok-wanted.ensures c.in_ok-allowed.ensures.0 in
    record { room = (room_of r u c.cost_of-cost.result call c.step-step.ensures.well allowed).step }

pub with_new-requires : goal.with_new-requires
with_new-requires c =
    let r = c.args.state.now in
    let u = c.args.user.now in
    let call = c.args.call.now in
    record {
      allowed = subst (λ w. refusal_of_document r u c.cost_of-cost.result call w ≡ Ok tt) c.in_ok-wanted.ensures c.in_ok-allowed.ensures.0;
      new = c.in_ok-new.ensures ∙ parts_are r u c.args.moment call c.in_ok-wanted.wanted c.in_ok-allowed.allowed c.in_ok-wanted.ensures c.in_ok-allowed.ensures.1;
    }

pub returns-clause-created : goal.returns-clause-created
returns-clause-created c =
    let r = c.args.state.now in
    let u = c.args.user.now in
    let m = c.args.moment in
    let call = c.args.call.now in (
      (λ i. refusal_of_document r u (sym c.cost_of-cost.ensures i) call (sym c.in_ok-wanted.ensures i)) ∙ c.in_ok-allowed.ensures.0,
      c.in_ok-made.ensures ∙ ap (λ k. after_create_document r u m k call) c.cost_of-cost.ensures,
    )

pub returns-clause-there : goal.returns-clause-there
returns-clause-there c =
    let r = c.args.state.now in
    made_is_found r c.args.user.now c.args.moment c.cost_of-cost.result c.args.call.now c.in_ok-made.made r.next c.step-step.ensures.well.numbers c.in_ok-made.ensures refl
