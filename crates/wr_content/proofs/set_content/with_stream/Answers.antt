use Rattle.std.proofs.Common.{◌≡◌, ◌+◌, ◌<◌, ◌^◌, true, sym, ap, subst, ◌∙◌}
use Rattle.std.specs.Prelude.{is_some}
use Rattle.cmis_spec.specs.Repository.{object_at}
use Rattle.wr_rules.proofs.Found.{addressed_there}
use Rattle.wr_content.specs.SetContent.{cost_set_content}
use Rattle.wr_content.proofs.SetContent.{set_passes, set_is, set_well}
use Rattle.wr_content.proofs.set_content.with_stream.Goals as goal

pub changed_by-requires : goal.changed_by-requires
changed_by-requires c = record { room = (set_passes c.args.state.now c.args.user.now c.args.moment (cost_set_content c.args.call.now) c.args.call.now c.args.x.now c.step-step.ensures.well c.requires.found c.requires.allowed).step }

pub content_set-requires : goal.content_set-requires
content_set-requires c = record { room = (set_passes c.args.state.now c.args.user.now c.args.moment (cost_set_content c.args.call.now) c.args.call.now c.args.x.now c.step-step.ensures.well c.requires.found c.requires.allowed).step }

pub filled-requires : goal.filled-requires
filled-requires c =
    let r = c.args.state.now in
    let u = c.args.user.now in
    let call = c.args.call.now in
    let w = c.step-step.ensures.well in
    let p = set_passes r u c.args.moment (cost_set_content call) call c.args.x.now c.step-step.ensures.well c.requires.found c.requires.allowed in
    record {
      there = subst (λ n. is_some (object_at r n) ≡ true) (sym (ap (λ y. y.id) c.in_ok-changed.ensures)) (ap is_some (addressed_there r u call.place c.args.x.now w.numbers c.requires.found));
      step = p.step;
      cost = subst (λ k. r.cost + k < 2 ^ 64) (sym c.weight_of_set_content.ensures) p.bytes;
      well = set_well r u c.args.moment (cost_set_content call) c.weight_of_set_content.result call c.args.x.now c.in_ok-changed.changed c.in_ok-content.content w c.requires.found c.requires.allowed
          c.in_ok-changed.ensures c.in_ok-content.ensures c.weight_of_set_content.ensures;
    }

pub returns : goal.returns
returns c =
    let call = c.args.call.now in
    c.in_ok-made.ensures
    ∙ set_is c.args.state.now c.args.user.now c.args.moment (cost_set_content call) c.weight_of_set_content.result call c.args.x.now c.in_ok-changed.changed c.in_ok-content.content c.requires.found
    c.in_ok-changed.ensures c.in_ok-content.ensures c.weight_of_set_content.ensures
