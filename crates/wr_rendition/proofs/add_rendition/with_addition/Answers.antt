use Rattle.std.proofs.Common.{◌+◌, ◌<◌, ◌^◌, sym, subst, ◌∙◌}
use Rattle.wr_rendition.specs.AddRendition.{cost_add_rendition}
use Rattle.wr_rules.proofs.Room.{next_fits_of}
use Rattle.wr_rendition.proofs.Added.{fits, added_is, added_well, added_above}
use Rattle.wr_rendition.proofs.add_rendition.with_addition.Goals as goal

pub added-requires : goal.added-requires
added-requires c =
    let r = c.args.state.now in
    let u = c.args.user.now in
    let call = c.args.call.now in
    let x = c.args.x.now in
    let w = c.step-step.ensures.well in
    let enough = fits r u (cost_add_rendition call) call w c.requires.allowed in
    record {
      room = next_fits_of r w;
      above = added_above r call x c.in_ok-rendition.rendition w c.in_ok-rendition.ensures;
      step = enough.0;
      cost = subst (λ k. r.cost + k < 2 ^ 64) (sym c.weight_of_add_rendition.ensures) enough.1;
      well = added_well r u c.args.moment (cost_add_rendition call) c.weight_of_add_rendition.result call x c.in_ok-rendition.rendition w c.requires.found c.requires.allowed
          c.in_ok-rendition.ensures c.weight_of_add_rendition.ensures;
    }

pub returns : goal.returns
returns c =
    let call = c.args.call.now in
    c.in_ok-made.ensures
    ∙ added_is c.args.state.now c.args.user.now c.args.moment (cost_add_rendition call) c.weight_of_add_rendition.result call c.args.x.now c.in_ok-rendition.rendition c.requires.found
    c.in_ok-rendition.ensures c.weight_of_add_rendition.ensures
