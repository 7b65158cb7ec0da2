use Rattle.std.proofs.Common.{ap, ◌∙◌}
use Rattle.std.specs.Prelude.{is_some}
use Rattle.wr_content.specs.Changed.{changed_by}
use Rattle.wr_content.specs.Document.{document_at, changed_reply}
use Rattle.wr_content.specs.SetContent.{cost_set_content}
use Rattle.wr_content.proofs.SetContent.{set_found}
use Rattle.wr_content.proofs.set_content.set_content.Goals as goal

pub with_changed-requires : goal.with_changed-requires
with_changed-requires c = record {
  there = ap is_some (set_found c.args.state.now c.args.user.now c.args.moment (cost_set_content c.args.call.now) c.args.call.now c.in_ok-made.made c.in_ok-x.x.now c.step-step.ensures.well.numbers
      c.in_ok-x.ensures.1 c.in_ok-made.ensures);
}

pub returns-clause-written : goal.returns-clause-written
returns-clause-written c =
    let r = c.args.state.now in
    let u = c.args.user.now in
    let m = c.args.moment in
    let call = c.args.call.now in
    let shown = changed_by r u m (document_at r u m call.place) in
    let there = set_found r u m (cost_set_content call) call c.in_ok-made.made c.in_ok-x.x.now c.step-step.ensures.well.numbers c.in_ok-x.ensures.1 c.in_ok-made.ensures in (
      c.in_ok-x.ensures.0,
      c.in_ok-next.ensures.same ∙ c.in_ok-made.ensures,
      c.in_ok-next.ensures.shown shown there ∙ ap (λ s. changed_reply s u call.succinct shown) c.in_ok-made.ensures,
    )
