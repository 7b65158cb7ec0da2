use Rattle.std.proofs.Common.{sym, ap, ◌∙◌}
use Rattle.std.specs.Prelude.{Some, None, if◌then◌else◌, option_map}
use Rattle.cm_base.specs.declared.object.Object.{Object}
use Rattle.cm_see.specs.Addressed.{addressed}
use Rattle.wr_change.specs.Update.{changed_in}
use Rattle.wr_bulk.specs.BulkUpdate.{changed, is_refused}
use Rattle.wr_bulk.proofs.each.changed.Goals as goal

pub changed_in-requires : goal.changed_in-requires
changed_in-requires c =
    let p = rw c.in-Some.is at c.in_ok-found.ensures.judged in
    record {
      right = rw c.in-Some.is at c.in_ok-found.ensures.right;
      values = p.2;
    }

pub returns-in-None : goal.returns-in-None
unfolding changed
returns-in-None c =
    let h = rw c.in-None.is at c.in_ok-found.ensures.judged in
    sym (ap (λ b. if b then None else option_map (λ (x : Object). (changed_in c.args.state.now c.args.user.now c.args.moment c.args.call.now x, x.id)) (addressed c.args.state.now c.args.user.now c.args.call.now.place)) h)

pub returns-in_ok-made-in-Some : goal.returns-in_ok-made-in-Some
unfolding changed
returns-in_ok-made-in-Some c =
    let r = c.args.state.now in
    let u = c.args.user.now in
    let m = c.args.moment in
    let call = c.args.call.now in
    let p = rw c.in-Some.is at c.in_ok-found.ensures.judged in
    (λ i. Some (c.in_ok-made-in-Some.ensures i, c.in-Some.x.now.id))
    ∙ sym ((λ i. if is_refused (p.0 i) then None else option_map (λ (x : Object). (changed_in r u m call x, x.id)) (p.1 i)))
