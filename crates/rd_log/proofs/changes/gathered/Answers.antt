use Rattle.std.proofs.Common.{◌∙◌, ◌-◌, ◌≤◌, arith, sym, ap}
use Rattle.rd_log.specs.ReadChanges.{changes_reply}
use Rattle.rd_log.proofs.Fronts.{none_before}
use Rattle.rd_log.proofs.changes.gathered.Goals as goal

pub loop-before-init : goal.loop-before-init
loop-before-init c =
    let r = c.args.state.now in
    let q = c.args.q.now in
    let low : c.min-first.result ≤ q.token - 1 = omega (arith, c.min-first.ensures, c.saturating_sub.ensures) in
    c.without_events-reply.ensures ∙ ap (changes_reply q) (sym (none_before r c.args.user.now q.token c.min-first.result low))
