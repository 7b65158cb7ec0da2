use Rattle.std.proofs.Common.{◌<◌, length, arith}
use Rattle.cm_base.specs.declared.access.Ace.{Ace}
use Rattle.cm_base.specs.declared.access.Level.{Level}
use Rattle.cm_acl.specs.Acl.{level_named}
use Rattle.wr_rules.proofs.Asked.{found_more}
use Rattle.wr_rules.proofs.entries.with_request.Goals as goal

pub loop-permission-preserved : goal.loop-permission-preserved
loop-permission-preserved c =
    let items = c.as_slice-permission-items.result.now in
    let lt : c.loop-permission.permission-index < length items = omega arith in
    let f : Level → Ace = λ level. record { principal = c.args.asked.now.principal; level = level } in
    let e = found_more f level_named c.args.aces items c.loop-permission.permission-index c.permission-item.result lt in
    cc (e, c.in_ok-all.ensures, c.loop-permission.invariant, c.permission-item.is)
