use Rattle.std.proofs.Common.{◌∙◌}
use Rattle.wr_access.specs.ApplyAcl.{cost_apply_acl}
use Rattle.wr_access.proofs.Changed.{reply_is}
use Rattle.wr_access.proofs.apply_acl.apply_acl.Goals as goal

pub returns-clause-written : goal.returns-clause-written
returns-clause-written c =
    let call = c.args.call.now in (
      c.in_ok-x.ensures.0,
      c.in_ok-next.ensures.same ∙ c.in_ok-made.ensures,
      c.in_ok-next.ensures.shown
          ∙ reply_is c.args.state.now c.args.user.now c.args.moment (cost_apply_acl call) call c.in_ok-x.x.now c.in_ok-made.made c.in_ok-x.ensures.1 c.in_ok-made.ensures,
    )
