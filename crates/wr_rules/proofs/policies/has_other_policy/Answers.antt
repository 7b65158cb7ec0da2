use Rattle.std.proofs.Common.{◌∙◌}
use Rattle.wr_rules.proofs.Named.{other_policies}
use Rattle.wr_rules.proofs.policies.has_other_policy.Goals as goal

pub returns : goal.returns
returns c = c.has_one_beside.ensures ∙ other_policies c.args.state.now c.args.user.now c.args.ids.now
