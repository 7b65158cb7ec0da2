use Rattle.std.proofs.Common.{inr}
use Rattle.cmis_runs.proofs.once.serve.Goals as goal

pub returns-in-Ok-clause-ran : goal.returns-in-Ok-clause-ran
returns-in-Ok-clause-ran g c = inr (record {
  end = _;
  status_is = c.status_of.ensures;
  journal = _;
  left = _;
  ran = c.in-Ok.ensures.ran;
  alike = c.replies_of_seen.ensures c.args.opening c.step-step.ensures.well;
})
