use Rattle.step_laws.proofs.Moments.{steady}
use Rattle.step_laws.proofs.refused.refused_at_each_moment.Goals as goal

pub returns : goal.returns
returns c = λ r u m n call cause h no_retention. steady r u m n call cause h no_retention
