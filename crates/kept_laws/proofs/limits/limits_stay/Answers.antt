use Rattle.kept_laws.proofs.Limiting.{own_limits}
use Rattle.kept_laws.proofs.limits.limits_stay.Goals as goal

pub returns : goal.returns
returns c = own_limits c.history_is_legal.ensures.same
