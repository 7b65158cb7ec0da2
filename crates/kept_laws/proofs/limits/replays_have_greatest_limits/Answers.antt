use Rattle.kept_laws.proofs.Limiting.{greatest_at}
use Rattle.kept_laws.proofs.limits.replays_have_greatest_limits.Goals as goal

pub returns : goal.returns
returns c = greatest_at c.limits_stay.ensures
