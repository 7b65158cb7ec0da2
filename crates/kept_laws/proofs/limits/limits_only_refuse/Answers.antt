use Rattle.kept_laws.proofs.Limiting.{only_refuse}
use Rattle.kept_laws.proofs.limits.limits_only_refuse.Goals as goal

pub returns : goal.returns
returns c = λ limits are payloads r so. only_refuse c.limits_stay.ensures c.history_is_legal.ensures.legal c.history_is_legal.ensures.same limits r.state (c.replays_have_greatest_limits.ensures payloads r so) are
