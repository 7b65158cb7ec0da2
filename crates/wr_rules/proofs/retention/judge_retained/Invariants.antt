use Rattle.std.proofs.Common.{◌≡◌, drop}
use Rattle.cm_base.specs.Judged.{first_cause}
use Rattle.wr_rules.specs.Retained.{retained_at}
use Rattle.wr_rules.proofs.retention.judge_retained.Given as goal

abbrev pub invariant-loop-number : goal.invariant-loop-number
invariant-loop-number l = first_cause (retained_at l.state l.moment) l.numbers ≡ first_cause (retained_at l.state l.moment) (drop l.number-index l.numbers)
