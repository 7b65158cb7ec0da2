-- What a repository takes in all: the most steps, and the most bytes that these may cost.
use Rattle.std.specs.Prelude.{ℕ, ◌≤◌}
use Rattle.cm_base.specs.declared.limits.Limits.{Limits}

-- the greatest number that a limit may be
unfoldable pub greatest_limit : ℕ
greatest_limit = 9007199254740991

-- where nothing else is said
unfoldable pub usual_limits : Limits
usual_limits = record { most_steps = 1048576; most_bytes = 2147483648 }

abbrev pub greatest_limits : Limits
greatest_limits = record { most_steps = greatest_limit; most_bytes = greatest_limit }

-- limits that a repository may have
abbrev pub AreLimits : Limits → Type 0
AreLimits limits = (limits.most_steps ≤ greatest_limit) × (limits.most_bytes ≤ greatest_limit)
