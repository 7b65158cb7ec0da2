-- The limits of what a repository takes, by the options steps=N and bytes=N.
use Rattle.std.specs.Prelude.{ℕ, List, codes, Option, Some, None}
use Rattle.cm_base.specs.declared.limits.Limits.{Limits}
use Rattle.cm_base.specs.Limits.{greatest_limit, usual_limits}
use Rattle.cm_base.specs.Decimals.{decimal_u64}
use Rattle.cmis_words.specs.Options.{option_of}
use Rattle.cmis_words.specs.Programs.{within}

-- a number from 1 to the greatest limit; without it the usual one
abbrev pub limit_by : ℕ → Option (List ℕ) → Option ℕ
limit_by usual None = Some usual
limit_by usual (Some digits) = within 1 greatest_limit (decimal_u64 digits)

abbrev pub limits_by : Option ℕ → Option ℕ → Option Limits
limits_by None bytes = None
limits_by (Some steps) None = None
limits_by (Some steps) (Some bytes) = Some (record { most_steps = steps; most_bytes = bytes })

abbrev pub limits_of : List (List ℕ) → Option Limits
limits_of options = limits_by (limit_by usual_limits.most_steps (option_of (codes "steps") options)) (limit_by usual_limits.most_bytes (option_of (codes "bytes") options))
