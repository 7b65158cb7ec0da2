-- The bounds of what the words name.
use Rattle.std.specs.Prelude.{◌≡◌, ◌≤◌, ℕ, pos, map, IfSome}
use Rattle.cm_base.specs.declared.number.Moment.{Moment}
use Rattle.cm_base.specs.Moments.{last_moment}
use Rattle.cmis_spec.specs.Well.{HasGroups}
use Rattle.cmis_words.specs.declared.words.Words.{Words}
use Rattle.cmis_words.specs.declared.words.Words.TheVariants.{Pipe}

-- milliseconds since 1970, to the end of the year 9999
abbrev pub IsMoment : Moment → Type 0
IsMoment m = (n : ℕ) × (n ≤ last_moment) × (m ≡ record { 0 = pos n })

-- the moment and the step number are within their bounds, and the groups are groups of the users
abbrev pub AreBounded : Words → Type 0
AreBounded (Pipe pipe) = IfSome pipe.at IsMoment × (pipe.from ≤ 1048576) × HasGroups (map (λ u. u.name) pipe.users) pipe.groups
