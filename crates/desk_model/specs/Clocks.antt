-- The moments that a clock's words stand for.
use Rattle.std.specs.Prelude.{◌≡◌, ℕ, pos, min}
use Rattle.cm_base.specs.declared.number.Moment.{Moment}
use Rattle.cm_base.specs.Moments.{last_moment}

-- the moment of a clock's word; a later one counts as the last moment
abbrev pub moment_of : ℕ → Moment
moment_of word = record { 0 = pos (min word last_moment) }

-- it is the moment of some word
pub record IsOfWord (moment : Moment) : Type 0 where
  pub word : ℕ
  pub moment_is : moment ≡ moment_of word
