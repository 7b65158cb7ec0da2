-- The words of versioning states (CMIS 1.1, section 2.2.4.1).
use Rattle.std.specs.Prelude.{ℕ, List, codes, bytes_eq, Option, Some, None, if◌then◌else◌}
use Rattle.cm_base.specs.declared.series.VersioningState.{VersioningState}
use Rattle.cm_base.specs.declared.series.VersioningState.TheVariants as states

abbrev pub state_word : VersioningState → List ℕ
state_word states.None = codes "none"
state_word states.CheckedOut = codes "checkedout"
state_word states.Minor = codes "minor"
state_word states.Major = codes "major"

-- the state with this word
abbrev pub state_of_word : List ℕ → Option VersioningState
state_of_word word =
    if bytes_eq word (state_word states.None) then Some states.None
    else if bytes_eq word (state_word states.CheckedOut) then Some states.CheckedOut
    else if bytes_eq word (state_word states.Minor) then Some states.Minor
    else if bytes_eq word (state_word states.Major) then Some states.Major
    else None
