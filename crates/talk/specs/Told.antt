-- The words that a clock gave for moments.
use Rattle.std.specs.Prelude.{◌≡◌, ◌⊎◌, List, [], ◌∷◌, ◌++◌, Option, Some, None}
use Rattle.outside.specs.Clocks.{Words, first_word, rest_words}
use Rattle.cm_base.specs.declared.number.Moment.{Moment}
use Rattle.desk_model.specs.Clocks.{moment_of}

-- the moments are those of the next words, one each, and then the clock has the words v still to give
abbrev pub Gives : Words → List Moment → Option Words → Type 0
Gives w [] v = v ≡ Some w
Gives w (m ∷ ms) v = (m ≡ moment_of (first_word w)) × Gives (rest_words w) ms v

-- the same of a clock that may tell its words
abbrev pub Told : Option Words → List Moment → Option Words → Type 0
Told None ms v = Unit {0}
Told (Some w) ms v = Gives w ms v

-- the same, but that one word more may be gone
abbrev pub ToldOrOneMore : Option Words → List Moment → Option Words → Type 0
ToldOrOneMore u ms v = Told u ms v ⊎ ((m : Moment) × Told u (ms ++ m ∷ []) v)
