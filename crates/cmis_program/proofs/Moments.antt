-- The moment of a word that a clock gives is that of its first.
use Rattle.std.specs.Prelude.{◌≡◌, ℕ, Option, Some, None, IfSome}
use Rattle.std.proofs.Common.{ap, ◌∙◌}
use Rattle.outside.specs.Clocks.{Words, first_word, rest_words}
use Rattle.cm_base.specs.declared.number.Moment.{Moment}
use Rattle.desk_model.specs.Clocks.{moment_of}
use Rattle.cmis_program.specs.Hosting.{IsFirstMoment}

pub of_first_word : (o after : Option Words) (word : ℕ) (root : Moment) → root ≡ moment_of word
    → IfSome o (λ w. (word ≡ first_word w) × (after ≡ Some (rest_words w))) → IsFirstMoment o root
of_first_word None after word root e h = tt
of_first_word (Some w) after word root e h = e ∙ ap moment_of h.0
