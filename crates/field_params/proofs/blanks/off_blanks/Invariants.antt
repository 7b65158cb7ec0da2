use Rattle.std.proofs.Common.{◌≡◌, ◌≤◌, length}
use Rattle.field_params.specs.Blanks.{off_blanks}
use Rattle.field_params.proofs.blanks.off_blanks.Given as goal

abbrev pub invariant-loop-rest : goal.invariant-loop-rest
invariant-loop-rest l = (off_blanks l.text ≡ off_blanks l.rest) × (length l.rest ≤ length l.text)

abbrev pub decreases-loop-rest : goal.decreases-loop-rest
decreases-loop-rest l = length l.rest
