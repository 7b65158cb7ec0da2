use Rattle.std.proofs.Common.{◌≡◌, length}
use Rattle.field_params.specs.Blanks.{off_end}
use Rattle.field_params.proofs.blanks.off_end.Given as goal

abbrev pub invariant-loop-rest : goal.invariant-loop-rest
invariant-loop-rest l = off_end l.text ≡ off_end l.rest

abbrev pub decreases-loop-rest : goal.decreases-loop-rest
decreases-loop-rest l = length l.rest
