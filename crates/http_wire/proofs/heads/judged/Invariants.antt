use Rattle.std.proofs.Common.{◌≡◌, length}
use Rattle.http_grammar.specs.Judged.{is_judged}
use Rattle.http_wire.proofs.heads.judged.Given as goal

abbrev pub invariant-loop-rest : goal.invariant-loop-rest
invariant-loop-rest l = is_judged l.bytes ≡ is_judged l.rest

abbrev pub decreases-loop-rest : goal.decreases-loop-rest
decreases-loop-rest l = length l.rest
