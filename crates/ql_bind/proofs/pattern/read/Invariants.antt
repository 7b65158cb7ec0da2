use Rattle.std.proofs.Common.{◌≡◌, take}
use Rattle.std.specs.Prelude.{fold}
use Rattle.ql_bind.specs.Patterns.{next_piece, nothing_read}
use Rattle.ql_bind.proofs.pattern.read.Given as goal

abbrev pub invariant-loop-b : goal.invariant-loop-b
invariant-loop-b l = l.reading ≡ fold next_piece nothing_read (take l.b-index l.text)
