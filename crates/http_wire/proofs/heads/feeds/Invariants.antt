use Rattle.std.proofs.Common.{◌≡◌, length}
use Rattle.http_grammar.specs.Judged.{has_line_feed}
use Rattle.http_wire.proofs.heads.feeds.Given as goal

abbrev pub invariant-loop-rest : goal.invariant-loop-rest
invariant-loop-rest l = has_line_feed l.bytes ≡ has_line_feed l.rest

abbrev pub decreases-loop-rest : goal.decreases-loop-rest
decreases-loop-rest l = length l.rest
