use Rattle.std.proofs.Common.{◌≡◌, take}
use Rattle.wr_rules.specs.Rules.{aces_in}
use Rattle.wr_rules.proofs.entries.aces_in.Given as goal

abbrev pub invariant-loop-request : goal.invariant-loop-request
invariant-loop-request l = l.all ≡ aces_in (take l.request-index l.asked)
