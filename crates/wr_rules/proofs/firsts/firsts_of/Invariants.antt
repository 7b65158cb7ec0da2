use Rattle.std.proofs.Common.{◌≡◌, take}
use Rattle.wr_rules.specs.Rules.{distinct}
use Rattle.wr_rules.proofs.firsts.firsts_of.Given as goal

abbrev pub invariant-loop-text : goal.invariant-loop-text
invariant-loop-text l = l.firsts ≡ distinct (take l.text-index l.texts)
