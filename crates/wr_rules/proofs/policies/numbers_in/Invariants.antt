use Rattle.std.proofs.Common.{◌≡◌, map, take}
use Rattle.wr_rules.specs.Rules.{read_all}
use Rattle.wr_rules.proofs.policies.numbers_in.Given as goal

abbrev pub invariant-loop-id : goal.invariant-loop-id
invariant-loop-id l = l.numbers ≡ map (λ x. x.id) (read_all l.state l.user (take l.id-index l.ids))
