use Rattle.std.proofs.Common.{◌≡◌, ◌++◌, map, take}
use Rattle.cm_draft.proofs.change.applied_with.Given as goal

abbrev pub invariant-loop-policy : goal.invariant-loop-policy
invariant-loop-policy l = l.all ≡ l.pairs ++ map (λ p. record { policy = p; object = l.object }) (take l.policy-index l.policies)
