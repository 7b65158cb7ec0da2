use Rattle.std.proofs.Common.{◌≡◌, map, take}
use Rattle.cm_actions.specs.Allowed.{flag_of}
use Rattle.cm_actions.proofs.allowed.flags.Given as goal

abbrev pub invariant-loop-action : goal.invariant-loop-action
invariant-loop-action l = l.all.items ≡ map (flag_of l.g) (take l.action-index l.actions)
