use Rattle.std.proofs.Common.{◌≡◌, ◌++◌, map, filter_map, take}
use Rattle.cm_acl.specs.Acl.{level_named}
use Rattle.wr_rules.proofs.entries.with_request.Given as goal

abbrev pub invariant-loop-permission : goal.invariant-loop-permission
invariant-loop-permission l = l.all ≡ l.fn.aces ++ map (λ level. record { principal = l.asked.principal; level = level }) (filter_map level_named (take l.permission-index l.permission-items))
