use Rattle.std.proofs.Common.{◌≡◌, [], drop}
use Rattle.ql_bind.specs.Binding.{each_onto, bind_key}
use Rattle.ql_bind.proofs.select.order.Given as goal

abbrev pub invariant-loop-x : goal.invariant-loop-x
invariant-loop-x l = each_onto (bind_key l.scope) [] l.keys ≡ each_onto (bind_key l.scope) l.all (drop l.x-index l.keys)
