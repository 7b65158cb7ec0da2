use Rattle.std.proofs.Common.{◌≡◌, [], drop}
use Rattle.ql_bind.specs.Binding.{all_onto, bind_item}
use Rattle.ql_bind.proofs.select.items.Given as goal

abbrev pub invariant-loop-x : goal.invariant-loop-x
invariant-loop-x l = all_onto (bind_item l.scope) [] l.items ≡ all_onto (bind_item l.scope) l.all (drop l.x-index l.items)
