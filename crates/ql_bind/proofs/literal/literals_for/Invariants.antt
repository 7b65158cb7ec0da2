use Rattle.std.proofs.Common.{◌≡◌, [], drop}
use Rattle.ql_bind.specs.Binding.{each_onto, literal_for}
use Rattle.ql_bind.proofs.literal.literals_for.Given as goal

abbrev pub invariant-loop-literal : goal.invariant-loop-literal
invariant-loop-literal l = each_onto (literal_for l.column l.def) [] l.literals ≡ each_onto (literal_for l.column l.def) l.all (drop l.literal-index l.literals)
