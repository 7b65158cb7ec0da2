use Rattle.std.proofs.Common.{◌+◌, ◌*◌, length}
use Rattle.grammar_rules.proofs.Within.{Along}
use Rattle.ql_grammar.specs.Grammar as g
use Rattle.ql_tree.specs.declared.tree.Cond.TheVariants as conds
use Rattle.ql_parse.proofs.condition.+condition.Given as goal

abbrev pub decreases-condition : goal.decreases-condition
decreases-condition l = l.depth * 4 + 3

abbrev pub decreases-conjunction : goal.decreases-conjunction
decreases-conjunction l = l.depth * 4 + 2

abbrev pub decreases-negated : goal.decreases-negated
decreases-negated l = l.depth * 4 + 1

abbrev pub decreases-test : goal.decreases-test
decreases-test l = l.depth * 4

abbrev pub invariant-condition-ors : goal.invariant-condition-ors
invariant-condition-ors l = Along (g.conjunction (g.level l.depth).negated) (g.or_then (g.conjunction (g.level l.depth).negated)) (λ x y. conds.Or x y) l.tokens l.found l.rest

abbrev pub decreases-condition-ors : goal.decreases-condition-ors
decreases-condition-ors l = length l.rest

abbrev pub invariant-conjunction-ands : goal.invariant-conjunction-ands
invariant-conjunction-ands l = Along (g.level l.depth).negated (g.and_then (g.level l.depth).negated) (λ x y. conds.And x y) l.tokens l.found l.rest

abbrev pub decreases-conjunction-ands : goal.decreases-conjunction-ands
decreases-conjunction-ands l = length l.rest
