use Rattle.grammar_rules.proofs.Within.{second, along_start, along_more, along_end, stuck_first, listing_stuck, along_stuck}
use Rattle.ql_grammar.specs.Grammar as g
use Rattle.ql_grammar.proofs.Exits.{exit, halted, start, last, stopped}
use Rattle.ql_grammar.proofs.Levels.{conjunction_listing, cond_listing, and_joint, or_joint, group_cond_joint, closed_cond_joint, not_joint}
use Rattle.ql_parse.proofs.Depths.{grouped, ungrouped, no_test, denied, undenied}
use Rattle.ql_parse.proofs.condition.+condition.Goals as goal

pub condition-returns-in_err-found : goal.condition-returns-in_err-found
condition-returns-in_err-found t c = exit _ _ _ _ _ c.from_residual.ensures.1
    (stopped (listing_stuck (cond_listing c.args.depth)) _ c.in_err-found.ensures)

pub condition-ors-init : goal.condition-ors-init
condition-ors-init t c = along_start (cond_listing c.args.depth) c.in_ok-found.ensures

pub condition-returns-in_err-next-in-Some : goal.condition-returns-in_err-next-in-Some
condition-returns-in_err-next-in-Some t c = exit _ _ _ _ _ c.from_residual-in_err-next-in-Some.ensures.1
    (stopped (along_stuck (cond_listing c.args.depth) c.ors.invariant c.in-Some.ensures.0) _ (stopped (second (or_joint c.args.depth) (start (g.or_then (g.conjunction (g.level c.args.depth).negated)) c.ors.rest.now) c.in-Some.ensures.1).stuck _ c.in_err-next-in-Some.ensures))

pub condition-ors-preserved : goal.condition-ors-preserved
condition-ors-preserved t c = rw c.in_ok-found-in-Some.ensures (along_more (cond_listing c.args.depth) c.ors.invariant c.in-Some.ensures.0 ((second (or_joint c.args.depth) (start (g.or_then (g.conjunction (g.level c.args.depth).negated)) c.ors.rest.now) c.in-Some.ensures.1).took _ _ c.in_ok-next-in-Some.ensures))

pub condition-returns-in-None : goal.condition-returns-in-None
condition-returns-in-None t c = along_end (cond_listing c.args.depth) c.ors.invariant c.in-None.ensures

pub conjunction-returns-in_err-found : goal.conjunction-returns-in_err-found
conjunction-returns-in_err-found t c = exit _ _ _ _ _ c.from_residual.ensures.1
    (stopped (listing_stuck (conjunction_listing c.args.depth)) _ c.in_err-found.ensures)

pub conjunction-ands-init : goal.conjunction-ands-init
conjunction-ands-init t c = along_start (conjunction_listing c.args.depth) c.in_ok-found.ensures

pub conjunction-returns-in_err-next-in-Some : goal.conjunction-returns-in_err-next-in-Some
conjunction-returns-in_err-next-in-Some t c = exit _ _ _ _ _ c.from_residual-in_err-next-in-Some.ensures.1
    (stopped (along_stuck (conjunction_listing c.args.depth) c.ands.invariant c.in-Some.ensures.0) _ (stopped (second (and_joint c.args.depth) (start (g.and_then (g.level c.args.depth).negated) c.ands.rest.now) c.in-Some.ensures.1).stuck _ c.in_err-next-in-Some.ensures))

pub conjunction-ands-preserved : goal.conjunction-ands-preserved
conjunction-ands-preserved t c = rw c.in_ok-found-in-Some.ensures (along_more (conjunction_listing c.args.depth) c.ands.invariant c.in-Some.ensures.0 ((second (and_joint c.args.depth) (start (g.and_then (g.level c.args.depth).negated) c.ands.rest.now) c.in-Some.ensures.1).took _ _ c.in_ok-next-in-Some.ensures))

pub conjunction-returns-in-None : goal.conjunction-returns-in-None
conjunction-returns-in-None t c = along_end (conjunction_listing c.args.depth) c.ands.invariant c.in-None.ensures

pub negated-returns-in_err-inner-in-Some : goal.negated-returns-in_err-inner-in-Some
negated-returns-in_err-inner-in-Some t c = exit _ _ _ _ _ c.from_residual.ensures.1
    (stopped (second (not_joint c.in-Some.below) (denied c.args.tokens.now c.args.depth c.in-Some.below c.in-Some.ensures.0 c.in-Some.ensures.1) c.in-Some.ensures.2).stuck _ c.in_err-inner-in-Some.ensures)

pub negated-returns-in_ok-negation-in-Some : goal.negated-returns-in_ok-negation-in-Some
negated-returns-in_ok-negation-in-Some t c = rw c.in_ok-negation-in-Some.ensures ((second (not_joint c.in-Some.below) (denied c.args.tokens.now c.args.depth c.in-Some.below c.in-Some.ensures.0 c.in-Some.ensures.1) c.in-Some.ensures.2).took _ _ c.in_ok-inner-in-Some.ensures)

pub negated-returns-in-None : goal.negated-returns-in-None
negated-returns-in-None t c = last (undenied c.args.tokens.now c.args.depth c.in-None.ensures) _ _ c.test-in-None.ensures

pub test-returns-in_err-inner-in-Some : goal.test-returns-in_err-inner-in-Some
test-returns-in_err-inner-in-Some t c = exit _ _ _ _ _ c.from_residual.ensures.1
    (stopped (stuck_first (closed_cond_joint c.in-Some.below) (second (group_cond_joint c.in-Some.below) (grouped c.args.tokens.now c.args.depth c.in-Some.below c.in-Some.ensures.0 c.in-Some.ensures.1) c.in-Some.ensures.2)) _ c.in_err-inner-in-Some.ensures)

pub test-returns-in_err-rest-in-Some : goal.test-returns-in_err-rest-in-Some
test-returns-in_err-rest-in-Some t c = exit _ _ _ _ _ c.from_residual-in_err-rest-in-Some.ensures.1
    (halted (second (closed_cond_joint c.in-Some.below) (second (group_cond_joint c.in-Some.below) (grouped c.args.tokens.now c.args.depth c.in-Some.below c.in-Some.ensures.0 c.in-Some.ensures.1) c.in-Some.ensures.2) c.in_ok-inner-in-Some.ensures).stuck _ c.in_err-rest-in-Some.ensures)

pub test-returns-in_ok-rest-in-Some : goal.test-returns-in_ok-rest-in-Some
test-returns-in_ok-rest-in-Some t c = (second (closed_cond_joint c.in-Some.below) (second (group_cond_joint c.in-Some.below) (grouped c.args.tokens.now c.args.depth c.in-Some.below c.in-Some.ensures.0 c.in-Some.ensures.1) c.in-Some.ensures.2) c.in_ok-inner-in-Some.ensures).took _ _ c.in_ok-rest-in-Some.ensures

pub test-returns-then-at_simple : goal.test-returns-then-at_simple
test-returns-then-at_simple t c = last (ungrouped c.args.tokens.now c.args.depth c.in-None.ensures c.if-at_simple.ensures) _ _ c.simple.ensures

pub test-returns-else-at_simple : goal.test-returns-else-at_simple
test-returns-else-at_simple t c = no_test c.args.tokens.now c.args.depth _ c.in-None.ensures c.if-at_simple.ensures c.none_begins.ensures
