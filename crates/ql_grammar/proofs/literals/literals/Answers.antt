use Rattle.grammar_rules.proofs.Within.{second, along_start, along_more, along_end, listing_stuck, along_stuck}
use Rattle.ql_grammar.specs.Grammar as g
use Rattle.ql_grammar.proofs.Exits.{exit, start, out_mapped, of_mapped, stopped}
use Rattle.ql_grammar.proofs.Facts.{comma_joint, literal_sane, literals_listing}
use Rattle.ql_grammar.proofs.literals.literals.Goals as goal

pub returns-in_err-begin : goal.returns-in_err-begin
returns-in_err-begin c = exit _ _ _ _ _ c.from_residual.ensures.1
    (stopped (listing_stuck literals_listing) _ (out_mapped g.literal g.alone c.args.tokens.now _ c.in_err-begin.ensures))

pub commas-init : goal.commas-init
commas-init c = rw c.in_ok-found.ensures (along_start literals_listing (of_mapped g.literal g.alone c.in_ok-begin.ensures))

pub returns-in_err-next-in-Some : goal.returns-in_err-next-in-Some
returns-in_err-next-in-Some c = exit _ _ _ _ _ c.from_residual-in_err-next-in-Some.ensures.1
    (stopped (along_stuck literals_listing c.commas.invariant c.in-Some.ensures.0) _ (stopped (second (comma_joint g.literal literal_sane) (start (g.comma_then g.literal) c.commas.rest.now) c.in-Some.ensures.1).stuck _ c.in_err-next-in-Some.ensures))

pub commas-preserved : goal.commas-preserved
commas-preserved c = rw c.in_ok-push-in-Some.ensures.ok (along_more literals_listing c.commas.invariant c.in-Some.ensures.0 ((second (comma_joint g.literal literal_sane) (start (g.comma_then g.literal) c.commas.rest.now) c.in-Some.ensures.1).took _ _ c.in_ok-next-in-Some.ensures))

pub returns-in-None : goal.returns-in-None
returns-in-None c = along_end literals_listing c.commas.invariant c.in-None.ensures
