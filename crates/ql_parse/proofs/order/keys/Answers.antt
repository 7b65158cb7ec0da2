use Rattle.grammar_rules.proofs.Within.{second, along_start, along_more, along_end, listing_stuck, along_stuck}
use Rattle.ql_grammar.specs.Grammar as g
use Rattle.ql_grammar.proofs.Exits.{exit, start, out_mapped, of_mapped, stopped}
use Rattle.ql_grammar.proofs.Facts.{comma_joint, key_sane, keys_listing}
use Rattle.ql_parse.proofs.order.keys.Goals as goal

pub returns-in_err-begin : goal.returns-in_err-begin
returns-in_err-begin c = exit _ _ _ _ _ c.from_residual.ensures.1
    (stopped (listing_stuck keys_listing) _ (out_mapped g.key g.alone c.args.tokens.now _ c.in_err-begin.ensures))

pub commas-init : goal.commas-init
commas-init c = rw c.in_ok-found.ensures (along_start keys_listing (of_mapped g.key g.alone c.in_ok-begin.ensures))

pub returns-in_err-next-in-Some : goal.returns-in_err-next-in-Some
returns-in_err-next-in-Some c = exit _ _ _ _ _ c.from_residual-in_err-next-in-Some.ensures.1
    (stopped (along_stuck keys_listing c.commas.invariant c.in-Some.ensures.0) _ (stopped (second (comma_joint g.key key_sane) (start (g.comma_then g.key) c.commas.rest.now) c.in-Some.ensures.1).stuck _ c.in_err-next-in-Some.ensures))

pub commas-preserved : goal.commas-preserved
commas-preserved c = rw c.in_ok-push-in-Some.ensures.ok (along_more keys_listing c.commas.invariant c.in-Some.ensures.0 ((second (comma_joint g.key key_sane) (start (g.comma_then g.key) c.commas.rest.now) c.in-Some.ensures.1).took _ _ c.in_ok-next-in-Some.ensures))

pub returns-in-None : goal.returns-in-None
returns-in-None c = along_end keys_listing c.commas.invariant c.in-None.ensures
