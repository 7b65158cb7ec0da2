use Rattle.http_grammar.proofs.Heads.{open_unjudged}
use Rattle.http_wire.proofs.heads.examine_part.Goals as goal

pub returns-then-not-judged : goal.returns-then-not-judged
returns-then-not-judged c = open_unjudged c.args.part.now (cc)
