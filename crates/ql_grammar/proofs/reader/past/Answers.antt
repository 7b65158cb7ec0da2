use Rattle.std.proofs.Common.{sym, ◌∙◌}
use Rattle.ql_grammar.specs.Grammar as g
use Rattle.ql_grammar.proofs.Exits.{starts_token, took_word}
use Rattle.ql_grammar.proofs.reader.past.Goals as goal

pub returns-then-is_word : goal.returns-then-is_word
returns-then-is_word c = (
  starts_token (g.keyword c.args.word).first c.args.tokens.now c.in-Some.token.now c.in-Some.rest.now c.in-Some.ensures (sym c.is_word.ensures ∙ c.if-is_word.true),
  took_word c.args.word c.args.tokens.now c.in-Some.token.now c.in-Some.rest.now c.in-Some.ensures (sym c.is_word.ensures ∙ c.if-is_word.true),
)
