use Rattle.ql_tree.specs.Texts.{unescaped}
use Rattle.std.proofs.Common.{false}
use Rattle.grammar_rules.proofs.Within.{inside}
use Rattle.ql_grammar.specs.Grammar as g
use Rattle.ql_grammar.proofs.Exits.{exit, halted, start}
use Rattle.ql_grammar.proofs.reader.quoted.Goals as goal

pub returns-in_err-text : goal.returns-in_err-text
returns-in_err-text c = exit _ _ _ _ _ c.from_residual.ensures.1 (halted (inside g.pattern (unescaped false) (start g.quoted c.args.tokens.now)).stuck _ c.in_err-text.ensures)
