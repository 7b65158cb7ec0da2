use Rattle.std.proofs.Common.{false}
use Rattle.grammar_rules.proofs.Within.{second, choice_left, choice_right, inside, stuck_first}
use Rattle.ql_grammar.specs.Grammar as g
use Rattle.ql_grammar.proofs.Exits.{exit, halted, start, stopped}
use Rattle.ql_grammar.proofs.Facts.{false_or_time_choice, timestamp_joint}
use Rattle.ql_lex.specs.declared.word.Word.TheVariants as words
use Rattle.ql_tree.specs.declared.tree.Literal.TheVariants as literals
use Rattle.ql_grammar.proofs.literals.false_or_time.Goals as goal

pub returns-in-Some : goal.returns-in-Some
returns-in-Some c = (inside (g.keyword words.False) (λ _. literals.Flag false) (choice_left false_or_time_choice (start g.false_or_time c.args.tokens.now) c.in-Some.ensures.0)).took _ _ c.in-Some.ensures.1

pub returns-in_err-rest-in-None : goal.returns-in_err-rest-in-None
returns-in_err-rest-in-None c = exit _ _ _ _ _ c.from_residual.ensures.1
    (halted (stuck_first timestamp_joint (choice_right false_or_time_choice (start g.false_or_time c.args.tokens.now) c.in-None.ensures)) _ c.in_err-rest-in-None.ensures)

pub returns-in_err-time-in-None : goal.returns-in_err-time-in-None
returns-in_err-time-in-None c = exit _ _ _ _ _ c.from_residual-in_err-time-in-None.ensures.1
    (stopped (second timestamp_joint (choice_right false_or_time_choice (start g.false_or_time c.args.tokens.now) c.in-None.ensures) c.in_ok-rest-in-None.ensures).stuck _ c.in_err-time-in-None.ensures)

pub returns-in_ok-time-in-None : goal.returns-in_ok-time-in-None
returns-in_ok-time-in-None c = (second timestamp_joint (choice_right false_or_time_choice (start g.false_or_time c.args.tokens.now) c.in-None.ensures) c.in_ok-rest-in-None.ensures).took _ _ c.in_ok-time-in-None.ensures
