-- What a text says: its tokens are a query, or they go wrong.
use Rattle.std.proofs.Common.{ℕ, ◌≤◌, Bool, true, false, min, nat_lt, List, [], ◌∷◌, length, Ok, Err, inl, inr, refl, arith}
use Rattle.std.proofs.lemmas.Bool.Decides.{nat_tests}
use Rattle.grammar_rules.specs.Rules.{Fault}
use Rattle.grammar_rules.proofs.Wholes.{whole, left_over, stuck_fault}
use Rattle.cm_base.specs.Judged.{Judged}
use Rattle.cm_base.specs.declared.cause.Cause.TheVariants as causes
use Rattle.ql_lex.specs.Lexes.{Lexes}
use Rattle.ql_lex.specs.declared.token.Token.{Token}
use Rattle.ql_tree.specs.declared.tree.Query.{Query}
use Rattle.ql_grammar.specs.Grammar as g
use Rattle.ql_grammar.proofs.Levels.{query_sane}
use Rattle.ql_parse.specs.Texts.{Says, longest, deepest, offset, left_word}
use Rattle.ql_parse.proofs.Saying.{spells, runs_over, goes_wrong}
use Rattle.ql_said.proofs.Totals.{Outcome, reads, halts}
use Rattle.ql_said.proofs.Outcomes.{query_total}
use Rattle.ql_said.proofs.Lexed.{lexed, by_test}

-- what a text says
abbrev Saying : List ℕ → Type 0
Saying text = (judged : Judged Query) × Says text judged

module _ (text : List ℕ) (ts : List Token) (known : Lexes longest 0 text ts) where
  query_says : (q : Query) → (g.query deepest).is ts q → Saying text
  query_says q w = by_test (nat_lt longest (length text))
      (λ e. (Err (causes.QueryText longest), inl (longest, inr (runs_over text ts known q w (grind (arith, nat_tests, e)), refl), refl)))
      (λ e. let short : length text ≤ longest = grind (arith, nat_tests, e) in (Ok q, (spells text ts known q w short, short)))

  fault_says : (wider : Bool) (rest : List Token) → Fault wider (g.query deepest) ts rest → Saying text
  fault_says false rest f =
      let place : ℕ = min (offset (length text) rest) longest in
      (Err (causes.QueryText place), inl (place, inl (rest, goes_wrong text ts known false rest f, refl), refl))
  fault_says true [] f = absurd f.beyond
  fault_says true (t ∷ rest) f = (Err (causes.QueryLeft (left_word t.kind)), inr (left_word t.kind, (t, rest, goes_wrong text ts known true (t ∷ rest) f, refl), refl))

  outcome_says : Outcome (g.query deepest) ts → Saying text
  outcome_says (reads q [] p) = query_says q (whole (g.query deepest) (query_sane deepest) ts q p)
  outcome_says (reads q (t ∷ rest) p) = fault_says false (t ∷ rest) (left_over (g.query deepest) (query_sane deepest) ts rest t q p)
  outcome_says (halts l rest p) = fault_says l rest (stuck_fault (g.query deepest) (query_sane deepest) l ts rest p)

-- Each text says something.
pub saying : (text : List ℕ) → (judged : Judged Query) × Says text judged
saying text =
    let tokens : (ts : List Token) × Lexes longest 0 text ts = lexed longest 0 text in
    outcome_says text tokens.0 tokens.1 ((query_total deepest).total tokens.0)
