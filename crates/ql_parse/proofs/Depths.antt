-- Conditions of a depth by cases: one level is opened, or none.
use Rattle.std.proofs.Common.{◌≡◌, ℕ, zero, suc, List, inl, inr, ◌⊎◌, subst}
use Rattle.grammar_rules.specs.Rules.{Rule, Starts, Stops}
use Rattle.grammar_rules.proofs.Lists.{starts_left, starts_right, stops_both}
use Rattle.grammar_rules.proofs.Within.{Within, whole_within, choice_left, choice_right, standing_in}
use Rattle.ql_lex.specs.declared.word.Word.TheVariants as words
use Rattle.ql_lex.specs.declared.token.Token.{Token}
use Rattle.ql_tree.specs.declared.tree.Cond.{Cond}
use Rattle.ql_grammar.specs.Grammar as g
use Rattle.ql_grammar.specs.Reads.{Halted, IsNoBeginning}
use Rattle.ql_grammar.specs.declared.stop.Halt.{Halt}
use Rattle.ql_grammar.proofs.Exits.{nothing_begins}
use Rattle.ql_grammar.proofs.Facts.{simple_standing}
use Rattle.ql_grammar.proofs.Levels.{test_standing, served_test_choice, negated_choice}

module _ (ts : List Token) where
  -- a rule of the conditions of a depth, where that depth is another
  pub deeper : (f : ℕ → Rule Token Cond) (d n : ℕ) → d ≡ n → Within (f d) (f n) (λ x. x) ts ts
  deeper f d n e = subst (λ m. Within (f d) (f m) (λ x. x) ts ts) e (whole_within (f d) ts)

  -- a condition in parentheses
  pub grouped : (d below : ℕ) → d ≡ suc below → Starts (g.keyword words.Open).first ts → Within (g.level d).test (g.group (g.cond below)) (λ x. x) ts ts
  grouped d below e begins =
      choice_left (served_test_choice below) (standing_in (test_standing below) (deeper (λ m. (g.level m).test) d (suc below) e) (starts_left (g.group (g.cond below)).first g.simple.first ts begins)) begins

  -- a simple test
  pub ungrouped : (d : ℕ) → (d ≡ 0) ⊎ Stops (g.keyword words.Open).first ts → Starts g.simple.first ts → Within (g.level d).test g.simple (λ x. x) ts ts
  ungrouped zero h begins = standing_in simple_standing (whole_within (g.level 0).test ts) begins
  ungrouped (suc d) (inl e) begins = absurd cc
  ungrouped (suc d) (inr stop) begins =
      choice_right (served_test_choice d) (standing_in (test_standing d) (whole_within (g.level (suc d)).test ts) (starts_right (g.group (g.cond d)).first g.simple.first ts begins)) stop

  -- no test begins
  pub no_test : (d : ℕ) (halt : Halt) → (d ≡ 0) ⊎ Stops (g.keyword words.Open).first ts → Stops g.simple.first ts → IsNoBeginning ts halt → Halted (g.level d).test ts halt
  no_test zero halt h stop none = nothing_begins simple_standing ts halt stop none
  no_test (suc d) halt (inl f) stop none = absurd cc
  no_test (suc d) halt (inr h) stop none = nothing_begins (test_standing d) ts halt (stops_both (g.group (g.cond d)).first g.simple.first ts h stop) none

  -- NOT
  pub denied : (d below : ℕ) → d ≡ suc below → Starts (g.keyword words.Not).first ts → Within (g.level d).negated (g.not_then (g.level below).test) (λ x. x) ts ts
  denied d below e begins = choice_left (negated_choice below) (deeper (λ m. (g.level m).negated) d (suc below) e) begins

  -- no NOT
  pub undenied : (d : ℕ) → (d ≡ 0) ⊎ Stops (g.keyword words.Not).first ts → Within (g.level d).negated (g.level d).test (λ x. x) ts ts
  undenied zero h = whole_within (g.level 0).negated ts
  undenied (suc d) (inl e) = absurd cc
  undenied (suc d) (inr stop) = choice_right (negated_choice d) (whole_within (g.level (suc d)).negated ts) stop
