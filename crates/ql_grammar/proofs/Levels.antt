-- The same for conditions of each depth.
use Rattle.std.proofs.Common.{◌≡◌, ℕ, zero, suc, Bool, true, false, ◌||◌, refl}
use Rattle.grammar_rules.specs.Rules.{Rule}
use Rattle.grammar_rules.proofs.Lists.{Apart}
use Rattle.grammar_rules.proofs.Laws.{Sane}
use Rattle.grammar_rules.proofs.Within.{Joint, Optional, Choice, Standing, Listing, joint_sane, optional_sane, choice_sane, standing_sane, listing_sane}
use Rattle.ql_lex.specs.declared.word.Word.TheVariants as words
use Rattle.ql_lex.specs.declared.token.Token.{Token}
use Rattle.ql_tree.specs.declared.tree.Cond.{Cond}
use Rattle.ql_tree.specs.declared.tree.Cond.TheVariants as conds
use Rattle.ql_grammar.specs.Grammar as g
use Rattle.ql_grammar.proofs.Apart.{apart, by_kind}
use Rattle.ql_grammar.proofs.Facts.{keyword_sane, simple_sane, simple_standing, plain_left_or, select_sane, order_sane}

or_apart : {T : Type 0} (p q r : T → Bool) → Apart p r → Apart q r → Apart (λ t. p t || q t) r
or_apart p q r h k t e = neither (p t) (q t) (h t e) (k t e)
  where
    neither : (x y : Bool) → x ≡ false → y ≡ false → x || y ≡ false
    neither false y h k = k
    neither true y h k = cc

module _ (q : Token → Bool) (base : Apart g.simple.goes q) where
  pub test_apart : (d : ℕ) → Apart (g.level d).test.goes q
  test_apart zero = base
  test_apart (suc d) = base

  pub negated_apart : (d : ℕ) → Apart (g.level d).negated.goes q
  negated_apart zero = base
  negated_apart (suc d) = or_apart (g.level d).test.goes (g.test_over (g.level d)).goes q (test_apart d) base

  module _ (no_and : Apart (g.keyword words.And).first q) where
    pub conjunction_apart : (d : ℕ) → Apart (g.conjunction (g.level d).negated).goes q
    conjunction_apart d =
        or_apart (λ t. (g.keyword words.And).first t || (g.level d).negated.goes t) (g.level d).negated.goes q
        (or_apart (g.keyword words.And).first (g.level d).negated.goes q no_and (negated_apart d)) (negated_apart d)

    pub cond_apart : Apart (g.keyword words.Or).first q → (d : ℕ) → Apart (g.cond d).goes q
    cond_apart no_or d =
        or_apart (λ t. (g.keyword words.Or).first t || (g.conjunction (g.level d).negated).goes t) (g.conjunction (g.level d).negated).goes q
        (or_apart (g.keyword words.Or).first (g.conjunction (g.level d).negated).goes q no_or (conjunction_apart d)) (conjunction_apart d)

and_apart : (d : ℕ) → Apart (g.level d).negated.goes (g.keyword words.And).first
and_apart = negated_apart (g.keyword words.And).first
    (apart (by_kind g.simple.goes) (by_kind (g.keyword words.And).first) refl (λ text h. refl) (λ text. refl) (λ text. refl) (λ text. refl) refl)

or_apart_conj : (d : ℕ) → Apart (g.conjunction (g.level d).negated).goes (g.keyword words.Or).first
or_apart_conj = conjunction_apart (g.keyword words.Or).first
    (apart (by_kind g.simple.goes) (by_kind (g.keyword words.Or).first) refl (λ text h. refl) (λ text. refl) (λ text. refl) (λ text. refl) refl)
    (apart (by_kind (g.keyword words.And).first) (by_kind (g.keyword words.Or).first) refl (λ text h. refl) (λ text. refl) (λ text. refl) (λ text. refl) refl)

close_apart : (d : ℕ) → Apart (g.cond d).goes (g.keyword words.Close).first
close_apart = cond_apart (g.keyword words.Close).first
    (apart (by_kind g.simple.goes) (by_kind (g.keyword words.Close).first) refl (λ text h. refl) (λ text. refl) (λ text. refl) (λ text. refl) refl)
    (apart (by_kind (g.keyword words.And).first) (by_kind (g.keyword words.Close).first) refl (λ text h. refl) (λ text. refl) (λ text. refl) (λ text. refl) refl)
    (apart (by_kind (g.keyword words.Or).first) (by_kind (g.keyword words.Close).first) refl (λ text h. refl) (λ text. refl) (λ text. refl) (λ text. refl) refl)

order_apart : (d : ℕ) → Apart (g.cond d).goes (g.keyword words.Order).first
order_apart = cond_apart (g.keyword words.Order).first
    (apart (by_kind g.simple.goes) (by_kind (g.keyword words.Order).first) refl (λ text h. refl) (λ text. refl) (λ text. refl) (λ text. refl) refl)
    (apart (by_kind (g.keyword words.And).first) (by_kind (g.keyword words.Order).first) refl (λ text h. refl) (λ text. refl) (λ text. refl) (λ text. refl) refl)
    (apart (by_kind (g.keyword words.Or).first) (by_kind (g.keyword words.Order).first) refl (λ text h. refl) (λ text. refl) (λ text. refl) (λ text. refl) refl)

-- AND and OR, over what is known of NOT
pub and_then_joint : (n : Rule Token Cond) → Sane n → Joint (g.keyword words.And) n g.second
and_then_joint n sane = record { sane_a = keyword_sane words.And; sane_b = sane; apart = λ t h. refl }

pub or_then_joint : (n : Rule Token Cond) → Sane n → Joint (g.keyword words.Or) n g.second
or_then_joint n sane = record { sane_a = keyword_sane words.Or; sane_b = sane; apart = λ t h. refl }

pub record LevelFacts (d : ℕ) : Type 0 where
  pub test : Sane (g.level d).test
  pub negated : Sane (g.level d).negated

module _ (d : ℕ) (facts : LevelFacts d) where
  conjunction_from : Listing (g.level d).negated (g.and_then (g.level d).negated) (λ x y. conds.And x y)
  conjunction_from = record {
    sane_a = facts.negated;
    sane_b = joint_sane (and_then_joint (g.level d).negated facts.negated);
    apart = and_apart d;
    apart_b = and_apart d;
  }

  cond_from : Listing (g.conjunction (g.level d).negated) (g.or_then (g.conjunction (g.level d).negated)) (λ x y. conds.Or x y)
  cond_from = record {
    sane_a = listing_sane conjunction_from;
    sane_b = joint_sane (or_then_joint (g.conjunction (g.level d).negated) (listing_sane conjunction_from));
    apart = or_apart_conj d;
    apart_b = or_apart_conj d;
  }

  closed_from : Joint (g.cond d) (g.keyword words.Close) g.first
  closed_from = record { sane_a = listing_sane cond_from; sane_b = keyword_sane words.Close; apart = close_apart d }

  group_from : Joint (g.keyword words.Open) (g.closed (g.cond d)) g.second
  group_from = record { sane_a = keyword_sane words.Open; sane_b = joint_sane closed_from; apart = λ t h. refl }

  served_from : Choice (g.group (g.cond d)) g.simple
  served_from = record {
    sane_a = joint_sane group_from;
    sane_b = simple_sane;
    apart = apart (by_kind (g.keyword words.Open).first) (by_kind g.simple.first) refl (λ text h. refl) (λ text. refl) (λ text. refl) (λ text. refl) refl;
  }

  test_from : Standing (g.served_test (g.level d)) g.left_out
  test_from = record {
    sane = choice_sane served_from;
    apart = apart (by_kind (g.served_test (g.level d)).first) (by_kind g.left_out) refl (λ text h. plain_left_or text h) (λ text. refl) (λ text. refl) (λ text. refl) refl;
  }

  not_from : Joint (g.keyword words.Not) (g.level d).test (λ _ x. conds.Not x)
  not_from = record { sane_a = keyword_sane words.Not; sane_b = facts.test; apart = λ t h. refl }

  negated_from : Choice (g.not_then (g.level d).test) (g.test_over (g.level d))
  negated_from = record {
    sane_a = joint_sane not_from;
    sane_b = standing_sane test_from;
    apart = apart (by_kind (g.keyword words.Not).first) (by_kind (g.test_over (g.level d)).first) refl (λ text h. refl) (λ text. refl) (λ text. refl) (λ text. refl) refl;
  }

pub level_facts : (d : ℕ) → LevelFacts d
level_facts zero = record { test = standing_sane simple_standing; negated = standing_sane simple_standing }
level_facts (suc d) = record { test = standing_sane (test_from d (level_facts d)); negated = choice_sane (negated_from d (level_facts d)) }

pub conjunction_listing : (d : ℕ) → Listing (g.level d).negated (g.and_then (g.level d).negated) (λ x y. conds.And x y)
conjunction_listing d = conjunction_from d (level_facts d)

pub cond_listing : (d : ℕ) → Listing (g.conjunction (g.level d).negated) (g.or_then (g.conjunction (g.level d).negated)) (λ x y. conds.Or x y)
cond_listing d = cond_from d (level_facts d)

pub cond_sane : (d : ℕ) → Sane (g.cond d)
cond_sane d = listing_sane (cond_listing d)

pub closed_cond_joint : (d : ℕ) → Joint (g.cond d) (g.keyword words.Close) g.first
closed_cond_joint d = closed_from d (level_facts d)

pub group_cond_joint : (d : ℕ) → Joint (g.keyword words.Open) (g.closed (g.cond d)) g.second
group_cond_joint d = group_from d (level_facts d)

pub served_test_choice : (d : ℕ) → Choice (g.group (g.cond d)) g.simple
served_test_choice d = served_from d (level_facts d)

pub test_standing : (d : ℕ) → Standing (g.served_test (g.level d)) g.left_out
test_standing d = test_from d (level_facts d)

pub not_joint : (d : ℕ) → Joint (g.keyword words.Not) (g.level d).test (λ _ x. conds.Not x)
not_joint d = not_from d (level_facts d)

pub negated_choice : (d : ℕ) → Choice (g.not_then (g.level d).test) (g.test_over (g.level d))
negated_choice d = negated_from d (level_facts d)

pub and_joint : (d : ℕ) → Joint (g.keyword words.And) (g.level d).negated g.second
and_joint d = and_then_joint (g.level d).negated (level_facts d).negated

pub or_joint : (d : ℕ) → Joint (g.keyword words.Or) (g.conjunction (g.level d).negated) g.second
or_joint d = or_then_joint (g.conjunction (g.level d).negated) (listing_sane (conjunction_listing d))

pub filter_joint : (d : ℕ) → Joint (g.keyword words.Where) (g.cond d) g.second
filter_joint d = record { sane_a = keyword_sane words.Where; sane_b = cond_sane d; apart = λ t h. refl }

pub chosen_optional : (d : ℕ) → Optional g.select (g.filter d) g.filtered
chosen_optional d = record {
  sane_a = select_sane;
  sane_b = joint_sane (filter_joint d);
  apart = apart (by_kind g.select.goes) (by_kind (g.keyword words.Where).first) refl (λ text h. cc) (λ text. refl) (λ text. refl) (λ text. refl) refl;
}

pub query_optional : (d : ℕ) → Optional (g.chosen d) g.order g.sorted
query_optional d = record {
  sane_a = optional_sane (chosen_optional d);
  sane_b = order_sane;
  apart =
      or_apart (λ t. (g.keyword words.Where).first t || (g.cond d).goes t) g.select.goes (g.keyword words.Order).first
      (or_apart (g.keyword words.Where).first (g.cond d).goes (g.keyword words.Order).first
      (apart (by_kind (g.keyword words.Where).first) (by_kind (g.keyword words.Order).first) refl (λ text h. refl) (λ text. refl) (λ text. refl) (λ text. refl) refl) (order_apart d))
      (apart (by_kind g.select.goes) (by_kind (g.keyword words.Order).first) refl (λ text h. cc) (λ text. refl) (λ text. refl) (λ text. refl) refl);
}

pub query_sane : (d : ℕ) → Sane (g.query d)
query_sane d = optional_sane (query_optional d)
