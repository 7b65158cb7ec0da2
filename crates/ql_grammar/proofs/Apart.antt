-- Tokens are told apart by their kinds.
use Rattle.std.proofs.Common.{◌≡◌, ℕ, Bool, true, false, not, ◌&&◌, List, [], ◌∷◌, refl, zero, suc, drop}
use Rattle.std.specs.List.{list_all}
use Rattle.grammar_rules.proofs.Lists.{Apart}
use Rattle.ql_lex.specs.declared.word.Word.{Word}
use Rattle.ql_lex.specs.declared.word.Word.TheVariants as words
use Rattle.ql_lex.specs.declared.token.Kind.{Kind}
use Rattle.ql_lex.specs.declared.token.Kind.TheVariants as kinds
use Rattle.ql_lex.specs.declared.token.Token.{Token}

abbrev pub every_word : List Word
every_word =
    words.Select
    ∷ words.From
    ∷ words.As
    ∷ words.Where
    ∷ words.Order
    ∷ words.By
    ∷ words.Asc
    ∷ words.Desc
    ∷ words.Or
    ∷ words.And
    ∷ words.Not
    ∷ words.Any
    ∷ words.In
    ∷ words.Like
    ∷ words.Is
    ∷ words.Null
    ∷ words.InFolder
    ∷ words.InTree
    ∷ words.True
    ∷ words.False
    ∷ words.Timestamp
    ∷ words.Star
    ∷ words.Dot
    ∷ words.Comma
    ∷ words.Open
    ∷ words.Close
    ∷ words.Equal
    ∷ words.NotEqual
    ∷ words.Less
    ∷ words.Greater
    ∷ words.LessEqual
    ∷ words.GreaterEqual
    ∷ []

module _ (P Q : Kind → Bool) where
  -- not both pass
  abbrev pub clear : Kind → Bool
  clear k = not (Q k && P k)

  from_clear : (k : Kind) → clear k ≡ true → Q k ≡ true → P k ≡ false
  from_clear k h e = cases (Q k) (P k) h e
    where
      cases : (q p : Bool) → not (q && p) ≡ true → q ≡ true → p ≡ false
      cases true true h e = cc
      cases true false h e = refl
      cases false p h e = cc

  heads : (w : Word) (ws : List Word) → list_all (λ v. clear (kinds.Word v)) (w ∷ ws) ≡ true → clear (kinds.Word w) ≡ true
  heads w ws h = first_true (clear (kinds.Word w)) (list_all (λ v. clear (kinds.Word v)) ws) h
    where
      first_true : (p q : Bool) → p && q ≡ true → p ≡ true
      first_true true q h = refl
      first_true false q h = cc

  tails : (w : Word) (ws : List Word) → list_all (λ v. clear (kinds.Word v)) (w ∷ ws) ≡ true → list_all (λ v. clear (kinds.Word v)) ws ≡ true
  tails w ws h = second_true (clear (kinds.Word w)) (list_all (λ v. clear (kinds.Word v)) ws) h
    where
      second_true : (p q : Bool) → p && q ≡ true → q ≡ true
      second_true true q h = h
      second_true false q h = cc

  behind : (n : ℕ) (ws : List Word) → list_all (λ v. clear (kinds.Word v)) ws ≡ true → list_all (λ v. clear (kinds.Word v)) (drop n ws) ≡ true
  behind zero ws h = h
  behind (suc n) [] h = h
  behind (suc n) (w ∷ ws) h = behind n ws (tails w ws h)

  -- what holds of each word in turn
  at_word : list_all (λ w. clear (kinds.Word w)) every_word ≡ true → (w : Word) → clear (kinds.Word w) ≡ true
  at_word h words.Select = heads words.Select (drop 1 every_word) (behind 0 every_word h)
  at_word h words.From = heads words.From (drop 2 every_word) (behind 1 every_word h)
  at_word h words.As = heads words.As (drop 3 every_word) (behind 2 every_word h)
  at_word h words.Where = heads words.Where (drop 4 every_word) (behind 3 every_word h)
  at_word h words.Order = heads words.Order (drop 5 every_word) (behind 4 every_word h)
  at_word h words.By = heads words.By (drop 6 every_word) (behind 5 every_word h)
  at_word h words.Asc = heads words.Asc (drop 7 every_word) (behind 6 every_word h)
  at_word h words.Desc = heads words.Desc (drop 8 every_word) (behind 7 every_word h)
  at_word h words.Or = heads words.Or (drop 9 every_word) (behind 8 every_word h)
  at_word h words.And = heads words.And (drop 10 every_word) (behind 9 every_word h)
  at_word h words.Not = heads words.Not (drop 11 every_word) (behind 10 every_word h)
  at_word h words.Any = heads words.Any (drop 12 every_word) (behind 11 every_word h)
  at_word h words.In = heads words.In (drop 13 every_word) (behind 12 every_word h)
  at_word h words.Like = heads words.Like (drop 14 every_word) (behind 13 every_word h)
  at_word h words.Is = heads words.Is (drop 15 every_word) (behind 14 every_word h)
  at_word h words.Null = heads words.Null (drop 16 every_word) (behind 15 every_word h)
  at_word h words.InFolder = heads words.InFolder (drop 17 every_word) (behind 16 every_word h)
  at_word h words.InTree = heads words.InTree (drop 18 every_word) (behind 17 every_word h)
  at_word h words.True = heads words.True (drop 19 every_word) (behind 18 every_word h)
  at_word h words.False = heads words.False (drop 20 every_word) (behind 19 every_word h)
  at_word h words.Timestamp = heads words.Timestamp (drop 21 every_word) (behind 20 every_word h)
  at_word h words.Star = heads words.Star (drop 22 every_word) (behind 21 every_word h)
  at_word h words.Dot = heads words.Dot (drop 23 every_word) (behind 22 every_word h)
  at_word h words.Comma = heads words.Comma (drop 24 every_word) (behind 23 every_word h)
  at_word h words.Open = heads words.Open (drop 25 every_word) (behind 24 every_word h)
  at_word h words.Close = heads words.Close (drop 26 every_word) (behind 25 every_word h)
  at_word h words.Equal = heads words.Equal (drop 27 every_word) (behind 26 every_word h)
  at_word h words.NotEqual = heads words.NotEqual (drop 28 every_word) (behind 27 every_word h)
  at_word h words.Less = heads words.Less (drop 29 every_word) (behind 28 every_word h)
  at_word h words.Greater = heads words.Greater (drop 30 every_word) (behind 29 every_word h)
  at_word h words.LessEqual = heads words.LessEqual (drop 31 every_word) (behind 30 every_word h)
  at_word h words.GreaterEqual = heads words.GreaterEqual (drop 32 every_word) (behind 31 every_word h)

  module _ (of_words : list_all (λ w. clear (kinds.Word w)) every_word ≡ true) (of_names : (text : List ℕ) → Q (kinds.Name text) ≡ true → P (kinds.Name text) ≡ false)
      (of_texts : (text : List ℕ) → clear (kinds.Quoted text) ≡ true) (of_numbers : (text : List ℕ) → clear (kinds.Number text) ≡ true)
      (of_decimals : (text : List ℕ) → clear (kinds.Decimal text) ≡ true) (of_wrong : clear kinds.Wrong ≡ true) where
    kinds_apart : (k : Kind) → Q k ≡ true → P k ≡ false
    kinds_apart (kinds.Word w) h = from_clear (kinds.Word w) (at_word of_words w) h
    kinds_apart (kinds.Name text) h = of_names text h
    kinds_apart (kinds.Quoted text) h = from_clear (kinds.Quoted text) (of_texts text) h
    kinds_apart (kinds.Number text) h = from_clear (kinds.Number text) (of_numbers text) h
    kinds_apart (kinds.Decimal text) h = from_clear (kinds.Decimal text) (of_decimals text) h
    kinds_apart kinds.Wrong h = from_clear kinds.Wrong of_wrong h

    pub apart : Apart {T = Token} (λ t. P t.kind) (λ t. Q t.kind)
    apart t h = kinds_apart t.kind h

-- a rule's test, by the kind alone
abbrev pub by_kind : (Token → Bool) → Kind → Bool
by_kind test k = test (record { kind = k; at = 0 })
