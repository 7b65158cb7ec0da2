-- What the text of a query says: its tree, or where and why it says none (CMIS 1.1, section 2.1.14.2.1).
use Rattle.std.specs.Prelude.{◌≡◌, ◌⊎◌, ℕ, min, ◌<◌, ◌≤◌, Bool, true, false, List, [], ◌∷◌, length, Ok, Err}
use Rattle.grammar_rules.specs.Rules.{Fault}
use Rattle.cm_base.specs.Judged.{Judged}
use Rattle.cm_base.specs.declared.cause.Cause.TheVariants as causes
use Rattle.cm_base.specs.declared.fail.Fail.{Fail}
use Rattle.cm_base.specs.declared.fail.Fail.TheVariants as fails
use Rattle.ql_lex.specs.Lexes.{Lexes}
use Rattle.ql_lex.specs.declared.token.Kind.{Kind}
use Rattle.ql_lex.specs.declared.token.Kind.TheVariants as kinds
use Rattle.ql_lex.specs.declared.token.Token.{Token}
use Rattle.ql_tree.specs.declared.tree.Query.{Query}
use Rattle.ql_grammar.specs.Grammar.{query}

-- The most bytes that the text of a query has.
unfoldable pub longest : ℕ
longest = 65536

-- How deep parentheses and NOT may nest in a condition.
unfoldable pub deepest : ℕ
deepest = 64

-- The text spells the query, however long it is: its tokens do.
pub record Spells (text : List ℕ) (q : Query) : Type 0 where
  pub tokens : List Token
  pub lexed : Lexes (length text) 0 text tokens
  pub spelled : (query deepest).is tokens q

-- Of the tokens that begin before the byte `longest`, those before `rest` begin a query, and with the first of `rest`, or at their end where there is
-- none, no query can go on. `wider` says that it is a token that the language leaves out, where a test, an item, a table or a literal could begin.
pub record GoesWrong (text : List ℕ) (wider : Bool) (rest : List Token) : Type 0 where
  pub tokens : List Token
  pub lexed : Lexes longest 0 text tokens
  pub fault : Fault wider (query deepest) tokens rest

-- The text is longer than a query may be, and the tokens that begin before the byte `longest` are a query.
pub record RunsOver (text : List ℕ) : Type 0 where
  pub tokens : List Token
  pub tree : Query
  pub lexed : Lexes longest 0 text tokens
  pub spelled : (query deepest).is tokens tree
  pub long : longest < length text

-- The offset of the first token, and where there is none, that of the end.
abbrev pub offset : ℕ → List Token → ℕ
offset end [] = end
offset end (t ∷ ts) = t.at

-- The least offset at which no query can go on: that of a token, or the end of the text. The byte at `longest` is none of a query.
abbrev pub FaultPlace : List ℕ → ℕ → Type 0
FaultPlace text place = ((rest : List Token) × GoesWrong text false rest × (place ≡ min (offset (length text) rest) longest)) ⊎ (RunsOver text × (place ≡ longest))

-- How a token that the language leaves out is written.
abbrev pub left_word : Kind → List ℕ
left_word (kinds.Word v) = []
left_word (kinds.Name text) = text
left_word (kinds.Quoted text) = []
left_word (kinds.Number text) = []
left_word (kinds.Decimal text) = text
left_word kinds.Wrong = []

-- The least place at which no query can go on has a token that the language leaves out.
abbrev pub LeftOut : List ℕ → List ℕ → Type 0
LeftOut text word = (t : Token) × (rest : List Token) × GoesWrong text true (t ∷ rest) × (word ≡ left_word t.kind)

-- What the text says: its query, or the cause why it says none.
abbrev pub Says : List ℕ → Judged Query → Type 0
Says text (Ok q) = Spells text q × (length text ≤ longest)
Says text (Err cause) = ((place : ℕ) × FaultPlace text place × (cause ≡ causes.QueryText place)) ⊎ ((word : List ℕ) × LeftOut text word × (cause ≡ causes.QueryLeft word))

-- The cause is what the text says; want of memory is free.
abbrev pub Refuses : List ℕ → Fail → Type 0
Refuses text (fails.Refused cause) = Says text (Err cause)
Refuses text fails.Memory = Unit {0}
