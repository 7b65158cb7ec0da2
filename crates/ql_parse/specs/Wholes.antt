-- What is answered where a condition opens a level, and where all tokens of a text are read.
use Rattle.std.specs.Prelude.{◌≡◌, ◌⊎◌, ℕ, suc, min, true, false, List, [], ◌∷◌, Option, Some, None, Result, Ok, Err}
use Rattle.grammar_rules.specs.Rules.{Rule, Starts, Stops, Took, Fault}
use Rattle.cm_base.specs.declared.cause.Cause.TheVariants as causes
use Rattle.cm_base.specs.declared.fail.Fail.{Fail}
use Rattle.cm_base.specs.declared.fail.Fail.TheVariants as fails
use Rattle.ql_lex.specs.declared.word.Word.{Word}
use Rattle.ql_lex.specs.declared.token.Token.{Token}
use Rattle.ql_grammar.specs.Grammar.{keyword}
use Rattle.ql_grammar.specs.declared.stop.Halt.TheVariants as halts
use Rattle.ql_grammar.specs.declared.stop.Stop.{Stop}
use Rattle.ql_grammar.specs.declared.stop.Stop.TheVariants as stops
use Rattle.ql_parse.specs.Texts.{longest, offset, left_word}

-- The depth that is left and the tokens after a word, where it stands at the front and the depth is not 0.
abbrev pub IsOpened : {X : Type 0} → Word → ℕ → (X → ℕ × List Token) → List Token → Option X → Type 0
IsOpened w depth view ts None = (depth ≡ 0) ⊎ Stops (keyword w).first ts
IsOpened w depth view ts (Some x) = (depth ≡ suc (view x).0) × Starts (keyword w).first ts × Took (keyword w) ts (tt {0}) (view x).1

-- All tokens spell this query and no other, or reading stopped at their fault.
abbrev pub IsWhole : {A : Type 0} → Rule Token A → List Token → Result A Stop → Type 0
IsWhole r ts (Ok x) = r.is ts x × ((other : _) → r.is ts other → other ≡ x)
IsWhole r ts (Err stops.Memory) = Unit {0}
IsWhole r ts (Err (stops.At (halts.Here rest))) = Fault false r ts rest.now
IsWhole r ts (Err (stops.At (halts.LeftOut rest))) = Fault true r ts rest.now

-- The word is how the first token is written, if there is one.
abbrev pub IsLeftWord : List ℕ → List Token → Type 0
IsLeftWord word [] = Unit {0}
IsLeftWord word (t ∷ ts) = word ≡ left_word t.kind

-- What a text of this length is refused for, where reading its tokens stopped.
abbrev pub IsRefusal : ℕ → Stop → Fail → Type 0
IsRefusal end stops.Memory e = e ≡ fails.Memory
IsRefusal end (stops.At (halts.Here rest)) e = e ≡ fails.Refused (causes.QueryText (min (offset end rest.now) longest))
IsRefusal end (stops.At (halts.LeftOut rest)) e = (e ≡ fails.Memory) ⊎ ((word : List ℕ) × IsLeftWord word rest.now × (e ≡ fails.Refused (causes.QueryLeft word)))
