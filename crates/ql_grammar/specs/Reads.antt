-- What a reader of tokens answers.
use Rattle.std.specs.Prelude.{◌≡◌, Bool, true, false, List, [], ◌∷◌, Option, Some, None, Result, Ok, Err}
use Rattle.grammar_rules.specs.Rules.{Rule, Starts, Stops, Took, Stuck}
use Rattle.ql_lex.specs.declared.word.Word.{Word}
use Rattle.ql_lex.specs.declared.token.Token.{Token}
use Rattle.ql_grammar.specs.declared.stop.Halt.{Halt}
use Rattle.ql_grammar.specs.declared.stop.Halt.TheVariants as halts
use Rattle.ql_grammar.specs.declared.stop.Stop.{Stop}
use Rattle.ql_grammar.specs.declared.stop.Stop.TheVariants as stops
use Rattle.ql_grammar.specs.Grammar.{keyword, left_out}

-- The token with which reading can't go on.
abbrev pub Halted : {A : Type 0} → Rule Token A → List Token → Halt → Type 0
Halted r ts (halts.Here rest) = Stuck false r ts rest.now
Halted r ts (halts.LeftOut rest) = Stuck true r ts rest.now

-- Why reading stopped: for want of memory, or at such a token.
abbrev pub Stopped : {A : Type 0} → Rule Token A → List Token → Stop → Type 0
Stopped r ts stops.Memory = Unit {0}
Stopped r ts (stops.At halt) = Halted r ts halt

-- What a reader that takes no memory read, and the tokens after it; or the token at which it stopped.
abbrev pub Finds : {X A : Type 0} → Rule Token A → (X → A × List Token) → List Token → Result X Halt → Type 0
Finds r view ts (Ok x) = Took r ts (view x).0 (view x).1
Finds r view ts (Err halt) = Halted r ts halt

-- The same of a reader that takes memory.
abbrev pub Reads : {X A : Type 0} → Rule Token A → (X → A × List Token) → List Token → Result X Stop → Type 0
Reads r view ts (Ok x) = Took r ts (view x).0 (view x).1
Reads r view ts (Err stop) = Stopped r ts stop

-- The tokens after a word, where it stands at the front.
abbrev pub IsPast : {X : Type 0} → Word → (X → List Token) → List Token → Option X → Type 0
IsPast w view ts None = Stops (keyword w).first ts
IsPast w view ts (Some rest) = Starts (keyword w).first ts × Took (keyword w) ts (tt {0}) (view rest)

-- The first token and those after it, if there is one.
abbrev pub IsSplit : {X : Type 0} → (X → Token × List Token) → List Token → Option X → Type 0
IsSplit view ts None = ts ≡ []
IsSplit view ts (Some x) = ts ≡ (view x).0 ∷ (view x).1

-- Nothing was read: the first token is one that the language leaves out, or it isn't.
abbrev pub IsNoBeginning : List Token → Halt → Type 0
IsNoBeginning ts (halts.Here rest) = Stops left_out ts × (rest.now ≡ ts)
IsNoBeginning ts (halts.LeftOut rest) = Starts left_out ts × (rest.now ≡ ts)

-- Whether the first token is one that passes.
abbrev pub IsStart : (Token → Bool) → List Token → Bool → Type 0
IsStart test ts true = Starts test ts
IsStart test ts false = Stops test ts
