-- Where all tokens are read.
use Rattle.std.proofs.Common.{◌≡◌, false, true, List, [], ◌∷◌, Result, Err, sym, subst}
use Rattle.std.specs.Result.{IsErrAnd}
use Rattle.grammar_rules.specs.Rules.{Rule, Took, Fault}
use Rattle.grammar_rules.proofs.Laws.{Sane}
use Rattle.grammar_rules.proofs.Wholes.{whole, whole_only, left_over, stuck_fault}
use Rattle.ql_lex.specs.declared.token.Token.{Token}
use Rattle.ql_grammar.specs.Reads.{Stopped}
use Rattle.ql_grammar.specs.declared.stop.Halt.TheVariants as halts
use Rattle.ql_grammar.specs.declared.stop.Stop.{Stop}
use Rattle.ql_grammar.specs.declared.stop.Stop.TheVariants as stops
use Rattle.ql_grammar.proofs.Exits.{exit_as}
use Rattle.ql_parse.specs.Wholes.{IsWhole}

-- all tokens are read, or some are left, or reading stopped
module _ {A : Type 0} (r : Rule Token A) (sane : Sane r) (ts : List Token) where
  whole_stopped : (e : Stop) → Stopped r ts e → IsWhole r ts (Err e)
  whole_stopped stops.Memory h = tt
  whole_stopped (stops.At (halts.Here rest)) h = stuck_fault r sane false ts rest.now h
  whole_stopped (stops.At (halts.LeftOut rest)) h = stuck_fault r sane true ts rest.now h

  pub whole_exit : (e : Stop) (res : Result A Stop) → IsErrAnd res (λ y. y ≡ e) → Stopped r ts e → IsWhole r ts res
  whole_exit e res h s = exit_as (IsWhole r ts) e res h (whole_stopped e s)

  pub whole_took : (x : A) (rest : List Token) → rest ≡ [] → Took r ts x rest → r.is ts x × ((other : A) → r.is ts other → other ≡ x)
  whole_took x rest e p =
      let all : Took r ts x [] = (let P : List Token → Type 0 = Took r ts x in subst P e p) in
      (whole r sane ts x all, λ other w. whole_only r sane ts x other all w)

  pub whole_left : (x : A) (rest : List Token) {t : Token} {more : List Token} → rest ≡ t ∷ more → Took r ts x rest → Fault false r ts rest
  whole_left x rest {t} {more} e p =
      let P : List Token → Type 0 = Took r ts x in
      let Q : List Token → Type 0 = Fault false r ts in
      subst Q (sym e) (left_over r sane ts more t x (subst P e p))
