-- The laws, as the readers use them.
use Rattle.std.proofs.Common.{◌≡◌, Bool, true, false, List, [], ◌∷◌, Option, Some, None, is_some, Result, Ok, Err, refl, sym, ◌∙◌, ap, subst}
use Rattle.std.specs.Result.{IsErrAnd}
use Rattle.std.proofs.lemmas.Result.{err_from_is_err_and}
use Rattle.grammar_rules.specs.Rules.{Rule, Starts, Stops, Took, Stuck, one, mapped}
use Rattle.grammar_rules.proofs.Laws.{Sane, took_one, stuck_at, took_mapped, stuck_mapped}
use Rattle.grammar_rules.proofs.Within.{Within, whole_within, Standing, standing_sane, standing_there}
use Rattle.grammar_rules.proofs.Lists.{stops_both}
use Rattle.ql_lex.specs.declared.word.Word.{Word}
use Rattle.ql_lex.specs.declared.token.Kind.{Kind}
use Rattle.ql_lex.specs.declared.token.Token.{Token}
use Rattle.ql_grammar.specs.Grammar as g
use Rattle.ql_grammar.specs.Reads.{Reads, Finds, Stopped, Halted, IsNoBeginning}
use Rattle.ql_grammar.specs.declared.stop.Halt.{Halt}
use Rattle.ql_grammar.specs.declared.stop.Halt.TheVariants as halts
use Rattle.ql_grammar.specs.declared.stop.Stop.{Stop}
use Rattle.ql_grammar.specs.declared.stop.Stop.TheVariants as stops

-- a part that is stuck leaves the whole stuck
module _ {A B : Type 0} {part : Rule Token B} {whole : Rule Token A} {r ts : List Token} (f : (l : Bool) (left : List Token) → Stuck l part r left → Stuck l whole ts left) where
  pub halted : (halt : Halt) → Halted part r halt → Halted whole ts halt
  halted (halts.Here rest) h = f false rest.now h
  halted (halts.LeftOut rest) h = f true rest.now h

  pub stopped : (e : Stop) → Stopped part r e → Stopped whole ts e
  stopped stops.Memory h = tt
  stopped (stops.At halt) h = halted halt h

-- the exit of a `?`
module _ {X E : Type 0} (P : Result X E → Type 0) where
  pub exit_as : (e : E) (res : Result X E) → IsErrAnd res (λ y. y ≡ e) → P (Err e) → P res
  exit_as e res h s = let p : (y : E) × (res ≡ Err y) × (y ≡ e) = err_from_is_err_and res h in subst P (sym (p.1 ∙ ap Err p.2)) s

module _ {X A : Type 0} (r : Rule Token A) (view : X → A × List Token) (ts : List Token) where
  pub exit : (e : Stop) (res : Result X Stop) → IsErrAnd res (λ y. y ≡ e) → Stopped r ts e → Reads r view ts res
  exit e res h s = exit_as (Reads r view ts) e res h s

  pub exit_found : (halt : Halt) (res : Result X Halt) → IsErrAnd res (λ y. y ≡ halt) → Halted r ts halt → Finds r view ts res
  exit_found halt res h s = exit_as (Finds r view ts) halt res h s

-- a token that passes
pub took_token : {A : Type 0} (test : Token → Option A) (ts : List Token) (t : Token) (rest : List Token) (x : A) → ts ≡ t ∷ rest → test t ≡ Some x → Took (one test) ts x rest
took_token test ts t rest x e h = let P : List Token → Type 0 = λ s. Took (one test) s x rest in subst P (sym e) (took_one test t rest x h)

pub starts_token : (test : Token → Bool) (ts : List Token) (t : Token) (rest : List Token) → ts ≡ t ∷ rest → test t ≡ true → Starts test ts
starts_token test ts t rest e h = let P : List Token → Type 0 = Starts test in subst P (sym e) h

pub stops_token : (test : Token → Bool) (ts : List Token) (t : Token) (rest : List Token) → ts ≡ t ∷ rest → test t ≡ false → Stops test ts
stops_token test ts t rest e h = let P : List Token → Type 0 = Stops test in subst P (sym e) h

pub stops_end : (test : Token → Bool) (ts : List Token) → ts ≡ [] → Stops test ts
stops_end test ts e = let P : List Token → Type 0 = Stops test in subst P (sym e) tt

unit_of : (o : Option (Unit {0})) → is_some o ≡ true → o ≡ Some (tt {0})
unit_of None h = absurd cc
unit_of (Some x) h = refl

pub took_word : (w : Word) (ts : List Token) (t : Token) (rest : List Token) → ts ≡ t ∷ rest → is_some (g.word_in w t.kind) ≡ true → Took (g.keyword w) ts (tt {0}) rest
took_word w ts t rest e h = took_token (λ u. g.word_in w u.kind) ts t rest (tt {0}) e (unit_of (g.word_in w t.kind) h)

-- a token of a kind
module _ {A : Type 0} (test : Kind → Option A) (ts : List Token) where
  pub took_kind : (t : Token) (rest : List Token) (x : A) → ts ≡ t ∷ rest → Some x ≡ test t.kind → Took (one (λ t. test t.kind)) ts x rest
  took_kind t rest x e h = took_token (λ u. test u.kind) ts t rest x e (sym h)

  module _ (sane : Sane (one (λ (t : Token). test t.kind))) where
    pub stuck_kind : (t : Token) (rest : List Token) → ts ≡ t ∷ rest → None ≡ test t.kind → Stuck false (one (λ t. test t.kind)) ts ts
    stuck_kind t rest e h = stuck_at (one (λ t. test t.kind)) sane ts (stops_token (λ t. is_some (test t.kind)) ts t rest e (sym (ap is_some h)))

    pub stuck_end : ts ≡ [] → Stuck false (one (λ t. test t.kind)) ts ts
    stuck_end e = stuck_at (one (λ t. test t.kind)) sane ts (stops_end (λ t. is_some (test t.kind)) ts e)

pub start : {A : Type 0} (r : Rule Token A) (ts : List Token) → Within r r (λ x. x) ts ts
start r ts = whole_within r ts

pub of_mapped : {A B : Type 0} (a : Rule Token A) (f : A → B) {ts rest : List Token} {x : A} → Took a ts x rest → Took (mapped a f) ts (f x) rest
of_mapped a f {ts} {rest} {x} p = took_mapped a f ts rest x p

module _ {A B : Type 0} (a : Rule Token A) (f : A → B) (ts : List Token) where
  pub out_mapped : (e : Stop) → Stopped a ts e → Stopped (mapped a f) ts e
  out_mapped = stopped (λ l left h. stuck_mapped a f l ts left h)

-- a last call whose answer is returned as it is
module _ {X A B : Type 0} {whole : Rule Token A} {part : Rule Token B} {k : B → A} {ts r : List Token} (w : Within whole part k ts r) (view : X → B × List Token) where
  pub last : (res : Result X Stop) → Reads part view r res → Reads whole (λ x. (k (view x).0, (view x).1)) ts res
  last (Ok x) h = w.took (view x).0 (view x).1 h
  last (Err e) h = stopped w.stuck e h

  pub last_found : (res : Result X Halt) → Finds part view r res → Finds whole (λ x. (k (view x).0, (view x).1)) ts res
  last_found (Ok x) h = w.took (view x).0 (view x).1 h
  last_found (Err halt) h = halted w.stuck halt h

-- where neither a part nor a token that stands for it begins, and where such a token does
pub nothing_begins : {A : Type 0} {served : Rule Token A} → Standing served g.left_out → (ts : List Token) (halt : Halt) → Stops served.first ts → IsNoBeginning ts halt → Halted (g.part served) ts halt
nothing_begins {served = served} j ts (halts.Here rest) stop h =
    let P : List Token → Type 0 = λ s. Stuck false (g.part served) ts s in
    subst P (sym h.1) (stuck_at (g.part served) (standing_sane j) ts (stops_both served.first g.left_out ts stop h.0))
nothing_begins {served = served} j ts (halts.LeftOut rest) stop h =
    let P : List Token → Type 0 = λ s. Stuck true (g.part served) ts s in
    subst P (sym h.1) (standing_there j ts h.0)
