-- What the loop over the tokens keeps.
use Rattle.std.proofs.Common.{ℕ, List, [], ◌∷◌, ◌++◌, append_assoc, sym, subst}
use Rattle.std.proofs.lemmas.List.{append-nil}
use Rattle.ql_lex.specs.Lexes.{Lexes}
use Rattle.ql_lex.specs.declared.token.Token.{Token}

-- The tokens so far, and whatever the rest of the text has, are the tokens of the text.
pub record Reading (limit : ℕ) (text : List ℕ) (found : List Token) (at : ℕ) (rest : List ℕ) : Type 0 where
  pub whole : (ts : List Token) → Lexes limit at rest ts → Lexes limit 0 text (found ++ ts)

pub reading_start : (limit : ℕ) (text : List ℕ) → Reading limit text [] 0 text
reading_start limit text = record { whole = λ ts h. h }

module _ (limit : ℕ) (text : List ℕ) (found : List Token) (at : ℕ) (rest : List ℕ) (r : Reading limit text found at rest) where
  pub reading_more : (t : Token) (at' : ℕ) (rest' : List ℕ) → ((ts : List Token) → Lexes limit at' rest' ts → Lexes limit at rest (t ∷ ts)) → Reading limit text (found ++ t ∷ []) at' rest'
  reading_more t at' rest' h = record { whole = λ ts k. subst (Lexes limit 0 text) (sym (append_assoc found (t ∷ []) ts)) (r.whole (t ∷ ts) (h ts k)) }

  pub reading_end : Lexes limit at rest [] → Lexes limit 0 text found
  reading_end h = subst (Lexes limit 0 text) (append-nil found) (r.whole [] h)

  pub reading_last : (t : Token) → Lexes limit at rest (t ∷ []) → Lexes limit 0 text (found ++ t ∷ [])
  reading_last t h = r.whole (t ∷ []) h

  pub reading_broken : (t u : Token) → Lexes limit at rest (t ∷ u ∷ []) → Lexes limit 0 text ((found ++ t ∷ []) ++ u ∷ [])
  reading_broken t u h = subst (Lexes limit 0 text) (sym (append_assoc found (t ∷ []) (u ∷ []))) (r.whole (t ∷ u ∷ []) h)
