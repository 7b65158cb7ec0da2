-- A text has one list of tokens.
use Rattle.std.proofs.Common.{◌≡◌, ℕ, ◌+◌, ◌<◌, List, [], ◌∷◌, length, drop, Option, Some, None, inl, inr, refl, sym, ◌∙◌, ap, subst, arith}
use Rattle.ql_lex.specs.Lexes.{Lexes, Follow, blanks, lexeme, ends_with}
use Rattle.ql_lex.specs.declared.token.Token.{Token}

none_left : (limit n : ℕ) (text : List ℕ) (u : Token) (us : List Token) → Lexes limit n text [] → Lexes limit n text (u ∷ us) → ⊥
none_left limit n text u us (inl h) k = let p : 0 < length (drop (blanks text) text) = k.0 in omega arith
none_left limit n text u us (inr h) k = let p : n + blanks text < limit = k.1 in omega arith

follow_one : (o : Option (List Token)) (t : Token) (ts us : List Token) (R S : Type 0) → (R → S → ts ≡ us) → Follow o ts R → Follow o us S → t ∷ ts ≡ t ∷ us
follow_one None t ts us R S same h k = ap (λ s. t ∷ s) (same h k)
follow_one (Some last) t ts us R S same h k = ap (λ s. t ∷ s) (h ∙ sym k)

pub lexes_one : (limit n : ℕ) (text : List ℕ) (ts us : List Token) → Lexes limit n text ts → Lexes limit n text us → ts ≡ us
lexes_one limit n text [] [] h k = refl
lexes_one limit n text [] (u ∷ us) h k = absurd (none_left limit n text u us h k)
lexes_one limit n text (t ∷ ts) [] h k = absurd (none_left limit n text t ts k h)
lexes_one limit n text (t ∷ ts) (u ∷ us) h k =
    let rest : List ℕ = drop (blanks text) text in
    let same : t ≡ u = h.2 ∙ sym k.2 in
    let next : ℕ = n + blanks text + (lexeme rest).1 in
    let left : List ℕ = drop (lexeme rest).1 rest in
    let tails : t ∷ ts ≡ t ∷ us = follow_one (ends_with (lexeme rest).0 (n + blanks text)) t ts us (Lexes limit next left ts) (Lexes limit next left us) (λ p q. lexes_one limit next left ts us p q) h.3 k.3 in
    subst (λ x. t ∷ ts ≡ x ∷ us) same tails
