-- A piece and then another, and the pieces of the writes.
use Rattle.std.proofs.Common.{◌≡◌, ◌++◌, ◌∙◌, List, [], ◌∷◌, ℕ, Option, Some, None, refl, ap, sym, append_assoc, append-nil}
use Rattle.outside.specs.Outside.{SinkTold, Took, with_pieces}
use Rattle.http_reply.specs.Sent.{TookFront, IsRest, AreRests, Offers}
use Rattle.outside.proofs.Known.{Took-then}

pub failed_first : (old new : SinkTold) (a b : List ℕ) → TookFront old new a → TookFront old new (a ++ b)
failed_first old new a b (front, rest, e, t) = (front, rest ++ b, ap (λ (x : List ℕ). x ++ b) e ∙ append_assoc front rest b, t)

pub failed_second : (old mid new : SinkTold) (a b : List ℕ) → Took old mid a → TookFront mid new b → TookFront old new (a ++ b)
failed_second old mid new a b p (front, rest, e, t) =
    (a ++ front, rest, ap (λ (x : List ℕ). a ++ x) e ∙ sym (append_assoc a front rest), Took-then old mid new a front p t)

-- ---- the pieces

then-pieces : (o : Option (List (List ℕ))) (ps qs : List (List ℕ)) → with_pieces (with_pieces o ps) qs ≡ with_pieces o (ps ++ qs)
then-pieces None ps qs = refl
then-pieces (Some xs) ps qs = ap Some (append_assoc xs ps qs)

no-pieces : (o : Option (List (List ℕ))) → o ≡ with_pieces o []
no-pieces None = refl
no-pieces (Some xs) = ap Some (sym (append-nil xs))

one-more : (text piece : List ℕ) (ps : List (List ℕ)) → AreRests text ps → IsRest text piece → AreRests text (ps ++ piece ∷ [])
one-more text piece [] all is = (is, tt)
one-more text piece (p ∷ ps) all is = (all.0, one-more text piece ps all.1 is)

pub offers-none : (o : Option (List (List ℕ))) (text : List ℕ) → Offers o o text
offers-none o text = record { pieces = []; rests = tt; new_is = no-pieces o }

pub offers-more : (old mid new : Option (List (List ℕ))) (text piece : List ℕ) → Offers old mid text → new ≡ with_pieces mid (piece ∷ []) → IsRest text piece → Offers old new text
offers-more old mid new text piece o is rest = record {
  pieces = o.pieces ++ piece ∷ [];
  rests = one-more text piece o.pieces o.rests rest;
  new_is = is ∙ (ap (λ m. with_pieces m (piece ∷ [])) o.new_is ∙ then-pieces old o.pieces (piece ∷ []));
}
