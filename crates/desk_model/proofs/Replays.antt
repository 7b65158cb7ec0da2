-- A history that goes on by one entry, and by a list.
use Rattle.std.proofs.Common.{◌≡◌, List, [], ◌∷◌, ◌++◌, Result, Ok, refl}
use Rattle.desk_model.specs.declared.entry.Entry.{Entry}
use Rattle.desk_model.specs.Histories.{state_after, replay, IsLegal}

-- the replay of a list, and then of another
pub replay-append : {S C A X : Type 0} (next : S → Entry C → Result (S × A) X) (s : S) (g h : List (Entry C)) → replay next s (g ++ h) ≡ replay next (replay next s g) h
replay-append next s [] h = refl
replay-append next s (e ∷ es) h = replay-append next (state_after s (next s e)) es h

-- a legal list, and then another
pub legal-append : {S C A X : Type 0} (next : S → Entry C → Result (S × A) X) (s : S) (g h : List (Entry C)) → IsLegal next s g → IsLegal next (replay next s g) h → IsLegal next s (g ++ h)
legal-append next s [] h p q = q
legal-append next s (e ∷ es) h p q = (p.0, legal-append next (state_after s (next s e)) es h p.1 q)

-- a front of a legal list is legal
pub legal-front : {S C A X : Type 0} (next : S → Entry C → Result (S × A) X) (s : S) (g h : List (Entry C)) → IsLegal next s (g ++ h) → IsLegal next s g
legal-front next s [] h p = tt
legal-front next s (e ∷ es) h p = (p.0, legal-front next (state_after s (next s e)) es h p.1)

-- the step that isn't refused leads on
pub replay-more : {S C A X : Type 0} (next : S → Entry C → Result (S × A) X) (s t : S) (a : A) (h : List (Entry C)) (e : Entry C) → next (replay next s h) e ≡ Ok (t, a) → t ≡ replay next s (h ++ e ∷ [])
replay-more next s t a h e p = rw (replay-append next s h (e ∷ []), p) refl

-- the entry of a step that isn't refused keeps the list legal
pub legal-more : {S C A X : Type 0} (next : S → Entry C → Result (S × A) X) (s t : S) (a : A) (h : List (Entry C)) (e : Entry C) → IsLegal next s h → next (replay next s h) e ≡ Ok (t, a) → IsLegal next s (h ++ e ∷ [])
legal-more next s t a h e l p = legal-append next s h (e ∷ []) l (rw p refl, tt)

-- a state that is the replay of a legal history, after one step more
pub kept-more : {S C A X : Type 0} (next : S → Entry C → Result (S × A) X) (o s t : S) (a : A) (h j : List (Entry C)) (e : Entry C) → (s ≡ replay next o h) × IsLegal next o h → next s e ≡ Ok (t, a) → j ≡ h ++ e ∷ [] → (t ≡ replay next o j) × IsLegal next o j
kept-more next o s t a h j e k p is =
    let q : next (replay next o h) e ≡ Ok (t, a) = rw (← k.0) p in
    rw is (replay-more next o t a h e q, legal-more next o t a h e k.1 q)
