-- What one more place of a list control adds.
use Rattle.std.proofs.Common.{◌≡◌, ℕ, ◌+◌, ◌-◌, ◌<◌, zero, suc, List, [], ◌∷◌, ◌++◌, length, take, get_or, refl, sym, ap, ◌∙◌, append_assoc, append-nil, arith}
use Rattle.std.specs.Prelude.{Some, None}
use Rattle.std.proofs.lemmas.List.{take_more, length-take}
use Rattle.cm_types.specs.declared.given.Given.{Given}
use Rattle.call_parts.specs.declared.writes.AceRequest.{AceRequest}
use Rattle.form_args.specs.declared.pairs.Pair.{Pair}
use Rattle.form_args.specs.Pairs.{first_of, indexed, texts_from}
use Rattle.form_args.specs.Properties.{given_at, givens_from}
use Rattle.form_args.specs.Entries.{ace_at, aces_from}

-- a list ends where a value is absent
texts_end : (pairs : List Pair) (name : List ℕ) (n i : ℕ) → first_of pairs (indexed name i) ≡ None → texts_from pairs name n i ≡ []
texts_end pairs name zero i none = refl
texts_end pairs name (suc n) i none = rw none refl

-- and goes on behind one that is there
texts_go : (pairs : List Pair) (name v : List ℕ) (n i : ℕ) → first_of pairs (indexed name i) ≡ Some v → texts_from pairs name (suc n) i ≡ v ∷ texts_from pairs name n (i + 1)
texts_go pairs name v n i some = rw some refl

-- a place of a list: what is found there, and what stays open behind it
pub texts_next : (pairs : List Pair) (name v : List ℕ) (done : List (List ℕ)) (all : List (List ℕ)) (i : ℕ) → i < length pairs
    → first_of pairs (indexed name i) ≡ Some v → all ≡ done ++ texts_from pairs name (length pairs - i) i
    → all ≡ (done ++ v ∷ []) ++ texts_from pairs name (length pairs - (i + 1)) (i + 1)
texts_next pairs name v done all i lt some h =
    let left : length pairs - i ≡ suc (length pairs - (i + 1)) = omega arith in
    let here : texts_from pairs name (length pairs - i) i ≡ v ∷ texts_from pairs name (length pairs - (i + 1)) (i + 1) = rw left (texts_go pairs name v (length pairs - (i + 1)) i some) in
    h ∙ ap (λ r. done ++ r) here ∙ sym (append_assoc done (v ∷ []) (texts_from pairs name (length pairs - (i + 1)) (i + 1)))

-- no value here: the list is whole
pub texts_whole : (pairs : List Pair) (name : List ℕ) (done all : List (List ℕ)) (n i : ℕ)
    → first_of pairs (indexed name i) ≡ None → all ≡ done ++ texts_from pairs name n i → done ≡ all
texts_whole pairs name done all n i none h = sym (h ∙ ap (λ r. done ++ r) (texts_end pairs name n i none) ∙ append-nil done)

-- one more property at the end
givens_more : (pairs : List Pair) (i : ℕ) (ids : List (List ℕ)) (id : List ℕ) → givens_from pairs i (ids ++ id ∷ []) ≡ givens_from pairs i ids ++ given_at pairs (i + length ids) id ∷ []
givens_more pairs i [] id = ap (λ n. given_at pairs n id ∷ []) (omega arith)
givens_more pairs i (x ∷ ids) id = ap (λ r. given_at pairs i x ∷ r) (givens_more pairs (i + 1) ids id ∙ ap (λ n. givens_from pairs (i + 1) ids ++ given_at pairs n id ∷ []) (omega arith))

aces_more : (pairs : List Pair) (permission : List ℕ) (i : ℕ) (all : List (List ℕ)) (who : List ℕ) → aces_from pairs permission i (all ++ who ∷ []) ≡ aces_from pairs permission i all ++ ace_at pairs permission (i + length all) who ∷ []
aces_more pairs permission i [] who = ap (λ n. ace_at pairs permission n who ∷ []) (omega arith)
aces_more pairs permission i (x ∷ all) who = ap (λ r. ace_at pairs permission i x ∷ r) (aces_more pairs permission (i + 1) all who ∙ ap (λ n. aces_from pairs permission (i + 1) all ++ ace_at pairs permission n who ∷ []) (omega arith))

-- the same by places of a list
pub givens_next : (pairs : List Pair) (ids : List (List ℕ)) (i : ℕ) (d : List ℕ) (done : List Given) → i < length ids → done ≡ givens_from pairs 0 (take i ids)
    → done ++ given_at pairs i (get_or ids i d) ∷ [] ≡ givens_from pairs 0 (take (i + 1) ids)
givens_next pairs ids i d done lt h =
    let at : 0 + length (take i ids) ≡ i = omega (arith, length-take i ids) in
    rw (h, take_more ids i d lt, givens_more pairs 0 (take i ids) (get_or ids i d), at) refl

pub aces_next : (pairs : List Pair) (permission : List ℕ) (all : List (List ℕ)) (i : ℕ) (d : List ℕ) (done : List AceRequest) → i < length all → done ≡ aces_from pairs permission 0 (take i all)
    → done ++ ace_at pairs permission i (get_or all i d) ∷ [] ≡ aces_from pairs permission 0 (take (i + 1) all)
aces_next pairs permission all i d done lt h =
    let at : 0 + length (take i all) ≡ i = omega (arith, length-take i all) in
    rw (h, take_more all i d lt, aces_more pairs permission 0 (take i all) (get_or all i d), at) refl
