use Rattle.std.proofs.Common.{◌≡◌, ℕ, ◌+◌, ◌<◌, List, [], ◌∷◌, ◌++◌, take, drop, length, map, true, false, refl, sym, ap, ◌∙◌, arith, eqb, one-add, add-one, append_assoc, append-nil, length-append}
use Rattle.std.proofs.lemmas.List.{get_or-append-add, get_or_append_left}
use Rattle.std.specs.Prelude.{filter, All, IsUtf8, if◌then◌else◌}
use Rattle.std.specs.List.{position_or_len}
use Rattle.form_urlencoded.specs.Form.{split, onto_first, is_nonempty}
use Rattle.percent_encoding.specs.Percent.{percent_decode}
use Rattle.request_target.specs.Path.{pieces_of, names_of, piece_names}
use Rattle.std.proofs.lemmas.List.Elements.{All-append}

cut_at : List ℕ → ℕ
cut_at bs = position_or_len (λ b. eqb b 47) bs

-- the first piece and what the rest after its slash gives
pub record CutsFirst (bs : List ℕ) : Type 0 where
  pub more : List (List ℕ)
  pub first : split 47 bs ≡ take (position_or_len (λ b. eqb b 47) bs) bs ∷ more
  pub rest : filter is_nonempty more ≡ pieces_of (drop (position_or_len (λ b. eqb b 47) bs + 1) bs)

onto_cuts : (b : ℕ) (ps : List (List ℕ)) (p : List ℕ) (more : List (List ℕ)) → ps ≡ p ∷ more → onto_first b ps ≡ (b ∷ p) ∷ more
onto_cuts b ps p more e = rw e

pub cuts_first : (bs : List ℕ) → CutsFirst bs
unfolding split
cuts_first [] = record { more = []; first = refl; rest = refl }
cuts_first (b ∷ bs) =
    let later = cuts_first bs in
    elim (eqb b 47) as (λ t. (eqb b 47 ≡ t) → CutsFirst (b ∷ bs)) [
      | true ↦ λ e. record { more = split 47 bs; first = rw e; rest = rw e }
      | false ↦ λ e. record { more = later.more; first = rw (e, one-add) (onto_cuts b _ _ _ later.first); rest = rw (e, one-add, add-one) (rw add-one at later.rest) }
    ] refl

-- what a path gives when its first piece is taken off
pub names_of-cut : (bs piece later : List ℕ) → piece ≡ take (position_or_len (λ b. eqb b 47) bs) bs → later ≡ drop (position_or_len (λ b. eqb b 47) bs + 1) bs
    → names_of bs ≡ piece_names piece ++ names_of later
names_of-cut bs piece later is_piece is_later =
    let cut = cuts_first bs in
    let first : split 47 bs ≡ piece ∷ cut.more = rw is_piece cut.first in
    let rest : filter is_nonempty cut.more ≡ pieces_of later = rw is_later cut.rest in
    elim (is_nonempty piece) as (λ t. (is_nonempty piece ≡ t) → names_of bs ≡ (if t then percent_decode piece ∷ [] else []) ++ names_of later) [
      | true ↦ λ e. ap (λ ps. map percent_decode (filter is_nonempty ps)) first ∙ rw (e, rest)
      | false ↦ λ e. ap (λ ps. map percent_decode (filter is_nonempty ps)) first ∙ rw (e, rest)
    ] refl

-- one turn of the walk over a path
pub record Walked (path : List ℕ) (done : List (List ℕ)) (rest : List ℕ) : Type 0 where
  pub same : names_of path ≡ done ++ names_of rest
  pub text : All IsUtf8 done

pub Walked-step : (path : List ℕ) (done new : List (List ℕ)) (rest piece later : List ℕ) → Walked path done rest
    → piece ≡ take (position_or_len (λ b. eqb b 47) rest) rest → later ≡ drop (position_or_len (λ b. eqb b 47) rest + 1) rest
    → (new ≡ done ++ piece_names piece) × All IsUtf8 (piece_names piece) → Walked path new later
Walked-step path done new rest piece later w is_piece is_later added = record {
  same = w.same ∙ ap (λ ns. done ++ ns) (names_of-cut rest piece later is_piece is_later) ∙ rw added.0 (sym (append_assoc done (piece_names piece) (names_of later)));
  text = rw added.0 (All-append IsUtf8 done (piece_names piece) w.text added.1);
}

All-middle : {X : Type 0} (P : X → Type 0) (a b c : List X) → All P (a ++ (b ++ c)) → All P b
All-middle P a b c h k d lt =
    let within : length a + k < length (a ++ (b ++ c)) = omega (arith, length-append a (b ++ c), length-append b c) in
    let at = h (length a + k) d within in
    rw (get_or-append-add a (b ++ c) k d, get_or_append_left b c d k lt) at at

pub Walked-bad : (path : List ℕ) (done : List (List ℕ)) (rest piece later : List ℕ) → Walked path done rest
    → piece ≡ take (position_or_len (λ b. eqb b 47) rest) rest → later ≡ drop (position_or_len (λ b. eqb b 47) rest + 1) rest
    → (All IsUtf8 (piece_names piece) → ⊥) → All IsUtf8 (names_of path) → ⊥
Walked-bad path done rest piece later w is_piece is_later bad all =
    let same : names_of path ≡ done ++ (piece_names piece ++ names_of later) = w.same ∙ ap (λ ns. done ++ ns) (names_of-cut rest piece later is_piece is_later) in
    bad (All-middle IsUtf8 done (piece_names piece) (names_of later) (rw same at all))

pub Walked-end : (path : List ℕ) (done : List (List ℕ)) (rest : List ℕ) → Walked path done rest → length rest ≡ 0 → (done ≡ names_of path) × All IsUtf8 (names_of path)
unfolding split
Walked-end path done [] w e =
    let same : names_of path ≡ done = w.same ∙ append-nil done in
    (sym same, rw same w.text)
Walked-end path done (b ∷ bs) w e = absurd (omega arith)
