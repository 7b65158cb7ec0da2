-- The bytes of pieces that are cut into those before and those behind a place.
use Rattle.std.specs.Prelude.{◌≡◌, ℕ, ◌+◌, ◌-◌, ◌<◌, ◌≤◌, ◌^◌, List, [], ◌++◌, length, take, drop}
use Rattle.std.proofs.Common.{sym, ap, ◌∙◌, arith, get_or, append_assoc}
use Rattle.std.proofs.lemmas.List.{length-append, take-append-drop, take_rest}
use Rattle.cm_base.specs.Whole.{whole}
use Rattle.cm_base.proofs.Wholes.{whole-append, whole-more}

whole_cut : (k : ℕ) (pieces : List (List ℕ)) → whole (take k pieces) ++ whole (drop k pieces) ≡ whole pieces
whole_cut k pieces = sym (whole-append (take k pieces) (drop k pieces)) ∙ ap whole (take-append-drop k pieces)

pub front_fits : (k : ℕ) (pieces : List (List ℕ)) → length (whole (take k pieces)) ≤ length (whole pieces)
front_fits k pieces =
    let n : length (whole (take k pieces)) + length (whole (drop k pieces)) ≡ length (whole pieces) = sym (length-append (whole (take k pieces)) (whole (drop k pieces))) ∙ ap length (whole_cut k pieces) in
    omega (arith, n)

-- one more piece fits where all do
pub more_fits : (all : List ℕ) (pieces : List (List ℕ)) (i : ℕ) (d : List ℕ) → i < length pieces → all ≡ whole (take i pieces) → length (whole pieces) < 2 ^ 64 → length all + length (get_or pieces i d) < 2 ^ 64
more_fits all pieces i d lt e fits =
    let n : length all + length (get_or pieces i d) ≡ length (whole (take (i + 1) pieces)) = sym (length-append all (get_or pieces i d)) ∙ ap length (whole-more all [] pieces i d lt e) in
    omega (arith, n, front_fits (i + 1) pieces, fits)

-- the front, and then the rest with more behind it
pub joined_is : (k : ℕ) (pieces : List (List ℕ)) (before behind list more : List ℕ) → before ≡ whole (take k pieces) → behind ≡ whole (take (length pieces - k) (drop k pieces)) ++ list → list ≡ more → before ++ behind ≡ whole pieces ++ more
joined_is k pieces before behind list more e f g =
    (λ i. e i ++ f i) ∙ ((λ i. whole (take k pieces) ++ (whole (take_rest pieces k i) ++ g i)) ∙ (sym (append_assoc (whole (take k pieces)) (whole (drop k pieces)) more) ∙ ap (λ xs. xs ++ more) (whole_cut k pieces)))
