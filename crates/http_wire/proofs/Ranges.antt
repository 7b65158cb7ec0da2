-- Parts of a vector between two offsets, and one more read into it.
use Rattle.std.proofs.Common.{◌≡◌, ◌++◌, ◌∙◌, ◌≤◌, ◌+◌, ◌-◌, ℕ, List, length, take, drop, sym, ap, arith}
use Rattle.std.specs.Prelude.{slice_range}
use Rattle.std.proofs.lemmas.List.{drop-take, drop-drop, length-take}
use Rattle.std.proofs.Math.Seq.{take-add}
use Rattle.outside.specs.Outside.{SourceTold, ReadsBytes, Gave}

-- a part is the end of a front
front_end : (xs : List ℕ) (s e : ℕ) → s ≤ e → drop s (take e xs) ≡ slice_range xs s e
front_end xs s e le =
    let n : s + (e - s) ≡ e = omega arith in
    sym (ap (λ (k : ℕ). drop s (take k xs)) n) ∙ drop-take s (e - s) xs

-- a part without its first bytes
pub drop_range : (xs : List ℕ) (s e c : ℕ) → s ≤ e → e ≤ length xs → c ≤ length (slice_range xs s e) → slice_range xs (s + c) e ≡ drop c (slice_range xs s e)
drop_range xs s e c le within few =
    let n : length (slice_range xs s e) ≤ e - s = omega (arith, length-take (e - s) (drop s xs)) in
    let m : c + (e - (s + c)) ≡ e - s = omega arith in
    sym (sym (ap (λ (k : ℕ). drop c (take k (drop s xs))) m) ∙ drop-take c (e - (s + c)) (drop s xs) ∙ ap (take (e - (s + c))) (drop-drop c s xs))

-- a part with the next bytes, where the front stays
pub longer_range : (xs ys : List ℕ) (s e n : ℕ) → s ≤ e → take e ys ≡ take e xs → slice_range ys s (e + n) ≡ slice_range xs s e ++ take n (drop e ys)
longer_range xs ys s e n le same =
    let k : e + n - s ≡ (e - s) + n = omega arith in
    let m : s + (e - s) ≡ e = omega arith in
    ap (λ (j : ℕ). take j (drop s ys)) k ∙ take-add (e - s) n (drop s ys)
    ∙ ap (λ (t : List ℕ). t ++ take n (drop (e - s) (drop s ys))) (sym (front_end ys s e le) ∙ ap (drop s) same ∙ front_end xs s e le)
    ∙ ap (λ (t : List ℕ). slice_range xs s e ++ take n t) (drop-drop (e - s) s ys ∙ ap (λ (j : ℕ). drop j ys) m)

pub same_range : (xs ys : List ℕ) (s e : ℕ) → s ≤ e → take e ys ≡ take e xs → slice_range ys s e ≡ slice_range xs s e
same_range xs ys s e le same = sym (front_end ys s e le) ∙ ap (drop s) same ∙ front_end xs s e le

-- a read that gave some bytes
pub some_gave : (old new : SourceTold) (bytes : List ℕ) (n : ℕ) → ReadsBytes old new bytes n → old.faults ≤ new.faults → Gave old new bytes
some_gave old new bytes n r later = record { left = r.left; given = r.given; later = later }
