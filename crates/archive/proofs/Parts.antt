-- A part of what stands in an archive.
use Rattle.std.proofs.Common.{◌≡◌, ◌∙◌, ap, sym, refl, subst, ℕ, ◌+◌, ◌-◌, ◌≤◌, Bool, true, false, List, [], ◌∷◌, length, take, drop, Some, None, arith, take-take, drop-drop, length-take-le, length-drop}
use Rattle.std.specs.declared.option.Option.{Option}
use Rattle.std.specs.Prelude.{slice_range, IfSome, IsTrue, is_some, not, ◌&&◌}
use Rattle.std.proofs.lemmas.List.{drop-take}
use Rattle.archive.specs.Extents.{Stands, IsWithin}

-- a part of a part
pub part_of_part : (n from len : ℕ) (bytes : List ℕ) → from + n ≤ len → take n (drop from (take len bytes)) ≡ take n (drop from bytes)
part_of_part n from len bytes within =
    let k : from + (len - from) ≡ len = omega (arith, within) in
    let e : take n (drop from (take (from + (len - from)) bytes)) ≡ take n (drop from bytes) =
    ap (take n) (drop-take from (len - from) bytes) ∙ take-take n (len - from) (drop from bytes) (omega (arith, within)) in
    ap (λ m. take n (drop from (take m bytes))) (sym k) ∙ e

-- what was read of an archive that tells its bytes
pub read_known : (told : Option (List ℕ)) (known : Bool) (place len from n : ℕ) (bytes room : List ℕ) → Stands told place len bytes
    → (known && not (is_some told)) ≡ false → from + n ≤ length bytes → IfSome told (λ all. room ≡ take n (drop (place + from) all)) → IsTrue known → room ≡ take n (drop from bytes)
read_known (Some all) known place len from n bytes room s k within is _ =
    let inside : from + n ≤ len = omega (arith, within, s.counted) in
    is ∙ ap (take n) (sym (drop-drop from place all)) ∙ sym (part_of_part n from len (drop place all) inside) ∙ ap (λ (b : List ℕ). take n (drop from b)) s.there
read_known None true place len from n bytes room s k within is _ = grind (arith, k)
read_known None false place len from n bytes room s k within is known = grind (arith, known)

part_length : (from to : ℕ) (whole : List ℕ) → from ≤ to → to ≤ length whole → length (slice_range whole from to) ≡ to - from
part_length from to whole ordered within = length-take-le (to - from) (drop from whole) (omega (arith, length-drop from whole, ordered, within))

-- a part of what stands in an archive stands there
pub stands_part : (told : Option (List ℕ)) (place from to : ℕ) (whole : List ℕ) → Stands told place (length whole) whole → from ≤ to → to ≤ length whole
    → Stands told (place + from) (length (slice_range whole from to)) (slice_range whole from to)
stands_part None place from to whole s ordered within =
    let n = part_length from to whole ordered within in
    record { counted = refl; inside = record { fits = omega (arith, n, ordered, within, s.inside.fits); within = tt }; there = tt }
stands_part (Some all) place from to whole s ordered within =
    let n = part_length from to whole ordered within in
    let k : from + length (slice_range whole from to) ≤ length whole = omega (arith, n, ordered, within) in
    let cut : take (length (slice_range whole from to)) (drop (place + from) all) ≡ take (length (slice_range whole from to)) (drop from whole) =
    ap (take (length (slice_range whole from to))) (sym (drop-drop from place all))
    ∙ (sym (part_of_part (length (slice_range whole from to)) from (length whole) (drop place all) k) ∙ ap (λ (b : List ℕ). take (length (slice_range whole from to)) (drop from b)) s.there) in
    record {
      counted = refl;
      inside = record { fits = omega (arith, n, ordered, within, s.inside.fits); within = omega (arith, n, ordered, within, s.inside.within) };
      there = cut ∙ ap (λ (m : ℕ). take m (drop from whole)) n;
    }

-- the same, by the places
pub stands_cut : (told : Option (List ℕ)) (place from to : ℕ) (whole part : List ℕ) → Stands told place (length whole) whole → from ≤ to → to ≤ length whole
    → part ≡ slice_range whole from to → Stands told (place + from) (to - from) part
stands_cut told place from to whole part s ordered within is =
    subst (λ (p : List ℕ). Stands told (place + from) (to - from) p) (sym is)
    (subst (λ (n : ℕ). Stands told (place + from) n (slice_range whole from to)) (part_length from to whole ordered within) (stands_part told place from to whole s ordered within))
