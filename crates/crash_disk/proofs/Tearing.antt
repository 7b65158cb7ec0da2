-- A write that is cut short.
use Rattle.std.proofs.Common.{◌≡◌, ℕ, ◌+◌, ◌-◌, ◌≤◌, List, ◌++◌, length, take, drop, sym, subst, ◌∙◌, ap, arith, append_assoc, length-append, length-take, length-drop}
use Rattle.std.proofs.lemmas.List.{take_at}
use Rattle.std.proofs.lemmas.Slice.{drop-append-drop}
use Rattle.disk.specs.Disks.{Torn, overwritten}

-- a piece over a file, where it stands at the front of a range of n bytes
pub torn_by : (old new piece : List ℕ) (at n : ℕ) → at ≤ length old → length piece ≤ n → new ≡ overwritten old at piece → Torn at n old new
torn_by old new piece at n within most is =
    let front : length (take at old) ≡ at = omega (arith, length-take at old, within) in
    let whole : length (overwritten old at piece) ≡ at + length piece + (length old - (at + length piece)) =
    omega (arith, length-append (take at old ++ piece) (drop (at + length piece) old), length-append (take at old) piece, length-drop (at + length piece) old, front) in
    subst (Torn at n old) (sym is) record {
      before =
          ap (λ (l : List ℕ). take at l) (append_assoc (take at old) piece (drop (at + length piece) old))
          ∙ take_at (take at old) (piece ++ drop (at + length piece) old) at front;
      behind = drop-append-drop (at + length piece) old (take at old ++ piece) (at + n) (omega (arith, most)) (omega (arith, length-append (take at old) piece, front));
      no_shorter = omega (arith, whole, within);
      no_longer = omega (arith, whole, within, most);
    }
