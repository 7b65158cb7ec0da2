-- What the eight bytes of a number tell.
use Rattle.std.proofs.Common.{◌≡◌, ℕ, ◌<◌, ◌^◌, Bool, true, List, get_or, length, Option, Some, None, refl, ap, subst, sym, ◌∙◌, arith}
use Rattle.std.specs.Prelude.{bytes_eq, MatchOption}
use Rattle.std.specs.Int.{w64, to_be_bytes, from_be_bytes}
use Rattle.std.proofs.lemmas.Bool.{lt-ltb}
use Rattle.std.proofs.lemmas.Nat.{be_bytes_8}
use Rattle.std.proofs.lemmas.Slice.Eq.{bytes_eq-Decides}
use Rattle.byte_codec.specs.Codecs.{◌>>=◌}
use Rattle.byte_codec.specs.Parts.{beside}
use Rattle.byte_codec.specs.Numbers.{front_reads, front_only, number_of, numbered, number_reads, counted, bytes_reads}

pub front_length : (n : ℕ) (old front new : List ℕ) → front_reads n old ≡ Some (front, new) → length front ≡ n
front_length n old front new e = (front_only n old (front, new) e).1

pub number_is : (front : List ℕ) → length front ≡ 8 → ((i : ℕ) → get_or front i 0 < 256) → number_of front ≡ Some (from_be_bytes w64 front)
number_is front len fits =
    let back : to_be_bytes w64 (from_be_bytes w64 front) ≡ front = be_bytes_8 front (from_be_bytes w64 front) len fits refl in
    let same : bytes_eq (to_be_bytes w64 (from_be_bytes w64 front)) front ≡ true = (bytes_eq-Decides (to_be_bytes w64 (from_be_bytes w64 front)) front).1 back in
    let below : from_be_bytes w64 front < 2 ^ 64 = omega (arith, fits 0, fits 1, fits 2, fits 3, fits 4, fits 5, fits 6, fits 7) in
    rw (lt-ltb _ _ below, same) refl
