-- An entry begins with the eight bytes of a number below 2 ^ 32, so its first byte is 0; other people begin with a P.
use Rattle.std.proofs.Common.{◌≡◌, ℕ, ◌<◌, ◌^◌, Bool, true, false, List, ◌++◌, refl, ap, arith}
use Rattle.std.specs.Prelude.{◌==◌}
use Rattle.std.specs.Int.{byte_at}
use Rattle.cm_call.specs.declared.write.Write.{Write}
use Rattle.desk_model.specs.declared.entry.Entry.{Entry}
use Rattle.journal_people.specs.Told.{PeopleTold}
use Rattle.byte_codec.specs.Marks.{begins, IsApart}
use Rattle.byte_codec.specs.Numbers.{number_code}
use Rattle.journal_codec.specs.Roots.{new_people_codec}
use Rattle.journal_codec.specs.Entries.{entry_codec}

zero_is_no_mark : (b : ℕ) → b ≡ 0 → (b == 80) ≡ false
zero_is_no_mark b e = ap (λ (k : ℕ). k == 80) e

pub small_begins : (n : ℕ) (more rest : List ℕ) → n < 2 ^ 32 → begins 80 ((number_code n ++ more) ++ rest) ≡ false
unfolding number_code
small_begins n more rest lt = zero_is_no_mark (byte_at 7 n) (omega (arith, lt))

pub entries_are_no_people : IsApart 80 new_people_codec entry_codec
entries_are_no_people = record {
  is = λ p rest fits. refl;
  not = λ e rest fits. small_begins e.session _ rest fits.0.0;
}
