-- A moment within the bounds is that of its number as a clock's word.
use Rattle.std.specs.Prelude.{◌≡◌, ◌≤◌, ℕ, pos}
use Rattle.std.proofs.Common.{sym, ap}
use Rattle.desk_model.specs.Clocks.{moment_of}
use Rattle.std.proofs.Math.Nat.{min-eq_left}
use Rattle.std.specs.Prelude.{unsigned_abs}
use Rattle.cm_base.specs.declared.number.Moment.{Moment}
use Rattle.cm_base.specs.Moments.{last_moment}
use Rattle.cmis_words.specs.Bounds.{IsMoment}

of_word : (n : ℕ) → n ≤ last_moment → moment_of n ≡ record { 0 = pos n }
of_word n h = ap (λ k. record { 0 = pos k }) (min-eq_left {n = n} {m = last_moment} h)

pub is_of_word : (m : Moment) → IsMoment m → m ≡ moment_of (unsigned_abs m.0)
is_of_word m h = rw h.2 (sym (of_word h.0 h.1))
