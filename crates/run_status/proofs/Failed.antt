-- A session ends with 3 or 4 only where that side failed.
use Rattle.std.specs.Prelude.{◌≡◌, ◌==◌, ℕ, Bool, true, false, List}
use Rattle.std.proofs.Common.{refl, sym, ap, ◌∙◌}
use Rattle.std.proofs.lemmas.Bool.{both_ways}
use Rattle.talk.specs.declared.end.End.{End}
use Rattle.talk.specs.declared.end.End.TheVariants.{Ended, Bad, ReadFault, WriteFault, Starved, Unkept}
use Rattle.talk.specs.Wire.{Wire}
use Rattle.talk.specs.Session.{Turn, Ends}
use Rattle.run_status.specs.Status.{status_of}

-- the numbers differ
pub apart : {G : Type 0} (p : ℕ → Bool) (m n : ℕ) → p m ≡ true → p n ≡ false → m ≡ n → G
apart p m n h k e = absurd (both_ways false refl (sym k ∙ (sym (ap p e) ∙ h)))

-- a session ends with 3 only where its input failed
pub input_of : {C : Type 0} (w : Wire) (ts : List (Turn C)) (rest : List ℕ) (over : Bool) (output : List ℕ) (r f : Bool) (end : End) → Ends w ts rest over output r f end → status_of end ≡ 3 → r ≡ true
input_of w ts rest over output r f Ended e h = apart (λ n. n == 0) 0 3 refl refl h
input_of w ts rest over output r f (Bad fault) e h = apart (λ n. n == 8) 8 3 refl refl h
input_of w ts rest over output r f ReadFault e h = e.1
input_of w ts rest over output r f WriteFault e h = apart (λ n. n == 4) 4 3 refl refl h
input_of w ts rest over output r f Starved e h = apart (λ n. n == 7) 7 3 refl refl h
input_of w ts rest over output r f Unkept e h = apart (λ n. n == 9) 9 3 refl refl h

-- and with 4 only where its output failed
pub output_of : {C : Type 0} (w : Wire) (ts : List (Turn C)) (rest : List ℕ) (over : Bool) (output : List ℕ) (r f : Bool) (end : End) → Ends w ts rest over output r f end → status_of end ≡ 4 → f ≡ true
output_of w ts rest over output r f Ended e h = apart (λ n. n == 0) 0 4 refl refl h
output_of w ts rest over output r f (Bad fault) e h = apart (λ n. n == 8) 8 4 refl refl h
output_of w ts rest over output r f ReadFault e h = apart (λ n. n == 3) 3 4 refl refl h
output_of w ts rest over output r f WriteFault e h = e.1
output_of w ts rest over output r f Starved e h = apart (λ n. n == 7) 7 4 refl refl h
output_of w ts rest over output r f Unkept e h = apart (λ n. n == 9) 9 4 refl refl h
