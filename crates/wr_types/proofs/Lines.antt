-- What the lines of a judgement say once it is made.
use Rattle.std.specs.Prelude.{◌≡◌, Bool, true, false, Option, Some, None, Ok, Err}
use Rattle.std.proofs.Common.{refl, ap}
use Rattle.cm_base.specs.declared.cause.Cause.{Cause}
use Rattle.cm_base.specs.Judged.{Judged, refuse, find_or, ◌>>=◌, ◌>>◌}
use Rattle.cmis_laws.proofs.Passed.{err_ok}

abbrev made : {A : Type 0} → A → Judged A
made x = Ok x

pub ok_same : {A : Type 0} (x y : A) → made x ≡ made y → x ≡ y
ok_same x y h = ap (λ j. elim j [ Ok z ↦ z | Err c ↦ x ]) h

pub line_passed : {A : Type 0} (c : Cause) (b : Bool) (rest : Judged A) (x : A) → refuse c b >> rest ≡ Ok x → (b ≡ false) × (rest ≡ Ok x)
line_passed c true rest x h = absurd (err_ok c x h)
line_passed c false rest x h = (refl, h)

pub lines_passed : {A : Type 0} (j : Judged (Unit {0})) (rest : Judged A) (x : A) → j >> rest ≡ Ok x → (j ≡ Ok tt) × (rest ≡ Ok x)
lines_passed (Ok tt') rest x h = (refl, h)
lines_passed (Err c) rest x h = absurd (err_ok c x h)

pub line_found : {A B : Type 0} (c : Cause) (o : Option A) (f : A → Judged B) (x : B) → find_or c o >>= f ≡ Ok x → (y : A) × (o ≡ Some y) × (f y ≡ Ok x)
line_found c None f x h = absurd (err_ok c x h)
line_found c (Some y) f x h = (y, refl, h)

pub line_bound : {A B : Type 0} (j : Judged A) (f : A → Judged B) (x : B) → j >>= f ≡ Ok x → (y : A) × (j ≡ Ok y) × (f y ≡ Ok x)
line_bound (Ok y) f x h = (y, refl, h)
line_bound (Err c) f x h = absurd (err_ok c x h)
