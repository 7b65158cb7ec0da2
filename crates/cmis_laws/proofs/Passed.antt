-- What is known once a refusal is none.
use Rattle.std.specs.Prelude.{◌≡◌, Bool, true, false, if◌then◌else◌, List, [], ◌∷◌, All, Option, Some, None, Ok, Err, option_and_then, not, ◌||◌}
use Rattle.std.proofs.Common.{refl, sym, ap}
use Rattle.std.proofs.lemmas.Bool.{both_ways}
use Rattle.std.proofs.lemmas.List.Elements.{All-nil, All-cons}
use Rattle.cm_base.specs.declared.cause.Cause.{Cause}
use Rattle.cm_base.specs.Judged.{Judged, refuse, find_or, judge_by, first_cause, ◌>>=◌, ◌>>◌}
use Rattle.cmis_laws.proofs.Lists.{none_some}

pub err_ok : {A : Type 0} (c : Cause) (x : A) → Err c ≡ Ok x → ⊥
err_ok c x h = both_ways false refl (ap (λ j. elim j [ Ok y ↦ true | Err d ↦ false ]) h)

pub some_none : {A : Type 0} (x : A) → Some x ≡ None → ⊥
some_none x h = none_some x (sym h)

-- ---- lines of a refusal

pub refused_not : (c : Cause) (b : Bool) → refuse c b ≡ Ok tt → b ≡ false
refused_not c true h = absurd (err_ok {A = Unit {0}} c tt h)
refused_not c false h = refl

pub then_ok : (j rest : Judged (Unit {0})) → j >> rest ≡ Ok tt → (j ≡ Ok tt) × (rest ≡ Ok tt)
then_ok (Ok tt') rest h = (refl, h)
then_ok (Err c) rest h = absurd (err_ok {A = Unit {0}} c tt h)

pub refuse_ok : (c : Cause) (b : Bool) (rest : Judged (Unit {0})) → refuse c b >> rest ≡ Ok tt → (b ≡ false) × (rest ≡ Ok tt)
refuse_ok c true rest h = absurd (err_ok {A = Unit {0}} c tt h)
refuse_ok c false rest h = (refl, h)

pub find_ok : {A : Type 0} (c : Cause) (o : Option A) (f : A → Judged (Unit {0})) → find_or c o >>= f ≡ Ok tt → (x : A) × (o ≡ Some x) × (f x ≡ Ok tt)
find_ok c None f h = absurd (err_ok {A = Unit {0}} c tt h)
find_ok c (Some x) f h = (x, refl, h)

pub first_none : {A : Type 0} (f : A → Option Cause) (xs : List A) → first_cause f xs ≡ Ok tt → All (λ x. f x ≡ None) xs
first_none f [] h = All-nil (λ x. f x ≡ None)
first_none f (x ∷ xs) h =
    let s : (judge_by (f x) ≡ Ok tt) × (first_cause f xs ≡ Ok tt) = then_ok (judge_by (f x)) (first_cause f xs) h in
    All-cons (λ x. f x ≡ None) x xs (none (f x) s.0) (first_none f xs s.1)
  where
    none : (o : Option Cause) → judge_by o ≡ Ok tt → o ≡ None
    none None e = refl
    none (Some c) e = absurd (err_ok {A = Unit {0}} c tt e)

-- ---- what is found, and then tested

pub and_then_some : {A B : Type 0} (f : A → Option B) (o : Option A) (y : B) → option_and_then f o ≡ Some y → (x : A) × (o ≡ Some x) × (f x ≡ Some y)
and_then_some f None y h = absurd (none_some y h)
and_then_some f (Some x) y h = (x, refl, h)

pub if_some : {A : Type 0} (b : Bool) (x y : A) → if b then Some x else None ≡ Some y → (b ≡ true) × (x ≡ y)
if_some true x y h = (refl, ap (λ o. elim o [ None ↦ x | Some z ↦ z ]) h)
if_some false x y h = absurd (none_some y h)

-- ---- tests

pub not_false : (b : Bool) → not b ≡ false → b ≡ true
not_false true h = refl
not_false false h = absurd (both_ways true h refl)

pub or_left : (a b : Bool) → a || b ≡ false → a ≡ false
or_left true b h = h
or_left false b h = refl

pub or_right : (a b : Bool) → a || b ≡ false → b ≡ false
or_right true b h = absurd (both_ways true h refl)
or_right false b h = h
