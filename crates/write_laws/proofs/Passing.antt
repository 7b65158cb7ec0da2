-- A call that is not refused, as most refusals begin: there is room for it, and what it addresses is found.
use Rattle.std.specs.Prelude.{◌≡◌, ℕ, Bool, true, false, if◌then◌else◌, List, Some, Ok, Err}
use Rattle.std.proofs.Common.{refl, ap}
use Rattle.cm_base.specs.declared.object.Object.{Object}
use Rattle.cm_base.specs.declared.cause.Cause.TheVariants as causes
use Rattle.cm_base.specs.Judged.{Judged, ◌>>=◌, ◌>>◌, find_or}
use Rattle.call_parts.specs.declared.place.Place.{Place}
use Rattle.cm_see.specs.Addressed.{addressed}
use Rattle.cmis_spec.specs.Repository.{Repository}
use Rattle.cmis_laws.proofs.Passed.{err_ok, find_ok, then_ok}
use Rattle.cmis_laws.proofs.Steps.{HasRoom}
use Rattle.wr_rules.specs.Rules.{judge_storage}
use Rattle.wr_rules.proofs.Room.{room_of}

pub record IsFound (r : Repository) (u : List ℕ) (cost : ℕ) (place : Place) (lines : Object → Judged (Unit {0})) : Type 0 where
  pub room : HasRoom r cost
  pub x : Object
  pub at : addressed r u place ≡ Some x
  pub rest : lines x ≡ Ok tt

pub found : (r : Repository) (u : List ℕ) (cost : ℕ) (place : Place) (lines : Object → Judged (Unit {0})) → judge_storage r cost >> (find_or causes.NotFound (addressed r u place) >>= lines) ≡ Ok tt → IsFound r u cost place lines
found r u cost place lines h =
    let s = then_ok (judge_storage r cost) _ h in
    let a = find_ok causes.NotFound (addressed r u place) lines s.1 in
    record { room = room_of r cost s.0; x = a.0; at = a.1; rest = a.2 }

-- of two choices, each where its test has come out so
pub choose : {A : Type 0} (P : A → Type 0) (b : Bool) (x y : A) → (b ≡ true → P x) → (b ≡ false → P y) → P (if b then x else y)
choose P true x y one other = one refl
choose P false x y one other = other refl

-- what is done where nothing refuses
pub done_is : {A : Type 0} (j : Judged (Unit {0})) (a x : A) → j >> Ok a ≡ Ok x → (j ≡ Ok tt) × (a ≡ x)
done_is (Ok y) a x h = (refl, ap (λ j. elim j [ Ok z ↦ z | Err c ↦ a ]) h)
done_is (Err c) a x h = absurd (err_ok c x h)
