-- A write that Storage does not refuse has room.
use Rattle.std.specs.Prelude.{◌≡◌, ℕ, ◌+◌, ◌<◌, ◌^◌, Ok, nat_lt}
use Rattle.std.proofs.Common.{arith}
use Rattle.std.proofs.lemmas.Bool.{ltb-false}
use Rattle.cm_base.specs.declared.cause.Cause.TheVariants as causes
use Rattle.cm_base.specs.Limits.{greatest_limit}
use Rattle.cmis_spec.specs.Repository.{Repository}
use Rattle.cmis_spec.specs.Well.{IsWellFormed}
use Rattle.cmis_laws.proofs.Passed.{refused_not, refuse_ok}
use Rattle.cmis_laws.proofs.Steps.{HasRoom}
use Rattle.wr_rules.specs.Rules.{judge_storage}

pub room_of : (r : Repository) (cost : ℕ) → judge_storage r cost ≡ Ok tt → HasRoom r cost
room_of r cost h =
    let s = refuse_ok (causes.Storage r.step 1 r.limits.most_steps) (nat_lt r.limits.most_steps (r.step + 1)) _ h in
    record {
      steps = omega (arith, ltb-false r.limits.most_steps (r.step + 1) s.0);
      bytes = omega (arith, ltb-false r.limits.most_bytes (r.cost + cost) (refused_not (causes.Storage r.cost cost r.limits.most_bytes) (nat_lt r.limits.most_bytes (r.cost + cost)) s.1));
    }

-- one more step and its cost stay numbers of 64 bits
pub fits_of : (r : Repository) (cost : ℕ) → IsWellFormed r → HasRoom r cost → (r.step + 1 < 2 ^ 64) × (r.cost + cost < 2 ^ 64)
unfolding greatest_limit
fits_of r cost w room = (omega (arith, room.steps, w.bounds.3.0), omega (arith, room.bytes, w.bounds.3.1))

-- and so does one more number
pub next_fits_of : (r : Repository) → IsWellFormed r → r.next + 1 < 2 ^ 64
unfolding greatest_limit
next_fits_of r w = omega (arith, w.bounds.2, w.bounds.0)
