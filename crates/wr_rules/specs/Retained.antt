-- What retention and holds keep among the objects of given numbers.
use Rattle.std.specs.Prelude.{Bool, false, Option, unwrap_or, option_map, option_and_then}
use Rattle.cm_base.specs.declared.number.Moment.{Moment}
use Rattle.cm_base.specs.declared.number.Oid.{Oid}
use Rattle.cm_base.specs.declared.cause.Cause.{Cause}
use Rattle.cmis_spec.specs.Repository.{Repository, object_at}
use Rattle.cmis_spec.specs.Retention.{is_under_hold, retained_cause}

-- the object of this number is there, and under hold
abbrev pub is_held_at : Repository → Oid → Bool
is_held_at r n = unwrap_or (option_map (is_under_hold r) (object_at r n)) false

-- the object of this number is there, and under retention at the moment
abbrev pub retained_at : Repository → Moment → Oid → Option Cause
retained_at r m n = option_and_then (retained_cause r m) (object_at r n)
