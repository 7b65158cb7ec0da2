-- What retention and holds keep among the objects of given numbers.
use Rattle.std.specs.Prelude.{◌≡◌, List, filter_map}
use Rattle.std.specs.List.{list_any}
use Rattle.cm_base.specs.declared.number.Moment.{Moment}
use Rattle.cm_base.specs.declared.number.Oid.{Oid}
use Rattle.cm_base.specs.declared.cause.Cause.TheVariants as causes
use Rattle.cm_base.specs.Judged.{◌>>◌, refuse, first_cause}
use Rattle.cmis_spec.specs.Repository.{Repository, object_at}
use Rattle.cmis_spec.specs.Retention.{is_under_hold, judge_kept, retained_cause}
use Rattle.wr_rules.specs.Retained.{is_held_at, retained_at}
use Rattle.wr_rules.proofs.Causes.{first_found}
use Rattle.wr_rules.proofs.Named.{any_found}

pub held_numbers : (r : Repository) (ns : List Oid) → list_any (is_held_at r) ns ≡ list_any (is_under_hold r) (filter_map (object_at r) ns)
held_numbers r ns = any_found (object_at r) (is_under_hold r) ns

pub kept_numbers : (r : Repository) (m : Moment) (ns : List Oid) → (refuse causes.Held (list_any (is_held_at r) ns) >> first_cause (retained_at r m) ns) ≡ judge_kept r m (filter_map (object_at r) ns)
kept_numbers r m ns i = refuse causes.Held (held_numbers r ns i) >> first_found (object_at r) (retained_cause r m) ns i
