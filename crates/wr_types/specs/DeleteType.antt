-- deleteType (CMIS 1.1, section 2.2.2.8): when it is refused, and what it makes of the repository. Its reply is empty.
use Rattle.std.specs.Prelude.{ℕ, List, is_none}
use Rattle.std.specs.List.{list_any}
use Rattle.cm_base.specs.declared.number.Moment.{Moment}
use Rattle.cm_base.specs.declared.cause.Cause.TheVariants as causes
use Rattle.cm_base.specs.Judged.{Judged, ◌>>=◌, ◌>>◌, refuse}
use Rattle.cm_types.specs.Types.{type_in}
use Rattle.cm_types.specs.Changes.{without_type, judge_without_type}
use Rattle.type_change_parts.specs.declared.writes.DeleteType.{DeleteType}
use Rattle.type_change_parts.specs.Weight.{weight_of_delete_type}
use Rattle.cmis_spec.specs.Repository.{Repository, is_of_type}
use Rattle.wr_rules.specs.Rules.{judge_storage}
use Rattle.wr_types.specs.Retyped.{may_not_type, retyped}

abbrev pub cost_delete_type : DeleteType → ℕ
cost_delete_type call = weight_of_delete_type call

-- ---- the refusal

-- a type that is not there comes before the caller's rights; then the causes of the list of types: a type that allows no deletion, a
-- subtype; then an object of the type, be it read by the caller or not
abbrev pub refusal_delete_type : Repository → List ℕ → ℕ → DeleteType → Judged (Unit {0})
refusal_delete_type r u cost call = do
  judge_storage r cost
  refuse causes.TypeNotFound (is_none (type_in r.types call.type_id))
  refuse causes.Denied (may_not_type r u)
  types ← judge_without_type r.types call.type_id
  refuse causes.TypeInUse (list_any (is_of_type call.type_id) r.objects)

-- ---- the repository after it

abbrev pub after_delete_type : Repository → List ℕ → Moment → ℕ → DeleteType → Repository
after_delete_type r u m cost call = retyped r (without_type r.types call.type_id) cost
