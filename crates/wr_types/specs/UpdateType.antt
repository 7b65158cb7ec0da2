-- updateType (CMIS 1.1, section 2.2.2.7): when it is refused, what it makes of the repository, and what it answers.
use Rattle.std.specs.Prelude.{ℕ, false, List, Ok, is_none, unwrap_or}
use Rattle.cm_base.specs.declared.number.Moment.{Moment}
use Rattle.cm_base.specs.declared.cause.Cause.TheVariants as causes
use Rattle.cm_base.specs.Judged.{Judged, ◌>>=◌, ◌>>◌, refuse}
use Rattle.cm_types.specs.declared.definition.TypeDef.{TypeDef}
use Rattle.cm_types.specs.declared.request.TypeRequest.{TypeRequest}
use Rattle.cm_types.specs.Types.{type_in}
use Rattle.cm_types.specs.Changes.{changed_type, placed_type, judge_with_change}
use Rattle.type_parts.specs.declared.replies.TypeReply.{TypeReply}
use Rattle.type_change_parts.specs.declared.writes.UpdateType.{UpdateType}
use Rattle.type_change_parts.specs.Weight.{weight_of_update_type}
use Rattle.cmis_spec.specs.Repository.{Repository}
use Rattle.wr_rules.specs.Rules.{judge_storage}
use Rattle.wr_types.specs.Retyped.{may_not_type, retyped, no_type}

abbrev pub cost_update_type : UpdateType → ℕ
cost_update_type call = weight_of_update_type call

-- ---- the refusal

-- a type that is not there comes before the caller's rights; then the causes of the list of types: a type that allows no update, a rule
-- that is broken
abbrev pub refusal_update_type : Repository → List ℕ → ℕ → UpdateType → Judged (Unit {0})
refusal_update_type r u cost call = do
  judge_storage r cost
  refuse causes.TypeNotFound (is_none (type_in r.types call.definition.id))
  refuse causes.Denied (may_not_type r u)
  types ← judge_with_change r.types call.definition
  Ok tt

-- ---- the repository after it

-- the type with another display name and description, and with the properties that are new
abbrev pub updated_type : List TypeDef → TypeRequest → TypeDef
updated_type types q = changed_type (unwrap_or (type_in types q.id) no_type) q

abbrev pub after_update_type : Repository → List ℕ → Moment → ℕ → UpdateType → Repository
after_update_type r u m cost call = retyped r (placed_type (updated_type r.types call.definition) r.types) cost

-- ---- the reply

abbrev pub acknowledgement_update_type : Repository → List ℕ → Moment → ℕ → UpdateType → TypeReply
acknowledgement_update_type r u m cost call = record { definition = updated_type r.types call.definition; created = false }
