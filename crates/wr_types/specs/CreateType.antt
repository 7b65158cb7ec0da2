-- createType (CMIS 1.1, section 2.2.2.6): when it is refused, what it makes of the repository, and what it answers.
use Rattle.std.specs.Prelude.{ℕ, true, List, Ok, option_and_then, unwrap_or}
use Rattle.cm_base.specs.declared.number.Moment.{Moment}
use Rattle.cm_base.specs.declared.cause.Cause.TheVariants as causes
use Rattle.cm_base.specs.Judged.{Judged, ◌>>=◌, ◌>>◌, refuse}
use Rattle.cm_types.specs.declared.definition.TypeDef.{TypeDef}
use Rattle.cm_types.specs.declared.request.TypeRequest.{TypeRequest}
use Rattle.cm_types.specs.Types.{type_in}
use Rattle.cm_types.specs.Changes.{lacks_parent, made_type, placed_type, judge_with_type}
use Rattle.type_parts.specs.declared.replies.TypeReply.{TypeReply}
use Rattle.type_change_parts.specs.declared.writes.CreateType.{CreateType}
use Rattle.type_change_parts.specs.Weight.{weight_of_create_type}
use Rattle.cmis_spec.specs.Repository.{Repository}
use Rattle.wr_rules.specs.Rules.{judge_storage}
use Rattle.wr_types.specs.Retyped.{may_not_type, retyped, no_type}

abbrev pub cost_create_type : CreateType → ℕ
cost_create_type call = weight_of_create_type call

-- ---- the refusal

-- a parent that is not there comes before the caller's rights; then the causes of the list of types: an id or query name that is taken,
-- a parent that allows no subtypes, a rule that is broken
abbrev pub refusal_create_type : Repository → List ℕ → ℕ → CreateType → Judged (Unit {0})
refusal_create_type r u cost call = do
  judge_storage r cost
  refuse causes.TypeNotFound (lacks_parent r.types call.definition)
  refuse causes.Denied (may_not_type r u)
  types ← judge_with_type r.types call.definition
  Ok tt

-- ---- the repository after it

-- the type below its parent, with the defaults of what is not given
abbrev pub new_type : List TypeDef → TypeRequest → TypeDef
new_type types q = made_type (unwrap_or (option_and_then (type_in types) q.parent) no_type) q

abbrev pub after_create_type : Repository → List ℕ → Moment → ℕ → CreateType → Repository
after_create_type r u m cost call = retyped r (placed_type (new_type r.types call.definition) r.types) cost

-- ---- the reply

abbrev pub acknowledgement_create_type : Repository → List ℕ → Moment → ℕ → CreateType → TypeReply
acknowledgement_create_type r u m cost call = record { definition = new_type r.types call.definition; created = true }
