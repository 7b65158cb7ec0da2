-- What lines of the refusals tell, once they refuse nothing.
use Rattle.std.specs.Prelude.{◌≡◌, false, not, ◌||◌, List, [], Ok}
use Rattle.cm_base.specs.declared.cause.Cause.TheVariants as causes
use Rattle.cm_base.specs.Judged.{refuse}
use Rattle.cm_types.specs.declared.definition.TypeDef.{TypeDef}
use Rattle.cm_types.specs.declared.definition.BaseType.{BaseType}
use Rattle.cm_types.specs.declared.given.Given.{Given}
use Rattle.cm_types.specs.declared.given.PropertyCall.TheVariants as calls
use Rattle.cm_types.specs.Types.{same_base}
use Rattle.cm_types.specs.Properties.{judge_properties}
use Rattle.create_parts.specs.declared.writes.ObjectRequest.{ObjectRequest}
use Rattle.cmis_laws.proofs.Passed.{then_ok, refuse_ok}
use Rattle.wr_rules.specs.Rules.{has_other_secondary}
use Rattle.wr_rules.specs.Wanted.{Wanted}
use Rattle.wr_create.specs.Making.{judge_type, judge_request}

pub type_ok : (types : List TypeDef) (base : BaseType) (wanted : Wanted) (kind : TypeDef) → judge_type types base wanted kind ≡ Ok tt → not (same_base base kind.base) || has_other_secondary types wanted.secondary ≡ false
type_ok types base wanted kind h = (refuse_ok causes.TypeKind (not (same_base base kind.base) || has_other_secondary types wanted.secondary) (refuse causes.NotCreatable (not kind.creatable)) h).0

pub request_ok : (wanted : Wanted) (object : ObjectRequest) (given : List Given) → judge_request wanted object given ≡ Ok tt → judge_properties calls.Create wanted.defs [] given ≡ Ok tt
request_ok wanted object given h = (then_ok (judge_properties calls.Create wanted.defs [] given) _ h).0
