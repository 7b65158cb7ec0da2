-- Judged by definitions that are the same.
use Rattle.std.proofs.Common.{◌≡◌, List, subst}
use Rattle.std.specs.Prelude.{Result}
use Rattle.cm_base.specs.Judged.{Leaves}
use Rattle.cm_base.specs.declared.fail.Fail.{Fail}
use Rattle.cm_base.specs.declared.value.Slot.{Slot}
use Rattle.cm_types.specs.declared.given.Given.{Given}
use Rattle.cm_types.specs.declared.given.PropertyCall.{PropertyCall}
use Rattle.cm_types.specs.declared.property.PropDef.{PropDef}
use Rattle.cm_types.specs.Properties.{judge_properties}
use Rattle.cmis_spec.specs.Values.{values_kept}

pub leaves_by : (values : Result (List Slot) Fail) (call : PropertyCall) (ds es : List PropDef) (old : List Slot) (given : List Given) → ds ≡ es
    → Leaves values (judge_properties call ds old given) (values_kept call ds old given)
    → Leaves values (judge_properties call es old given) (values_kept call es old given)
leaves_by values call ds es old given same left = subst (λ d. Leaves values (judge_properties call d old given) (values_kept call d old given)) same left
