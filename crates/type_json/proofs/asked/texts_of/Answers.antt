use Rattle.std.proofs.Common.{arith}
use Rattle.serde_json.specs.Find.{as_str}
use Rattle.type_json.proofs.Views.{kept_step}
use Rattle.type_json.proofs.asked.texts_of.Goals as goal

pub loop-value-preserved : goal.loop-value-preserved
loop-value-preserved c =
    kept_step as_str c.args.values.now c.loop-value.value-index c.value-item.result c.loop-value.all c.push_text.new.all
    (omega arith) c.value-item.is c.loop-value.invariant c.in_ok-push_text.ensures
