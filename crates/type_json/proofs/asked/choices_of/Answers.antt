use Rattle.std.proofs.Common.{arith}
use Rattle.type_json.specs.Reading.{choice_of}
use Rattle.type_json.proofs.Views.{kept_step}
use Rattle.type_json.proofs.asked.choices_of.Goals as goal

pub loop-value-preserved : goal.loop-value-preserved
loop-value-preserved c =
    kept_step (choice_of c.args.kind) c.args.values.now c.loop-value.value-index c.value-item.result c.loop-value.all c.push_choice.new.all
    (omega arith) c.value-item.is c.loop-value.invariant c.in_ok-push_choice.ensures
