use Rattle.http_wire.proofs.Digits.{none_decimal}
use Rattle.http_wire.proofs.fields.number.Goals as goal

pub returns-in-Err : goal.returns-in-Err
returns-in-Err c = none_decimal c.args.value.now c.in-Err.ensures.cases.0
