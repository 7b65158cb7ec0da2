use Rattle.cm_base.proofs.Digits.{none-decimal}
use Rattle.cm_base.proofs.decimal.read_u64.Goals as goal

pub returns-in-Err : goal.returns-in-Err
returns-in-Err c = none-decimal c.args.text.now c.in-Err.ensures.cases.0
