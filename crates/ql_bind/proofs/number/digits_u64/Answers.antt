use Rattle.ql_bind.proofs.Digits.{none-digits}
use Rattle.ql_bind.proofs.number.digits_u64.Goals as goal

pub returns-in-Err : goal.returns-in-Err
returns-in-Err c = none-digits c.args.text.now c.in-Err.ensures.cases.0
