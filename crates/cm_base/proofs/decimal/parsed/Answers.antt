use Rattle.std.proofs.Common.{rules}
use Rattle.cm_base.proofs.Digits.{parses}
use Rattle.cm_base.proofs.decimal.parsed.Goals as goal

pub returns-in-Err : goal.returns-in-Err
returns-in-Err c = search (rules, parses)
