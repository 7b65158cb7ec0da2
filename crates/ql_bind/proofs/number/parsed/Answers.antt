use Rattle.std.proofs.Common.{rules}
use Rattle.ql_bind.proofs.Digits.{parses}
use Rattle.ql_bind.proofs.number.parsed.Goals as goal

pub returns-in-Err : goal.returns-in-Err
returns-in-Err c = search (rules, parses)
