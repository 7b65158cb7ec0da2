use Rattle.std.proofs.Common.{rules}
use Rattle.http_wire.proofs.Digits.{parses}
use Rattle.http_wire.proofs.fields.parsed.Goals as goal

pub returns-in-Err : goal.returns-in-Err
returns-in-Err c = search (rules, parses)
